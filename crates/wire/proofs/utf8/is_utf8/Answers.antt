use Rattle.std.proofs.Common.{eqb, length, ap}
use Rattle.wire.specs.Utf8.{well_formed}
use Rattle.wire.proofs.utf8.is_utf8.Goals as goal

pub returns : goal.returns
unfolding well_formed
returns c = ap (λ n. eqb n (length c.args.bytes.now)) c.valid_up_to.ensures.value
