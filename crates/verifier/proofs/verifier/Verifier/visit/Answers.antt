use Rattle.std.proofs.Common.{ap}
use Rattle.reading.specs.Reading.{reading}
use Rattle.verifier.proofs.Walks.{told_is, told_within, told_result}
use Rattle.verifier.proofs.verifier.Verifier.visit.Goals as goal

pub returns : goal.returns
returns g c =
    told_result c.append_trace.ensures.result
    (told_within c.args.layer (told_is (ap (reading g.T.Verifiable.shape) c.position.ensures) c.run_verifier-res.ensures) c.append_trace.ensures.wrote)
