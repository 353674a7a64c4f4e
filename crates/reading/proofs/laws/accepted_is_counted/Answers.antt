use Rattle.std.proofs.Common.{refl}
use Rattle.reading.proofs.Counted.{every_shape_counts}
use Rattle.reading.proofs.laws.accepted_is_counted.Goals as goal

pub returns : goal.returns
returns c = record { law = every_shape_counts; answer = refl }
