use Rattle.std.proofs.Common.{refl}
use Rattle.reading.proofs.Law.{every_shape_lies_inside}
use Rattle.reading.proofs.laws.accepted_lies_inside.Goals as goal

pub returns : goal.returns
returns c = record { law = every_shape_lies_inside; answer = refl }
