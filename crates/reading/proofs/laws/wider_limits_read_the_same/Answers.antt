use Rattle.std.proofs.Common.{refl}
use Rattle.reading.proofs.Wider.{wider_limits_read_the_same}
use Rattle.reading.proofs.laws.wider_limits_read_the_same.Goals as goal

pub returns : goal.returns
returns c = record { law = wider_limits_read_the_same; answer = refl }
