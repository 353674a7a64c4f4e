use Rattle.std.proofs.Common.{ap}
use Rattle.reading.specs.Input.{saturated}
use Rattle.reading.specs.Reading.{reading}
use Rattle.verifier.proofs.Walks.{told_is}
use Rattle.verifier.proofs.verifiable.SkipSizePrefixVerifiable.run_verifier.Goals as goal

pub returns : goal.returns
unfolding reading saturated
returns g c = told_is (ap (reading g.T.Verifiable.shape) c.saturating_add.ensures) c.run_verifier.ensures
