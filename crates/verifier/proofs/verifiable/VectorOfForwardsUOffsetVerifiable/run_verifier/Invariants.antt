use Rattle.reading.specs.Input.{saturated}
use Rattle.reading.specs.Reading.{reading, element_at}
use Rattle.verifier.proofs.Vectors.{Rest}
use Rattle.verifier.proofs.verifiable.VectorOfForwardsUOffsetVerifiable.run_verifier.Given as goal

abbrev pub invariant-loop-index : goal.invariant-loop-index
invariant-loop-index g l = Rest (element_at (saturated l.pos 4) (reading g.T.Verifiable.shape)) l.index l.len l.initial.v l.v
