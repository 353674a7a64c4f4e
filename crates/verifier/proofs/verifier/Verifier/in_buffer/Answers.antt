use Rattle.reading.specs.Reading.{in_buffer}
use Rattle.verifier.proofs.Walks.{seen_then, seen_exit}
use Rattle.verifier.proofs.verifier.Verifier.in_buffer.Goals as goal

pub returns-in_err-is_aligned : goal.returns-in_err-is_aligned
unfolding in_buffer
returns-in_err-is_aligned c = seen_exit _ _ _ c.from_residual.ensures.1 c.in_err-is_aligned.ensures

pub returns : goal.returns
unfolding in_buffer
returns c = seen_then c.in_ok-is_aligned.ensures c.range_in_buffer.ensures.seen
