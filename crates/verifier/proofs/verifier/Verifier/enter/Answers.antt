use Rattle.reading.specs.Input.{saturated}
use Rattle.reading.specs.Reading.{enter}
use Rattle.verifier.proofs.Walks.{seen_then, seen_exit}
use Rattle.verifier.proofs.Tables.{seen_even}
use Rattle.verifier.proofs.verifier.Verifier.enter.Goals as goal

pub returns-in_err-is_aligned : goal.returns-in_err-is_aligned
unfolding enter saturated
returns-in_err-is_aligned c = seen_exit _ _ _ c.from_residual.ensures.1 (seen_even c.saturating_add.ensures c.in_err-is_aligned.ensures)

pub returns-in_err-range_in_buffer : goal.returns-in_err-range_in_buffer
unfolding enter saturated
returns-in_err-range_in_buffer c =
    seen_then (seen_even c.saturating_add.ensures c.in_ok-is_aligned.ensures)
    (seen_exit _ _ _ c.from_residual-in_err-range_in_buffer.ensures.1 c.in_err-range_in_buffer.ensures.seen)

pub returns-in_err-count_table : goal.returns-in_err-count_table
unfolding enter saturated
returns-in_err-count_table c =
    seen_then (seen_even c.saturating_add.ensures c.in_ok-is_aligned.ensures)
    (seen_then c.in_ok-range_in_buffer.ensures.seen
    (seen_exit _ _ _ c.from_residual-in_err-count_table.ensures.1 c.in_err-count_table.ensures))

pub returns : goal.returns
unfolding enter saturated
returns c =
    seen_then (seen_even c.saturating_add.ensures c.in_ok-is_aligned.ensures)
    (seen_then c.in_ok-range_in_buffer.ensures.seen
    (seen_then c.in_ok-count_table.ensures c.descend.ensures))
