use Rattle.std.proofs.Common.{sym, refl, ap, ◌∙◌}
use Rattle.reading.specs.Input.{saturated, saturated_product, u32_at}
use Rattle.reading.specs.Reading.{vector_range, items}
use Rattle.verifier.proofs.Walks.{seen_exit, seen_then, seen_err, seen_got, seen_answer}
use Rattle.verifier.proofs.Vectors.{items_read, product_fits, product_lies}
use Rattle.verifier.proofs.verifier.Verifier.vector_range.Goals as goal

pub returns-in_err-len-clause-seen : goal.returns-in_err-len-clause-seen
unfolding vector_range
returns-in_err-len-clause-seen c = seen_exit _ _ _ c.from_residual.ensures.1 c.in_err-len.ensures

pub returns-in_err-is_aligned-clause-seen : goal.returns-in_err-is_aligned-clause-seen
unfolding items saturated
returns-in_err-is_aligned-clause-seen c =
    items_read _ _ _ c.in_ok-len.ensures c.saturating_add-start.ensures refl (seen_exit _ _ _ c.from_residual-in_err-is_aligned.ensures.1 c.in_err-is_aligned.ensures)

pub returns-in_err-range_in_buffer-clause-seen : goal.returns-in_err-range_in_buffer-clause-seen
unfolding items saturated saturated_product
returns-in_err-range_in_buffer-clause-seen c =
    items_read _ _ _ c.in_ok-len.ensures c.saturating_add-start.ensures c.saturating_mul.ensures
    (seen_then c.in_ok-is_aligned.ensures (seen_err _ _ c.from_residual-in_err-range_in_buffer.ensures.1 c.in_err-range_in_buffer.ensures.seen))

pub returns : goal.returns
unfolding items saturated saturated_product
returns c =
    let h = c.in_ok-len.ensures in
    let k = c.in_ok-range_in_buffer.ensures in
    record {
      seen = seen_answer _ _ (seen_got h ∙ sym (ap (λ b. u32_at b c.args.pos) k.seen.kept.buffer))
          (items_read _ _ _ h c.saturating_add-start.ensures c.saturating_mul.ensures (seen_then c.in_ok-is_aligned.ensures k.seen));
      fits = product_fits c.saturating_add-start.result _ c.in_ok-len.len c.args.size c.saturating_mul.result c.saturating_add-start.ensures c.saturating_mul.ensures k.fits;
      lies = product_lies c.saturating_add-start.result _ c.in_ok-len.len c.args.size c.saturating_mul.result _ c.saturating_add-start.ensures c.saturating_mul.ensures k.fits k.lies;
    }
