use Rattle.std.proofs.Common.{arith}
use Rattle.reading.specs.Input.{saturated}
use Rattle.reading.specs.Reading.{reading, visit_offsets}
use Rattle.verifier.proofs.Walks.{seen_told, told_exit}
use Rattle.verifier.proofs.Vectors.{element_goes, element_stops, offsets_read, rest_ends}
use Rattle.verifier.proofs.verifiable.VectorOfForwardsUOffsetVerifiable.run_verifier.Goals as goal

pub returns-in_err-len : goal.returns-in_err-len
unfolding reading visit_offsets
returns-in_err-len g c =
    told_exit _ _ _ c.from_residual.ensures.1 (seen_told c.in_err-len.ensures.seen)

pub overflow_add-position : goal.overflow_add-position
unfolding saturated
overflow_add-position g c = let f = c.in_ok-len.ensures.fits in let s = c.saturating_add-start.ensures in let i = c.loop-index-test.true in omega (arith, f, s, i)

pub returns-in_err-visit : goal.returns-in_err-visit
unfolding reading saturated
returns-in_err-visit g c =
    offsets_read c.args.pos _ _ c.in_ok-len.ensures.seen
    (element_stops _ _ _ _ (reading g.T.Verifiable.shape) _ _ c.saturating_add-start.ensures c.loop-index.invariant c.loop-index-test.true c.from_residual-in_err-visit.ensures.1 c.in_err-visit.ensures)

pub loop-index-preserved : goal.loop-index-preserved
unfolding reading saturated
loop-index-preserved g c =
    element_goes _ _ _ _ (reading g.T.Verifiable.shape) _ _ c.saturating_add-start.ensures c.loop-index.invariant c.loop-index-test.true c.in_ok-visit.ensures

pub returns : goal.returns
unfolding reading
returns g c =
    offsets_read c.args.pos _ _ c.in_ok-len.ensures.seen (rest_ends _ _ _ _ _ c.loop-index.invariant c.loop-index-test.false)
