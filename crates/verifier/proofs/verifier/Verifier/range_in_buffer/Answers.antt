use Rattle.std.proofs.Common.{◌<◌, ◌≤◌, length, sym, ap, ◌∙◌, subst}
use Rattle.reading.specs.Input.{saturated}
use Rattle.reading.specs.Reading.{ranged, spend, with_size}
use Rattle.reading.specs.declared.invalid.InvalidFlatbuffer.TheVariants.{ApparentSizeTooLarge}
use Rattle.verifier.specs.Told.{bytes}
use Rattle.verifier.proofs.Walks.{seen_out, ranged_in, seen_counted}
use Rattle.verifier.proofs.verifier.Verifier.range_in_buffer.Goals as goal

pub returns-then-end-self-clause-seen : goal.returns-then-end-self-clause-seen
unfolding saturated
returns-then-end-self-clause-seen c =
    rw c.saturating_add-end.ensures
    (seen_out c.args.pos c.args.size c.args.self.now (subst (λ n. length (bytes c.args.self.now) < n) c.saturating_add-end.ensures c.if-end-self.true))

pub returns-clause-seen : goal.returns-clause-seen
unfolding saturated spend
returns-clause-seen c =
    let i = ranged_in c.args.pos c.args.size c.args.self.now (subst (λ n. n ≤ length (bytes c.args.self.now)) c.saturating_add-end.ensures c.if-end-self.false) in
    seen_counted (ranged c.args.pos c.args.size) ApparentSizeTooLarge _ c.args.self.now i.0 c.raise.ensures.answer
    (ap (with_size c.args.self.now.counters) c.raise.ensures.value ∙ sym i.1)
