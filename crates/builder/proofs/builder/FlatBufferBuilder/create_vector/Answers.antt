use Rattle.std.proofs.Common.{ℕ, max, List, map, length, refl, ap, ◌∙◌, lit<}
use Rattle.model.specs.Calls.{Call, at}
use Rattle.wire.specs.Answers.{vector_tests}
use Rattle.wire.specs.Layouts.{vector_bytes}
use Rattle.wire.specs.Pushed.{Pushed}
use Rattle.wire.proofs.Decided.{decided_pass}
use Rattle.wire.proofs.Rows.{length_vector}
use Rattle.vectors.specs.Items.{item, item_layout, items_of}
use Rattle.builder.specs.View.{view}
use Rattle.builder.proofs.Wrapped.{did_done, did_handed, did_refused, unfinished, wrote_is, wrote_passed, wrote_short, wrote_value}
use Rattle.builder.proofs.builder.FlatBufferBuilder.create_vector.Goals as goal

pub returns-in_err-off : goal.returns-in_err-off
returns-in_err-off g c =
    let b = c.args.self.now in
    let items : List Pushed = map (item g.T.Kind) c.args.items.now in
    let k = item_layout g.T.Kind in
    let of = items_of g.T.Kind c.args.items.now in
    let ts = vector_tests k items (length b.space.taken) b.space.limit in
    did_handed c.from_residual-in_err-off.ensures.1
    (did_refused b _ (Call.create_vector k items of) refl at (lit< tt, (lit< tt, (lit< tt, tt))) c.in_err-off.ensures.wrote
    (λ y. decided_pass y _ ts (unfinished _ _ c.in_ok-assert_not_finished.ensures)) (length_vector k items (length b.space.taken) of))

pub invariant_of-self-2 : goal.invariant_of-self-2
invariant_of-self-2 g c =
    let made = c.in_ok-off.ensures.wrote in
    record { short = wrote_short made (length_vector (item_layout g.T.Kind) _ (length c.args.self.now.space.taken) (items_of g.T.Kind c.args.items.now)) (wrote_passed made).1.0 }

pub returns : goal.returns
returns g c =
    let b = c.args.self.now in
    let used = length b.space.taken in
    let items : List Pushed = map (item g.T.Kind) c.args.items.now in
    let k = item_layout g.T.Kind in
    let of = items_of g.T.Kind c.args.items.now in
    let ts = vector_tests k items (length b.space.taken) b.space.limit in
    let made = c.in_ok-off.ensures.wrote in
    rw c.track_min_align.ensures (did_done b _ (Call.create_vector k items of) at c.in_ok-off.off made
    (λ y. decided_pass y _ ts (unfinished _ _ c.in_ok-assert_not_finished.ensures))
    (ap at (wrote_value made))
    (wrote_is (view b) _ _ (max k.alignment 4) _ (vector_bytes k items used) made.space.limited made.space.used
    (ap (max b.inner.min_align) (c.max.ensures ∙ ap (λ (n : ℕ). max n 4) c.alignment.ensures)))
    refl (length_vector k items used of))
