use Rattle.std.proofs.Common.{◌≡◌, ℕ, ◌+◌, ◌*◌, max, List, length, refl, ap, ◌∙◌, arith, lit<}
use lib.ListN.{length-replicate}
use Rattle.std.proofs.lemmas.Bool.{ltb-false}
use Rattle.space.proofs.Spaces.{prepended_used}
use Rattle.model.specs.Calls.{Call, done}
use Rattle.wire.specs.Answers.{start_vector_tests}
use Rattle.wire.specs.Layouts.{start_space, vector_padding, vector_space}
use Rattle.wire.specs.Pushed.{Layout}
use Rattle.wire.specs.Bytes.{zeros}
use Rattle.tables.specs.Fields.{fields}
use Rattle.vectors.specs.Items.{item_layout}
use Rattle.builder.specs.View.{view}
use Rattle.builder.proofs.Wrapped.{did_done, did_handed, did_refused, pass_two, unnested, vector_is, wrote_passed}
use Rattle.builder.proofs.builder.FlatBufferBuilder.start_vector.Goals as goal

-- the zero bytes behind the vector
module _ (k : Layout) (count used : ℕ) where
  abbrev behind : List ℕ
  behind = zeros (vector_padding used (count * k.size) k.alignment)

  behind_size : used + length behind ≡ start_space k count used
  behind_size = simp length-replicate

pub returns-in_err-start_vector : goal.returns-in_err-start_vector
returns-in_err-start_vector g c =
    let b = c.args.self.now in
    let k = item_layout g.T.Kind in
    let free = unnested _ b.inner.nest (fields b.inner.field_locs) _ c.in_ok-assert_not_nested.ensures in
    did_handed c.from_residual-in_err-start_vector.ensures.1
    (did_refused b _ (Call.start_vector k c.args.count) refl (λ _. done) (lit< tt, (lit< tt, tt)) c.in_err-start_vector.ensures
    (pass_two (view b) _ (start_vector_tests k c.args.count (length b.space.taken) b.space.limit) free.0 free.1) (behind_size k c.args.count (length b.space.taken)))

pub overflow_cast-self : goal.overflow_cast-self
overflow_cast-self g c =
    let b = c.args.self.now in
    let k = item_layout g.T.Kind in
    let used = length b.space.taken in
    let made = c.in_ok-start_vector.ensures in
    let low = ltb-false 2147483647 (vector_space used (c.args.count * k.size) k.alignment) (wrote_passed made).0 in
    let long = prepended_used b.space c.start_vector.new.space _ _ (behind_size k c.args.count used) made.space in
    omega (arith, low, long, c.used.ensures)

pub invariant_of-self-2 : goal.invariant_of-self-2
invariant_of-self-2 g c =
    let b = c.args.self.now in
    let k = item_layout g.T.Kind in
    let used = length b.space.taken in
    let made = c.in_ok-start_vector.ensures in
    let low = ltb-false 2147483647 (vector_space used (c.args.count * k.size) k.alignment) (wrote_passed made).0 in
    let long = prepended_used b.space c.start_vector.new.space _ _ (behind_size k c.args.count used) made.space in
    record { short = omega (arith, low, long) }

pub returns : goal.returns
returns g c =
    let b = c.args.self.now in
    let s = view b in
    let k = item_layout g.T.Kind in
    let used = length b.space.taken in
    let size = behind_size k c.args.count used in
    let free = unnested _ b.inner.nest (fields b.inner.field_locs) _ c.in_ok-assert_not_nested.ensures in
    let made = c.in_ok-start_vector.ensures in
    let long = prepended_used b.space c.start_vector.new.space _ _ size made.space in
    rw c.track_min_align.ensures (did_done b _ (Call.start_vector k c.args.count) (λ _. done) tt made
    (pass_two s _ (start_vector_tests k c.args.count used s.limit) free.0 free.1)
    refl
    (vector_is s _ _ (max k.alignment 4) _ (behind k c.args.count used) _ _ _ _ made.space.limited made.space.used
    (ap (max s.met) (c.max.ensures ∙ ap (λ (n : ℕ). max n 4) c.alignment.ensures)) (c.used.ensures ∙ long) c.size.ensures)
    refl size)
