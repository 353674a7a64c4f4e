use Rattle.std.proofs.Common.{length, refl, lit<}
use Rattle.model.specs.Calls.{Call, done}
use Rattle.model.specs.Finish.{finish_bytes, finish_tests}
use Rattle.tables.specs.Fields.{fields}
use Rattle.finish.specs.Given.{given}
use Rattle.finish.proofs.Heads.{length_finish}
use Rattle.builder.specs.View.{view}
use Rattle.builder.proofs.Wrapped.{closed_is, did_done, did_handed, did_refused, pass_two, unnested, wrote_passed, wrote_short}
use Rattle.builder.proofs.builder.FlatBufferBuilder.finish_with_opts.Goals as goal

pub returns-in_err-finish : goal.returns-in_err-finish
returns-in_err-finish g c =
    let b = c.args.self.now in
    let id = given c.args.file_identifier in
    let prefixed = c.args.size_prefixed in
    let ts = finish_tests c.args.root id prefixed (length b.space.taken) b.inner.min_align b.space.limit in
    let free = unnested _ b.inner.nest (fields b.inner.field_locs) _ c.in_ok-assert_not_nested.ensures in
    did_handed c.from_residual-in_err-finish.ensures.1
    (did_refused b _ (Call.finish c.args.root id prefixed) refl (λ _. done) (lit< tt, (lit< tt, (lit< tt, (lit< tt, tt)))) c.in_err-finish.ensures
    (pass_two (view b) _ ts free.0 free.1) (length_finish c.args.root id prefixed (length b.space.taken) b.inner.min_align))

pub invariant_of-self-2 : goal.invariant_of-self-2
invariant_of-self-2 g c =
    let b = c.args.self.now in
    let made = c.in_ok-finish.ensures in
    record { short = wrote_short made (length_finish c.args.root (given c.args.file_identifier) c.args.size_prefixed (length b.space.taken) b.inner.min_align) (wrote_passed made).1.1.0 }

pub returns : goal.returns
returns g c =
    let b = c.args.self.now in
    let used = length b.space.taken in
    let met = b.inner.min_align in
    let id = given c.args.file_identifier in
    let prefixed = c.args.size_prefixed in
    let ts = finish_tests c.args.root id prefixed (length b.space.taken) b.inner.min_align b.space.limit in
    let free = unnested _ b.inner.nest (fields b.inner.field_locs) _ c.in_ok-assert_not_nested.ensures in
    let made = c.in_ok-finish.ensures in
    rw c.track_min_align.ensures (did_done b _ (Call.finish c.args.root id prefixed) (λ _. done) tt made
    (pass_two (view b) _ ts free.0 free.1)
    refl
    (closed_is (view b) _ _ _ (finish_bytes c.args.root id prefixed used met) _ made.space.limited made.space.used refl c.clear.ensures)
    refl (length_finish c.args.root id prefixed used met))
