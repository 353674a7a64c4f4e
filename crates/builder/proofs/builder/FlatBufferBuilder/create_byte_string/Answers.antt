use Rattle.std.proofs.Common.{length, refl, ap}
use Rattle.model.specs.Calls.{Call, at}
use Rattle.wire.specs.Answers.{string_tests}
use Rattle.wire.specs.Layouts.{string_object_bytes}
use Rattle.wire.proofs.Rows.{length_string}
use Rattle.tables.specs.Fields.{fields}
use Rattle.builder.specs.View.{view}
use Rattle.builder.proofs.Wrapped.{did_done, pass_two, unnested, wrote_is, wrote_passed, wrote_short, wrote_value}
use Rattle.builder.proofs.builder.FlatBufferBuilder.create_byte_string.Goals as goal

pub invariant_of-self-2 : goal.invariant_of-self-2
invariant_of-self-2 g c =
    let made = c.in_ok-off.ensures in
    record { short = wrote_short made (length_string c.args.text.now (length c.args.self.now.space.taken)) (wrote_passed made).0 }

pub returns : goal.returns
returns g c =
    let b = c.args.self.now in
    let text = c.args.text.now in
    let used = length b.space.taken in
    let free = unnested _ b.inner.nest (fields b.inner.field_locs) _ c.in_ok-assert_not_nested.ensures in
    let made = c.in_ok-off.ensures in
    rw c.track_min_align.ensures (did_done b _ (Call.create_byte_string text) at c.in_ok-off.off made
    (pass_two (view b) _ (string_tests text used b.space.limit) free.0 free.1)
    (ap at (wrote_value made))
    (wrote_is (view b) _ _ 4 _ (string_object_bytes text used) made.space.limited made.space.used refl)
    refl (length_string text used))
