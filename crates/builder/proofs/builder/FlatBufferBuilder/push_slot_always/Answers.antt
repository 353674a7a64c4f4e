use Rattle.std.proofs.Common.{◌≡◌, ℕ, max, true, false, not, ◌&&◌, [], ◌∷◌, length, is_some, sym, refl, ap, ◌∙◌, arith, lit<}
use Rattle.std.proofs.lemmas.Bool.{and_from, cond-true, not-false, not-true}
use Rattle.model.specs.Calls.{Call, done}
use Rattle.model.specs.Steps.{full_test}
use Rattle.model.specs.Tables.{lookup, no_room, record_slot}
use Rattle.tables.specs.Fields.{fields}
use Rattle.wire.specs.Layouts.{pushed_bytes, pushed_offset}
use Rattle.wire.specs.Pushed.{Pushed}
use Rattle.vectors.specs.Items.{item}
use Rattle.wire.proofs.Decided.{decided_ok_more, decided_pass, decided_stop}
use Rattle.wire.proofs.Rows.{length_pushed}
use Rattle.builder.specs.View.{view}
use Rattle.builder.proofs.Slots.{slot_checked, value_tests}
use Rattle.builder.proofs.Wrapped.{did_handed, slot_refused, did_done_by, did_full, did_refused_more, roomed_wrote, slotted_is, wrote_passed, wrote_short, wrote_value}
use Rattle.builder.proofs.builder.FlatBufferBuilder.push_slot_always.Goals as goal

pub returns-in_err-assert_slot : goal.returns-in_err-assert_slot
returns-in_err-assert_slot g c =
    did_handed c.from_residual.ensures.1 (slot_refused c.args.self.now _ (λ _. done) c.args.slot _ _ refl c.in_err-assert_slot.ensures)

pub returns-in_err-room_for_value : goal.returns-in_err-room_for_value
returns-in_err-room_for_value g c =
    let b = c.args.self.now in
    let x : Pushed = item g.T.Kind c.args.x.now in
    let n = c.args.slot in
    let used = length (view b).used in
    let ts = value_tests b n x in
    let room = full_test n (view b).nest ∷ [] in
    let slot = slot_checked b n x _ c.in_ok-assert_slot.ensures in
    let told = c.in_err-room_for_value.ensures in
    let after = c.room_for_value.new.space in
    let size = length_pushed x used in
    did_handed c.from_residual-in_err-room_for_value.ensures.1 (did_refused_more b _ (Call.push_slot_always n x) refl (λ _. done) room (lit< tt, (lit< tt, (lit< tt, tt))) (roomed_wrote (pushed_bytes x used) told (omega arith)) (slot.pass done) size)

pub returns-then-not-room_for : goal.returns-then-not-room_for
returns-then-not-room_for g c =
    let b = c.args.self.now in
    let x : Pushed = item g.T.Kind c.args.x.now in
    let n = c.args.slot in
    let used = length (view b).used in
    let ts = value_tests b n x in
    let room = full_test n (view b).nest ∷ [] in
    let slot = slot_checked b n x _ c.in_ok-assert_slot.ensures in
    let made = c.in_ok-room_for_value.ensures in
    let full : (full_test n (view b).nest).fails ≡ true = slot.fails ∙ not-false _ (sym c.if-not-room_for.ensures) in
    did_full b _ (Call.push_slot_always n x) refl (λ _. done) _
    (sym (slot.pass done ∙ decided_ok_more _ _ ts room done made.answer ∙ decided_stop done (full_test n (view b).nest) [] full)) (omega arith) made.space

pub returns-in_err-off : goal.returns-in_err-off
returns-in_err-off g c =
    let b = c.args.self.now in
    let x : Pushed = item g.T.Kind c.args.x.now in
    let n = c.args.slot in
    let used = length (view b).used in
    let ts = value_tests b n x in
    let room = full_test n (view b).nest ∷ [] in
    let slot = slot_checked b n x _ c.in_ok-assert_slot.ensures in
    let told = c.in_err-off.ensures.wrote in
    did_handed c.from_residual-in_err-off.ensures.1 (did_refused_more b _ (Call.push_slot_always n x) refl (λ _. done) room (lit< tt, (lit< tt, (lit< tt, tt))) told (slot.pass done) (length_pushed x used))

pub invariant_of-self-2 : goal.invariant_of-self-2
invariant_of-self-2 g c =
    let made = c.in_ok-off.ensures.wrote in
    record { short = wrote_short made (length_pushed (item g.T.Kind c.args.x.now) (length c.args.self.now.space.taken)) (wrote_passed made).1.0 }

pub returns : goal.returns
returns g c =
    let b = c.args.self.now in
    let x : Pushed = item g.T.Kind c.args.x.now in
    let n = c.args.slot in
    let used = length (view b).used in
    let ts = value_tests b n x in
    let room = full_test n (view b).nest ∷ [] in
    let slot = slot_checked b n x _ c.in_ok-assert_slot.ensures in
    let s = view b in
    let ls = fields b.inner.field_locs in
    let made = c.in_ok-off.ensures.wrote in
    let open-room : (not (is_some (lookup n ls)) && no_room (length ls)) ≡ false = not-true _ (sym c.if-not-room_for.ensures) in
    let off : c.in_ok-off.off ≡ pushed_offset x used = wrote_value made in
    let yes : c.record.result ≡ true = c.record.ensures.value ∙ and_from _ _ (not-false _ slot.stands) (sym c.if-not-room_for.ensures) in
    let recorded : fields c.record.new.self ≡ record_slot n (pushed_offset x used) ls =
    c.record.ensures.fields ∙ cond-true c.record.result _ _ yes ∙ ap (λ (o : ℕ). record_slot n o ls) off in
    rw c.track_min_align.ensures (did_done_by b _ (Call.push_slot_always n x) (λ _. done) tt (pushed_bytes x used)
    (sym (slot.pass done ∙ decided_ok_more _ _ ts room done made.answer ∙ decided_pass done (full_test n s.nest) [] (slot.fails ∙ open-room)))
    (slotted_is s n (pushed_offset x used) _ _ x.alignment _ (pushed_bytes x used) _ made.space.limited made.space.used (ap (max s.met) c.alignment.ensures)
    (slot.recorded (pushed_offset x used) _ recorded))
    refl (length_pushed x used) made.space)
