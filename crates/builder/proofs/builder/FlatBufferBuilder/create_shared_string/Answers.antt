use Rattle.std.proofs.Common.{◌≡◌, ℕ, true, false, not, [], ◌∷◌, ◌++◌, length, Some, None, Ok, Option, sym, refl, ap, ◌∙◌, subst, arith, lit<}
use Rattle.std.proofs.lemmas.Bool.{cond-true, le-leb, lt-leb}
use Rattle.space.specs.Taken.{Fronted}
use Rattle.space.proofs.Spaces.{fronted_same}
use Rattle.model.specs.Calls.{Call, at}
use Rattle.model.specs.Steps.{effect, pooled, reply, shared, shared_needs, shared_reply, shared_tests, tests}
use Rattle.model.specs.Tables.{no_room}
use Rattle.tables.specs.Fields.{offsets}
use Rattle.wire.specs.Answers.{decided}
use Rattle.wire.specs.Layouts.{string_object_bytes, string_space}
use Rattle.wire.proofs.Decided.{decided_ok_more, decided_pass, decided_stop}
use Rattle.wire.proofs.Rows.{length_string}
use Rattle.builder.specs.View.{view}
use Rattle.builder.proofs.Pooling.{fresh_needs, fresh_reply, fresh_tests, full_pool, text_checked, text_tests}
use Rattle.builder.proofs.Wrapped.{did_done_by, did_handed, did_full, did_refused_more, roomed_wrote, kept_done, pooled_is, wrote_passed, wrote_short, wrote_value}
use Rattle.builder.proofs.builder.FlatBufferBuilder.create_shared_string.Goals as goal

pub returns-in-Some : goal.returns-in-Some
returns-in-Some g c =
    let b = c.args.self.now in
    let s = view b in
    let text = c.args.text.now in
    let used = length s.used in
    let call = Call.create_shared_string text in
    let old : pooled text s ≡ Some c.in-Some.off = sym c.find_string.ensures ∙ c.in-Some.is in
    let told : Ok (at c.in-Some.off) ≡ decided (tests call s) (reply call s) =
    sym (text_checked b text _ c.in_ok-assert_not_nested.ensures c.if-not-is_utf8.ensures (reply call s)
    ∙ ap (λ (o : Option ℕ). decided (shared_tests text o s) (shared_reply o (string_space used (length text)))) old) in
    record {
      answer = told;
      state = sym (kept_done _ (reply call s) (tests call s) (effect call s) s told ∙ ap (λ (o : Option ℕ). shared text o s) old);
      store =
          subst (λ (o : Option ℕ). Fronted b.space b.space (shared_needs text o used) 0 false) (sym old)
          (fronted_same b.space used (omega arith));
    }

pub returns-in_err-room_for_string : goal.returns-in_err-room_for_string
returns-in_err-room_for_string g c =
    let b = c.args.self.now in
    let s = view b in
    let text = c.args.text.now in
    let used = length s.used in
    let ts = text_tests b text in
    let full = full_pool b text in
    let call = Call.create_shared_string text in
    let fresh : pooled text s ≡ None = sym c.find_string.ensures ∙ c.in_default.is in
    let on = fresh_tests b text fresh (reply call s) (text_checked b text _ c.in_ok-assert_not_nested.ensures c.if-not-is_utf8.ensures (reply call s)) in
    let told = c.in_err-room_for_string.ensures in
    let after = c.room_for_string.new.space in
    let size = length_string text used in
    did_handed c.from_residual-in_err-room_for_string.ensures.1 (did_refused_more b _ call refl at (full_pool b text ∷ []) (lit< tt, (lit< tt, tt)) (roomed_wrote (string_object_bytes text used) c.in_err-room_for_string.ensures (omega arith)) on
    (size ∙ fresh_needs b text fresh))

pub returns-then-len-ge-ENTRIES : goal.returns-then-len-ge-ENTRIES
returns-then-len-ge-ENTRIES g c =
    let b = c.args.self.now in
    let s = view b in
    let text = c.args.text.now in
    let used = length s.used in
    let ts = text_tests b text in
    let full = full_pool b text in
    let call = Call.create_shared_string text in
    let fresh : pooled text s ≡ None = sym c.find_string.ensures ∙ c.in_default.is in
    let on = fresh_tests b text fresh (reply call s) (text_checked b text _ c.in_ok-assert_not_nested.ensures c.if-not-is_utf8.ensures (reply call s)) in
    let made = c.in_ok-room_for_string.ensures in
    let stop : no_room (length s.strings) ≡ true = le-leb 256 (length s.strings) (omega (arith, c.if-len-ge-ENTRIES.true, c.len.ensures)) in
    let size = length_string text used in
    did_full b _ call refl at _ (sym (on ∙ decided_ok_more _ _ ts (full ∷ []) (reply call s) made.answer ∙ decided_stop (reply call s) full [] stop)) (omega (arith, fresh_needs b text fresh)) made.space

pub invariant_of-self-2 : goal.invariant_of-self-2
invariant_of-self-2 g c =
    let made = c.in_ok-off.ensures in
    record { short = wrote_short made (length_string c.args.text.now (length c.args.self.now.space.taken)) (wrote_passed made).0 }

pub returns : goal.returns
returns g c =
    let b = c.args.self.now in
    let s = view b in
    let text = c.args.text.now in
    let used = length s.used in
    let ts = text_tests b text in
    let full = full_pool b text in
    let call = Call.create_shared_string text in
    let fresh : pooled text s ≡ None = sym c.find_string.ensures ∙ c.in_default.is in
    let on = fresh_tests b text fresh (reply call s) (text_checked b text _ c.in_ok-assert_not_nested.ensures c.if-not-is_utf8.ensures (reply call s)) in
    let made = c.in_ok-off.ensures in
    let room : no_room (length s.strings) ≡ false = lt-leb 256 (length s.strings) (omega (arith, c.if-len-ge-ENTRIES.false, c.len.ensures)) in
    let off : c.in_ok-off.off ≡ string_space used (length text) = wrote_value made in
    let yes : c.push.result ≡ true = c.push.ensures.value ∙ ap not room in
    let kept : offsets c.push.new.self ≡ s.strings ++ string_space used (length text) ∷ [] =
    c.push.ensures.offsets ∙ cond-true c.push.result _ _ yes ∙ ap (λ (o : ℕ). s.strings ++ o ∷ []) off in
    rw c.track_min_align.ensures (did_done_by b _ call at c.in_ok-off.off (string_object_bytes text used)
    (ap (λ (o : ℕ). Ok (at o)) off ∙ ap Ok (sym (fresh_reply b text fresh)) ∙ sym (on ∙ decided_ok_more _ _ ts (full ∷ []) (reply call s) made.answer ∙ decided_pass (reply call s) full [] room))
    (pooled_is s _ _ _ (string_object_bytes text used) _ (string_space used (length text)) made.space.limited made.space.used refl kept ∙ sym (ap (λ (o : Option ℕ). shared text o s) fresh))
    refl (length_string text used ∙ fresh_needs b text fresh) made.space)
