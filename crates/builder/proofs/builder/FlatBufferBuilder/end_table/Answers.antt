use Rattle.std.proofs.Common.{◌≡◌, ℕ, false, not, eqb, leb, List, length, sym, refl, ap, ◌∙◌, subst, arith, length-append}
use Rattle.std.proofs.lemmas.Bool.{eq-eqb, ltb-false}
use Rattle.space.specs.Taken.{Fronted}
use Rattle.model.specs.Calls.{Call, Reply, at}
use Rattle.model.specs.Steps.{effect, end_table_tests, ends_table, table_needs, tests}
use Rattle.model.specs.Tables.{equal_object, table_bytes, table_offset, table_space, table_tests, table_vtable}
use Rattle.tables.specs.Fields.{fields}
use Rattle.wire.specs.declared.refusal.Refusal.TheVariants.{NotOpen}
use Rattle.wire.specs.Answers.{Test, Where, decided, number, ◌because◌}
use Rattle.wire.proofs.Decided.{decided_err}
use Rattle.vectors.proofs.Created.{passed}
use Rattle.builder.specs.declared.inner.Open.{Open}
use Rattle.builder.specs.declared.inner.Open.TheVariants.{Table}
use Rattle.builder.specs.View.{nest_of, view}
use Rattle.builder.proofs.Wrapped.{did_handed, unfinished, fronted_limit, kept_refused, left_is, length_table, pass_two}
use Rattle.builder.proofs.builder.FlatBufferBuilder.end_table.Goals as goal

pub returns-in_err-off : goal.returns-in_err-off
returns-in_err-off g c =
    let b = c.args.self.now in
    let s = view b in
    let ls = fields b.inner.field_locs in
    let used = length s.used in
    let start = c.args.start in
    let vt = table_vtable used start ls in
    let found = equal_object s.used vt s.vtables in
    let ts = table_tests start ls s.used s.vtables s.limit in
    let after = c.end_table.new.space in
    let told = c.in_err-off.ensures in
    let nest : b.inner.nest ≡ Table start = c.in-Table.is ∙ ap Table (sym c.if-start-begun.true) in
    let ends : not (ends_table start s.nest) ≡ false = ap (λ (o : Open). not (ends_table start (nest_of o ls))) nest ∙ ap not (eq-eqb start start refl) in
    let same : end_table_tests s.nest s ≡ ts = ap (λ (o : Open). end_table_tests (nest_of o ls) s) nest in
    let pass : (y : Reply) → decided (tests (Call.end_table start) s) y ≡ decided ts y =
    λ y. pass_two s (not (ends_table start s.nest) because NotOpen) (end_table_tests s.nest s) (unfinished _ _ c.in_ok-assert_not_finished.ensures) ends y ∙ ap (λ (us : List Test). decided us y) same in
    let answer = decided_err _ ts _ (at (table_offset used)) told.answer ∙ sym (pass (at (table_offset used))) in
    did_handed c.from_residual-in_err-off.ensures.1 record {
      answer = answer;
      state =
          left_is s _ _ _ (fronted_limit b.space after _ _ told.store) told.used told.vtables
          ∙ sym (kept_refused _ (tests (Call.end_table start) s) (at (table_offset used)) (effect (Call.end_table start) s) s answer);
      store = subst (λ (k : ℕ). Where (leb 12 (number c.in_err-off.field-0.0)) (Fronted b.space after k 0 (eqb (number c.in_err-off.field-0.0) 12)) (after ≡ b.space))
          (sym (ap (λ (o : Open). table_needs (nest_of o ls) used) nest)) told.store;
    }

pub invariant_of-self-2 : goal.invariant_of-self-2
invariant_of-self-2 g c =
    let b = c.args.self.now in
    let s = view b in
    let ls = fields b.inner.field_locs in
    let used = length s.used in
    let start = c.args.start in
    let vt = table_vtable used start ls in
    let found = equal_object s.used vt s.vtables in
    let ts = table_tests start ls s.used s.vtables s.limit in
    let after = c.end_table.new.space in
    let made = c.in_ok-off.ensures in
    let low = ltb-false 2147483647 (table_space used vt found) (passed ts _ _ made.answer).1.0 in
    let long = ap length made.used ∙ length-append (table_bytes used vt found) s.used ∙ length_table used vt found in
    record { short = omega (arith, low, long, b.short) }
