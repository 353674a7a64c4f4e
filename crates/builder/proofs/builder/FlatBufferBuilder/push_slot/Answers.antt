use Rattle.std.proofs.Common.{◌≡◌, ℕ, Bool, true, false, cond, not, ◌||◌, [], ◌∷◌, length, refl, Ok, Err, Option, sym, ap, ◌∙◌, arith}
use Rattle.space.proofs.Spaces.{fronted_same}
use Rattle.std.specs.Prelude.{if◌then◌else◌}
use Rattle.store.specs.declared.allocator.Allocator.{Ghosts}
use Rattle.model.specs.Calls.{Call, Reply, done}
use Rattle.model.specs.Steps.{effect, in_table, needs, record_tests, reply, slotted, tests}
use Rattle.model.specs.Steps as Steps
use Rattle.tables.specs.Fields.{fields}
use Rattle.wire.specs.declared.refusal.Refusal.TheVariants.{NotOpen, Offset, Slot}
use Rattle.wire.specs.Answers.{decided, ◌because◌}
use Rattle.wire.specs.Kind.{stands}
use Rattle.wire.specs.Layouts.{pushed_offset}
use Rattle.wire.specs.Pushed.{Pushed, pushed}
use Rattle.builder.specs.declared.builder.FlatBufferBuilder.{FlatBufferBuilder}
use Rattle.builder.specs.View.{view, Did}
use Rattle.wire.specs.Slots.{slot_stands}
use Rattle.builder.proofs.Wrapped.{did_handed, slot_refused, slot_open, kept_done, kept_refused, pass_three}
use Rattle.builder.proofs.builder.FlatBufferBuilder.push_slot.Goals as goal

-- nothing is pushed, and the last test is the offset's
module _ {S E : Type 0} {G : Ghosts S E} (b : FlatBufferBuilder S E G) (c : Call) where
  checked : (stand : Bool) → ((y : Reply) → decided (tests c (view b)) y ≡ decided ((not stand because Offset) ∷ []) y)
      → reply c (view b) ≡ done → effect c (view b) ≡ view b → needs c (view b) ≡ length b.space.taken → Steps.returns c (view b) ≡ 0
      → Did {A = Unit {0}} (λ _. done) c b b (if stand then Ok tt else Err Offset)
  checked true pass is same need none =
      let told = ap Ok (sym is) ∙ sym (pass (reply c (view b))) in
      record {
        answer = told;
        state = sym (kept_done _ _ (tests c (view b)) (effect c (view b)) (view b) told ∙ same);
        store = rw (need, none) (fronted_same b.space (length b.space.taken) (omega arith));
      }
  checked false pass is same need none =
      let told = sym (pass (reply c (view b))) in
      record { answer = told; state = sym (kept_refused _ (tests c (view b)) _ (effect c (view b)) (view b) told); store = refl }

pub returns-in_err-assert_slot : goal.returns-in_err-assert_slot
returns-in_err-assert_slot g c =
    let x : Pushed = pushed g.T.Kind.meaning g.T.Kind.lawful c.args.x.now in
    let s = view c.args.self.now in
    let n = c.args.slot in
    let differs = not (g.T.Kind.meaning.equal c.args.x.now c.args.default.now) in
    let rest = (not (stands x.offset (length s.used)) because Offset) ∷ cond (differs || s.forced) (record_tests n x s) [] in
    did_handed c.from_residual.ensures.1 (slot_refused c.args.self.now (Call.push_slot n x differs) (λ _. done) n rest _ refl c.in_err-assert_slot.ensures)

pub returns : goal.returns
returns g c =
    let b = c.args.self.now in
    let s = view b in
    let x : Pushed = pushed g.T.Kind.meaning g.T.Kind.lawful c.args.x.now in
    let n = c.args.slot in
    let used = length s.used in
    let ls = fields b.inner.field_locs in
    let differs = not (g.T.Kind.meaning.equal c.args.x.now c.args.default.now) in
    let call = Call.push_slot n x differs in
    let same : differs ≡ false = ap not (sym c.equals.ensures ∙ c.if-not-equals.false) in
    let free : b.inner.force_defaults ≡ false = c.if-self.false in
    let none : (differs || s.forced) ≡ false = ap (λ (d : Bool). d || s.forced) same ∙ free in
    let going = slot_open _ b.inner.nest n ls _ c.in_ok-assert_slot.ensures in
    let is : c.assert_offset_stands.result ≡ (if stands x.offset used then Ok tt else Err Offset) =
    c.assert_offset_stands.ensures ∙ ap (λ (o : Option ℕ). if stands o c.used.result then Ok tt else Err Offset) c.offset.ensures ∙ ap (λ (k : ℕ). if stands x.offset k then Ok tt else Err Offset) c.used.ensures in
    let rest = cond (differs || s.forced) (record_tests n x s) [] in
    let told : (y : Reply) → decided (tests call s) y ≡ decided ((not (stands x.offset used) because Offset) ∷ []) y =
    λ y. pass_three s (not (in_table s.nest) because NotOpen) (not (slot_stands n) because Slot) ((not (stands x.offset used) because Offset) ∷ rest) going.0 going.1.within going.1.stands y
    ∙ ap (λ (t : Bool). decided ((not (stands x.offset used) because Offset) ∷ cond t (record_tests n x s) []) y) none in
    rw is (checked b call (stands x.offset used) told refl (ap (λ (t : Bool). cond t (slotted n x s) s) none) (ap (λ (t : Bool). cond t (pushed_offset x used) used) none) refl)
