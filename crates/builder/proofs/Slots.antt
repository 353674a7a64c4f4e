-- What pushing at a slot is told once the slot is known to be one of the open table's.
use Rattle.std.proofs.Common.{◌≡◌, ℕ, false, not, ◌&&◌, List, [], ◌∷◌, ◌++◌, length, is_some, Ok, Err, Result, ap}
use Rattle.std.specs.Prelude.{if◌then◌else◌}
use Rattle.model.specs.Calls.{Call, Reply}
use Rattle.model.specs.Steps.{full_test, in_table, record_in, tests}
use Rattle.model.specs.Tables.{lookup, no_room, record_slot}
use Rattle.model.specs.declared.field_loc.FieldLoc.{FieldLoc}
use Rattle.store.specs.declared.allocator.Allocator.{Ghosts}
use Rattle.tables.specs.Fields.{fields}
use Rattle.wire.specs.Answers.{Test, decided, push_tests, ◌because◌}
use Rattle.wire.specs.Pushed.{Pushed}
use Rattle.wire.specs.Slots.{slot_stands}
use Rattle.wire.specs.declared.refusal.Refusal.{Refusal}
use Rattle.wire.specs.declared.refusal.Refusal.TheVariants.{Finished, NotOpen, Slot}
use Rattle.builder.specs.declared.builder.FlatBufferBuilder.{FlatBufferBuilder}
use Rattle.builder.specs.Inner.{is_table}
use Rattle.builder.specs.View.{nest_of, view}
use Rattle.builder.proofs.Wrapped.{pass_three, slot_open}

module _ {S E : Type 0} {G : Ghosts S E} (b : FlatBufferBuilder S E G) (n : ℕ) (x : Pushed) where
  -- the tests of the value, and then whether there is a record for the slot
  abbrev pub value_tests : List Test
  value_tests = push_tests x (length (view b).used) (view b).limit

  pub record Checked : Type 0 where
    pub stands : not (slot_stands n) ≡ false
    pub pass : (y : Reply) → decided (tests (Call.push_slot_always n x) (view b)) y ≡ decided (value_tests ++ full_test n (view b).nest ∷ []) y
    pub fails : (full_test n (view b).nest).fails ≡ (not (is_some (lookup n (fields b.inner.field_locs))) && no_room (length (fields b.inner.field_locs)))
    pub recorded : (off : ℕ) (ls : List FieldLoc) → ls ≡ record_slot n off (fields b.inner.field_locs) → nest_of b.inner.nest ls ≡ record_in n off (view b).nest

  pub slot_checked : (u : Unit {0})
      → ◌≡◌ {A = Result (Unit {0}) (Refusal E)} (Ok u) (if b.inner.finished then Err Finished else if is_table b.inner.nest then (if slot_stands n then Ok tt else Err Slot) else Err NotOpen) → Checked
  slot_checked u e =
      let s = view b in
      let known = slot_open b.inner.finished b.inner.nest n (fields b.inner.field_locs) u e in
      let slot = known.1 in
      record {
        stands = slot.stands;
        pass = λ y. pass_three s (not (in_table s.nest) because NotOpen) (not (slot_stands n) because Slot) (value_tests ++ full_test n s.nest ∷ []) known.0 slot.within slot.stands y;
        fails = ap (λ (rs : List FieldLoc). not (is_some (lookup n rs)) && no_room (length rs)) slot.its;
        recorded = slot.recorded;
      }
