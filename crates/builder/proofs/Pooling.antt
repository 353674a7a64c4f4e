-- What a shared string is told once it is known to be text and nothing is open.
use Rattle.std.proofs.Common.{◌≡◌, ℕ, true, not, List, [], ◌∷◌, ◌++◌, length, None, Ok, Err, Option, Result, sym, ap, ◌∙◌}
use Rattle.std.specs.Prelude.{if◌then◌else◌}
use Rattle.model.specs.Calls.{Call, Reply, at}
use Rattle.model.specs.Steps.{is_open, needs, pooled, reply, shared_needs, shared_reply, shared_tests, tests}
use Rattle.model.specs.Tables.{no_room}
use Rattle.store.specs.declared.allocator.Allocator.{Ghosts}
use Rattle.tables.specs.Fields.{fields}
use Rattle.wire.specs.Answers.{Test, decided, string_tests, ◌because◌}
use Rattle.wire.specs.Layouts.{string_space}
use Rattle.wire.specs.Utf8.{well_formed}
use Rattle.wire.specs.declared.refusal.Refusal.{Refusal}
use Rattle.wire.specs.declared.refusal.Refusal.TheVariants.{Finished, Full, Nested, Text}
use Rattle.builder.specs.declared.builder.FlatBufferBuilder.{FlatBufferBuilder}
use Rattle.builder.specs.Inner.{is_nothing}
use Rattle.builder.specs.View.{view}
use Rattle.builder.proofs.Wrapped.{pass_three, unnested}

module _ {S E : Type 0} {G : Ghosts S E} (b : FlatBufferBuilder S E G) (text : List ℕ) where
  -- the pool holds as many strings as it can
  abbrev pub full_pool : Test
  full_pool = no_room (length (view b).strings) because Full

  abbrev pub text_tests : List Test
  text_tests = string_tests text (length (view b).used) (view b).limit

  pub text_checked : (u : Unit {0}) → ◌≡◌ {A = Result (Unit {0}) (Refusal E)} (Ok u) (if b.inner.finished then Err Finished else if is_nothing b.inner.nest then Ok tt else Err Nested) → true ≡ well_formed text
      → (y : Reply) → decided (tests (Call.create_shared_string text) (view b)) y ≡ decided (shared_tests text (pooled text (view b)) (view b)) y
  text_checked u e formed y =
      let s = view b in
      let free = unnested b.inner.finished b.inner.nest (fields b.inner.field_locs) u e in
      pass_three s (is_open s.nest because Nested) (not (well_formed text) because Text) (shared_tests text (pooled text s) s) free.0 free.1 (ap not (sym formed)) y

  -- where no equal string is pooled
  module _ (fresh : pooled text (view b) ≡ None) where
    pub fresh_tests : (y : Reply) → decided (tests (Call.create_shared_string text) (view b)) y ≡ decided (shared_tests text (pooled text (view b)) (view b)) y
        → decided (tests (Call.create_shared_string text) (view b)) y ≡ decided (text_tests ++ full_pool ∷ []) y
    fresh_tests y pass = pass ∙ ap (λ (o : Option ℕ). decided (shared_tests text o (view b)) y) fresh

    pub fresh_reply : reply (Call.create_shared_string text) (view b) ≡ at (string_space (length (view b).used) (length text))
    fresh_reply = ap (λ (o : Option ℕ). shared_reply o (string_space (length (view b).used) (length text))) fresh

    pub fresh_needs : string_space (length (view b).used) (length text) ≡ needs (Call.create_shared_string text) (view b)
    fresh_needs = sym (ap (λ (o : Option ℕ). shared_needs text o (length (view b).used)) fresh)
