-- What a builder means to the model, and what a call promises.
use Rattle.std.specs.Prelude.{◌≡◌, ℕ, cond, List, is_ok, Result}
use Rattle.model.specs.declared.field_loc.FieldLoc.{FieldLoc}
use Rattle.model.specs.Calls.{Call, Reply, said}
use Rattle.model.specs.State.{Nest, nothing, table, vector, State}
use Rattle.model.specs.Steps.{after, answered, needs, returns}
use Rattle.space.specs.Taken.{Fronted}
use Rattle.store.specs.declared.allocator.Allocator.{Ghosts}
use Rattle.tables.specs.Fields.{fields, offsets}
use Rattle.wire.specs.declared.refusal.Refusal.{Refusal}
use Rattle.wire.specs.Answers.{Asked, by_store}
use Rattle.builder.specs.declared.builder.FlatBufferBuilder.{FlatBufferBuilder}
use Rattle.builder.specs.declared.inner.Inner.{Inner}
use Rattle.builder.specs.declared.inner.Open.{Open}
use Rattle.builder.specs.declared.inner.Open.TheVariants.{Nothing, Table, Vector}

-- what is open; the records are an open table's
abbrev pub nest_of : Open → List FieldLoc → Nest
nest_of Nothing ls = nothing
nest_of (Table start) ls = table start ls
nest_of (Vector start size count) ls = vector start size count

-- the state with these used bytes in a store of that limit
abbrev pub state_of : (limit : ℕ) (used : List ℕ) → Inner → State
state_of limit used i =
    record {
      limit = limit;
      used = used;
      nest = nest_of i.nest (fields i.field_locs);
      finished = i.finished;
      met = i.min_align;
      forced = i.force_defaults;
      vtables = offsets i.written_vtable_revpos;
      strings = offsets i.strings_pool;
    }

module _ {S E : Type 0} {G : Ghosts S E} where
  abbrev pub view : FlatBufferBuilder S E G → State
  view b = state_of b.space.limit b.space.taken b.inner

  -- What a call did that was told r: its answer, the state after it, and what it left of the store.
  pub record Did {A : Type 0} (reply : A → Reply) (c : Call) (old new : FlatBufferBuilder S E G) (r : Result A (Refusal E)) : Type 0 where
    pub answer : said reply r ≡ answered c (view old)
    pub state : view new ≡ after c (view old)
    pub store : Asked r (Fronted old.space new.space (needs c (view old)) (cond (is_ok r) (returns c (view old)) 0) (by_store r)) (new.space ≡ old.space)
