-- One call: what it refuses, replies and leaves. A refused call leaves everything as it was.
use Rattle.std.specs.Prelude.{ℕ, ◌+◌, ◌-◌, ◌*◌, ◌%◌, max, Bool, true, false, cond, not, ◌&&◌, ◌||◌, List, [], ◌∷◌, ◌++◌, length, is_some, Some, None, Option, Result, ◌==◌, nat_eq, nat_le, nat_lt}
use Rattle.wire.specs.declared.refusal.Refusal.TheVariants.{Finished, NotFinished, Nested, NotOpen, Slot, Offset, Text, MissingSlot, Full}
use Rattle.wire.specs.Answers.{Why, Test, ◌because◌, decided, space_tests, push_tests, start_vector_tests, string_tests, vector_tests}
use Rattle.wire.specs.Bytes.{zeros}
use Rattle.wire.specs.Kind.{stands}
use Rattle.wire.specs.Layouts.{pushed_bytes, pushed_offset, start_space, string_object_bytes, string_space, vector_bytes, vector_offset, vector_padding}
use Rattle.wire.specs.Pushed.{Pushed}
use Rattle.wire.specs.Slots.{slot_stands}
use Rattle.wire.specs.Utf8.{well_formed}
use Rattle.wire.specs.Words.{le, word}
use Rattle.model.specs.declared.field_loc.FieldLoc.{FieldLoc}
use Rattle.model.specs.Calls.{Call, push, push_slot, push_slot_always, start_table, end_table, start_vector, end_vector, create_vector, create_byte_string, create_string, create_shared_string, finish, required, reset, force_defaults, finished_data, Reply, done, at, these}
use Rattle.model.specs.Finish.{finish_bytes, finish_space, finish_tests}
use Rattle.model.specs.State.{Nest, nothing, table, vector, State, fresh}
use Rattle.model.specs.Tables.{equal_object, lookup, no_room, record_slot, table_bytes, table_offset, table_returns, table_tests, table_vtable, table_vtables}

-- ---- what is open

abbrev pub is_open : Nest → Bool
is_open nothing = false
is_open (table start ls) = true
is_open (vector start size count) = true

abbrev pub in_table : Nest → Bool
in_table nothing = false
in_table (table start ls) = true
in_table (vector start size count) = false

abbrev pub records : Nest → List FieldLoc
records nothing = []
records (table start ls) = ls
records (vector start size count) = []

-- an end that agrees with its start
abbrev pub ends_table : (start : ℕ) → Nest → Bool
ends_table o nothing = false
ends_table o (table start ls) = o == start
ends_table o (vector start size count) = false

abbrev pub ends_vector_lem : (count used : ℕ) → Nest → Bool
ends_vector_lem n used nothing = false
ends_vector_lem n used (table start ls) = false
ends_vector_lem n used (vector start size count) = n == count && used == start + count * size

-- ---- the tests of each call, in their order

-- a table is open and the slot is one of its own
abbrev pub slot_tests : (slot : ℕ) → Pushed → State → List Test
slot_tests n x s =
    s.finished because Finished
    ∷ (not (in_table s.nest) because NotOpen)
    ∷ (not (slot_stands n) because Slot)
    ∷ (not (stands x.offset (length s.used)) because Offset)
    ∷ []

-- a 257th slot in one table
abbrev pub full_test : (slot : ℕ) → Nest → Test
full_test n nest = (not (is_some (lookup n (records nest))) && no_room (length (records nest))) because Full

-- and it is recorded
abbrev pub record_tests : (slot : ℕ) → Pushed → State → List Test
record_tests n x s =
    space_tests (pushed_offset x (length s.used)) s.limit ++ full_test n s.nest ∷ []

abbrev pub end_table_tests : Nest → State → List Test
end_table_tests nothing s = []
end_table_tests (table start ls) s = table_tests start ls s.used s.vtables s.limit
end_table_tests (vector start size count) s = []

-- the offset of a pooled string that holds these bytes
abbrev pub pooled : List ℕ → State → Option ℕ
pooled text s = equal_object s.used (le 4 (length text) ++ text) s.strings

abbrev pub shared_tests : List ℕ → Option ℕ → State → List Test
shared_tests text None s =
    string_tests text (length s.used) s.limit ++ (no_room (length s.strings) because Full) ∷ []
shared_tests text (Some o) s = []

-- the offset of the vtable of the table at an offset, by its signed word
abbrev pub vtable_offset : (tab : ℕ) → List ℕ → ℕ
vtable_offset t us = (t + word 4 us (length us - t)) % 4294967296

-- a vtable's length word and its declared bytes stand in the used bytes
abbrev pub vtable_stands : (vt : ℕ) → List ℕ → Bool
vtable_stands v us = stands (Some v) (length us) && (nat_le 2 v && nat_le (word 2 us (length us - v)) v)

-- a table's word stands in the used bytes, and its vtable does
abbrev pub table_stands : (tab : ℕ) → List ℕ → Bool
table_stands t us = stands (Some t) (length us) && (nat_le 4 t && vtable_stands (vtable_offset t us) us)

-- the word at a slot of the vtable at an offset, 0 beyond its length
abbrev pub slot_word : (vt slot : ℕ) → List ℕ → ℕ
slot_word v n us = cond (nat_lt n (word 2 us (length us - v))) (word 2 us (length us - v + n)) 0

abbrev pub tests : Call → State → List Test
tests (push x) s = s.finished because Finished ∷ push_tests x (length s.used) s.limit
tests (push_slot n x differs) s = slot_tests n x s ++ cond (differs || s.forced) (record_tests n x s) []
tests (push_slot_always n x) s = slot_tests n x s ++ record_tests n x s
tests start_table s = s.finished because Finished ∷ (is_open s.nest because Nested) ∷ []
tests (end_table start) s =
    s.finished because Finished ∷ (not (ends_table start s.nest) because NotOpen) ∷ end_table_tests s.nest s
tests (start_vector k count) s =
    s.finished because Finished ∷ (is_open s.nest because Nested) ∷ start_vector_tests k count (length s.used) s.limit
tests (end_vector count) s =
    s.finished because Finished
    ∷ (not (ends_vector_lem count (length s.used) s.nest) because NotOpen)
    ∷ space_tests (length s.used + 4) s.limit
tests (create_vector k items of) s = s.finished because Finished ∷ vector_tests k items (length s.used) s.limit
tests (create_byte_string text) s =
    s.finished because Finished ∷ (is_open s.nest because Nested) ∷ string_tests text (length s.used) s.limit
tests (create_string text) s =
    s.finished because Finished
    ∷ (is_open s.nest because Nested)
    ∷ (not (well_formed text) because Text)
    ∷ string_tests text (length s.used) s.limit
tests (create_shared_string text) s =
    s.finished because Finished
    ∷ (is_open s.nest because Nested)
    ∷ (not (well_formed text) because Text)
    ∷ shared_tests text (pooled text s) s
tests (finish root id prefixed) s =
    s.finished because Finished
    ∷ (is_open s.nest because Nested)
    ∷ finish_tests root id prefixed (length s.used) s.met s.limit
tests (required t n) s =
    not (slot_stands n) because Slot
    ∷ (not (table_stands t s.used) because Offset)
    ∷ (nat_eq (slot_word (vtable_offset t s.used) n s.used) 0 because MissingSlot)
    ∷ []
tests reset s = []
tests (force_defaults b) s = []
tests finished_data s = not s.finished because NotFinished ∷ []

-- the space that a call asks of the store, where it asks
abbrev pub table_needs : Nest → ℕ → ℕ
table_needs nothing used = used
table_needs (table start ls) used = table_offset used + length (table_vtable used start ls)
table_needs (vector start size count) used = used

abbrev pub shared_needs : List ℕ → Option ℕ → ℕ → ℕ
shared_needs text None used = string_space used (length text)
shared_needs text (Some o) used = used

abbrev pub needs : Call → State → ℕ
needs (push x) s = pushed_offset x (length s.used)
needs (push_slot n x differs) s = cond (differs || s.forced) (pushed_offset x (length s.used)) (length s.used)
needs (push_slot_always n x) s = pushed_offset x (length s.used)
needs start_table s = length s.used
needs (end_table start) s = table_needs s.nest (length s.used)
needs (start_vector k count) s = start_space k count (length s.used)
needs (end_vector count) s = length s.used + 4
needs (create_vector k items of) s = vector_offset k items (length s.used)
needs (create_byte_string text) s = string_space (length s.used) (length text)
needs (create_string text) s = string_space (length s.used) (length text)
needs (create_shared_string text) s = shared_needs text (pooled text s) (length s.used)
needs (finish root id prefixed) s = finish_space id prefixed (length s.used) s.met
needs (required t n) s = length s.used
needs reset s = length s.used
needs (force_defaults b) s = length s.used
needs finished_data s = length s.used

-- the bytes that an accepted call gives back to the store
abbrev pub ended_returns : Nest → State → ℕ
ended_returns nothing s = 0
ended_returns (table start ls) s =
    let vt = table_vtable (length s.used) start ls in table_returns vt (equal_object s.used vt s.vtables)
ended_returns (vector start size count) s = 0

abbrev pub returns : Call → State → ℕ
returns (push x) s = 0
returns (push_slot n x differs) s = 0
returns (push_slot_always n x) s = 0
returns start_table s = 0
returns (end_table start) s = ended_returns s.nest s
returns (start_vector k count) s = 0
returns (end_vector count) s = 0
returns (create_vector k items of) s = 0
returns (create_byte_string text) s = 0
returns (create_string text) s = 0
returns (create_shared_string text) s = 0
returns (finish root id prefixed) s = 0
returns (required t n) s = 0
returns reset s = length s.used
returns (force_defaults b) s = 0
returns finished_data s = 0

-- ---- what an accepted call leaves

-- bytes are put in front of the used ones, with something of an alignment among them
abbrev pub wrote : List ℕ → (alignment : ℕ) → State → State
wrote bytes alignment s =
    record {
      limit = s.limit;
      used = bytes ++ s.used;
      nest = s.nest;
      finished = s.finished;
      met = max s.met alignment;
      forced = s.forced;
      vtables = s.vtables;
      strings = s.strings;
    }

abbrev pub opened : Nest → State → State
opened n s =
    record {
      limit = s.limit;
      used = s.used;
      nest = n;
      finished = s.finished;
      met = s.met;
      forced = s.forced;
      vtables = s.vtables;
      strings = s.strings;
    }

abbrev pub with_vtables : List ℕ → State → State
with_vtables vs s =
    record {
      limit = s.limit;
      used = s.used;
      nest = s.nest;
      finished = s.finished;
      met = s.met;
      forced = s.forced;
      vtables = vs;
      strings = s.strings;
    }

abbrev pub with_string : ℕ → State → State
with_string o s =
    record {
      limit = s.limit;
      used = s.used;
      nest = s.nest;
      finished = s.finished;
      met = s.met;
      forced = s.forced;
      vtables = s.vtables;
      strings = s.strings ++ o ∷ [];
    }

-- a finished buffer takes no more, so its vtables are of no use
abbrev pub closed : State → State
closed s =
    record {
      limit = s.limit;
      used = s.used;
      nest = s.nest;
      finished = true;
      met = s.met;
      forced = s.forced;
      vtables = [];
      strings = s.strings;
    }

abbrev pub with_forced : Bool → State → State
with_forced b s =
    record {
      limit = s.limit;
      used = s.used;
      nest = s.nest;
      finished = s.finished;
      met = s.met;
      forced = b;
      vtables = s.vtables;
      strings = s.strings;
    }

abbrev pub record_in : (slot off : ℕ) → Nest → Nest
record_in n o nothing = nothing
record_in n o (table start ls) = table start (record_slot n o ls)
record_in n o (vector start size count) = vector start size count

-- a value is pushed and recorded
abbrev pub slotted : (slot : ℕ) → Pushed → State → State
slotted n x s =
    let used = length s.used in
    opened (record_in n (pushed_offset x used) s.nest) (wrote (pushed_bytes x used) x.alignment s)

abbrev pub ended : Nest → State → State
ended nothing s = s
ended (table start ls) s =
    let used = length s.used in
    let vt = table_vtable used start ls in
    let found = equal_object s.used vt s.vtables in
    with_vtables (table_vtables used vt s.vtables found) (opened nothing (wrote (table_bytes used vt found) 4 s))
ended (vector start size count) s = s

abbrev pub shared : List ℕ → Option ℕ → State → State
shared text None s =
    with_string (string_space (length s.used) (length text)) (wrote (string_object_bytes text (length s.used)) 4 s)
shared text (Some o) s = s

abbrev pub effect : Call → State → State
effect (push x) s = wrote (pushed_bytes x (length s.used)) x.alignment s
effect (push_slot n x differs) s = cond (differs || s.forced) (slotted n x s) s
effect (push_slot_always n x) s = slotted n x s
effect start_table s = opened (table (length s.used) []) s
effect (end_table start) s = ended s.nest s
effect (start_vector k count) s =
    opened (vector (start_space k count (length s.used)) k.size count)
    (wrote (zeros (vector_padding (length s.used) (count * k.size) k.alignment)) (max k.alignment 4) s)
effect (end_vector count) s = opened nothing (wrote (le 4 count) 4 s)
effect (create_vector k items of) s = wrote (vector_bytes k items (length s.used)) (max k.alignment 4) s
effect (create_byte_string text) s = wrote (string_object_bytes text (length s.used)) 4 s
effect (create_string text) s = wrote (string_object_bytes text (length s.used)) 4 s
effect (create_shared_string text) s = shared text (pooled text s) s
effect (finish root id prefixed) s = closed (wrote (finish_bytes root id prefixed (length s.used) s.met) 4 s)
effect (required t n) s = s
effect reset s = with_forced s.forced (fresh s.limit)
effect (force_defaults b) s = with_forced b s
effect finished_data s = s

-- ---- what it replies

abbrev pub shared_reply : Option ℕ → ℕ → Reply
shared_reply None new = at new
shared_reply (Some o) new = at o

abbrev pub reply : Call → State → Reply
reply (push x) s = at (pushed_offset x (length s.used))
reply (push_slot n x differs) s = done
reply (push_slot_always n x) s = done
reply start_table s = at (length s.used)
reply (end_table start) s = at (table_offset (length s.used))
reply (start_vector k count) s = done
reply (end_vector count) s = at (length s.used + 4)
reply (create_vector k items of) s = at (vector_offset k items (length s.used))
reply (create_byte_string text) s = at (string_space (length s.used) (length text))
reply (create_string text) s = at (string_space (length s.used) (length text))
reply (create_shared_string text) s = shared_reply (pooled text s) (string_space (length s.used) (length text))
reply (finish root id prefixed) s = done
reply (required t n) s = done
reply reset s = done
reply (force_defaults b) s = done
reply finished_data s = these s.used

-- ---- one call

abbrev pub answered : Call → State → Result Reply Why
answered c s = decided (tests c s) (reply c s)

-- what is left, unless a test fails
abbrev pub kept : List Test → State → State → State
kept [] next s = next
kept (t ∷ ts) next s = cond t.fails s (kept ts next s)

abbrev pub after : Call → State → State
after c s = kept (tests c s) (effect c s) s
