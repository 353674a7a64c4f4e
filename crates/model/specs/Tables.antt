-- Tables: what is recorded at their slots, and the vtables that say where it lies.
use Rattle.std.specs.Prelude.{ℕ, zero, suc, ◌+◌, ◌-◌, ◌/◌, ◌%◌, max, Bool, cond, not, ◌&&◌, List, [], ◌∷◌, ◌++◌, length, take, is_some, Some, None, Option, ◌==◌, nat_le, nat_lt}
use Rattle.std.specs.Str.{bytes_eq}
use Rattle.wire.specs.declared.refusal.Refusal.TheVariants.{TableTooLarge, Full}
use Rattle.wire.specs.Answers.{Test, ◌because◌, too_much, above}
use Rattle.wire.specs.Bytes.{last, zeros}
use Rattle.wire.specs.Layouts.{padding}
use Rattle.wire.specs.Words.{le}
use Rattle.model.specs.declared.field_loc.FieldLoc.{FieldLoc}

-- the offset recorded at a slot
abbrev pub lookup : ℕ → List FieldLoc → Option ℕ
lookup s [] = None
lookup s (l ∷ ls) = cond (s == l.id) (Some l.off) (lookup s ls)

-- a slot recorded, over an earlier record of it
abbrev pub record_slot : (slot off : ℕ) → List FieldLoc → List FieldLoc
record_slot s o [] = record { off = o; id = s } ∷ []
record_slot s o (l ∷ ls) = cond (s == l.id) (record { off = o; id = s } ∷ ls) (l ∷ record_slot s o ls)

-- the largest recorded slot plus 2, or 4
abbrev pub vtable_length : List FieldLoc → ℕ
vtable_length [] = 4
vtable_length (l ∷ ls) = max (l.id + 2) (vtable_length ls)

-- how far a value lies behind its table, or 0 where none is recorded
abbrev pub distance : (tab : ℕ) → Option ℕ → ℕ
distance t None = 0
distance t (Some o) = t - o

-- the words of n slots from s on
abbrev pub slot_words : (tab : ℕ) → List FieldLoc → (s n : ℕ) → List ℕ
slot_words t ls s zero = []
slot_words t ls s (suc n) = le 2 (distance t (lookup s ls)) ++ slot_words t ls (s + 2) n

-- a vtable: its length, the object's size, and the word of each slot
abbrev pub vtable_bytes : (tab size : ℕ) → List FieldLoc → List ℕ
vtable_bytes t size ls = le 2 (vtable_length ls) ++ (le 2 size ++ slot_words t ls 4 ((vtable_length ls - 4) / 2))

-- The first offset whose object begins with these bytes. Vtables and strings begin with their length, so an
-- object that begins with the bytes of one is equal to it.
abbrev pub equal_object : (used bytes offsets : List ℕ) → Option ℕ
equal_object us bs [] = None
equal_object us bs (o ∷ os) = cond (bytes_eq (take (length bs) (last o us)) bs) (Some o) (equal_object us bs os)

-- a difference of offsets as the bits of an i32
abbrev pub signed : (to from : ℕ) → ℕ
signed v t = (4294967296 + v - t) % 4294967296

-- the padding behind a table's signed word, and the table's offset
abbrev pub word_padding : (used : ℕ) → ℕ
word_padding used = padding (used + 4) 4

abbrev pub table_offset : (used : ℕ) → ℕ
table_offset used = word_padding used + used + 4

-- a table's vtable, when it ends
abbrev pub table_vtable : (used start : ℕ) → List FieldLoc → List ℕ
table_vtable used start ls = vtable_bytes (table_offset used) (table_offset used - start) ls

-- what it puts in front of the used bytes: its word and padding, and before them its vtable, unless an equal one stands at an offset
abbrev pub table_bytes : (used : ℕ) (vt : List ℕ) → Option ℕ → List ℕ
table_bytes used vt None =
    vt ++ (le 4 (signed (table_offset used + length vt) (table_offset used)) ++ zeros (word_padding used))
table_bytes used vt (Some v) = le 4 (signed v (table_offset used)) ++ zeros (word_padding used)

-- the used space after it
abbrev pub table_space : (used : ℕ) (vt : List ℕ) → Option ℕ → ℕ
table_space used vt None = table_offset used + length vt
table_space used vt (Some v) = table_offset used

-- the bytes that it gives back: a vtable that was not needed
abbrev pub table_returns : (vt : List ℕ) → Option ℕ → ℕ
table_returns vt None = 0
table_returns vt (Some v) = length vt

-- the vtables after it
abbrev pub table_vtables : (used : ℕ) (vt vtables : List ℕ) → Option ℕ → List ℕ
table_vtables used vt vs None = vs ++ ((table_offset used + length vt) ∷ [])
table_vtables used vt vs (Some v) = vs

-- a 257th entry
abbrev pub no_room : ℕ → Bool
no_room n = nat_le 256 n

-- what ending a table is refused by
abbrev pub table_tests : (start : ℕ) → List FieldLoc → (us vtables : List ℕ) (limit : ℕ) → List Test
table_tests start ls us vs limit =
    let used = length us in
    let vt = table_vtable used start ls in
    let found = equal_object us vt vs in
    nat_lt 65535 (table_offset used - start) because TableTooLarge
    ∷ too_much (table_space used vt found)
    ∷ above (table_offset used + length vt) limit
    ∷ ((not (is_some found) && no_room (length vs)) because Full)
    ∷ []
