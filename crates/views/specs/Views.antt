-- What views show of an input: functions of its bytes and a position.
use Rattle.std.specs.Prelude.{ℕ, ◌+◌, ◌-◌, ◌*◌, ◌/◌, Bool, false, cond, ◌&&◌, List, take, drop, Some, None, Option, ◌==◌, nat_le, nat_lt}
use Rattle.wire.specs.Places.{led}
use Rattle.wire.specs.Slots.{slot_stands}
use Rattle.wire.specs.Utf8.{well_formed}
use Rattle.wire.specs.Words.{word, inside}

-- ---- vtables

-- the length word of the vtable at v, and as many bytes as it says, lie inside
abbrev pub vtable_inside : List ℕ → ℕ → Bool
vtable_inside b v = inside b v 2 && inside b v (word 2 b v)

abbrev pub vtable_bytes : List ℕ → ℕ → List ℕ
vtable_bytes b v = take (word 2 b v) (drop v b)

-- the word stored at a slot; 0 where the slot is none, or passes the vtable's length
abbrev pub slot_value : List ℕ → (v slot : ℕ) → ℕ
slot_value b v slot = cond (slot_stands slot && nat_le (slot + 2) (word 2 b v)) (word 2 b (v + slot)) 0

-- the size of the table's object; 0 where the vtable is too short to say it
abbrev pub object_size : List ℕ → ℕ → ℕ
object_size b v = cond (nat_le 4 (word 2 b v)) (word 2 b (v + 2)) 0

-- how many slots a vtable has behind its two first words
abbrev pub field_count : List ℕ → ℕ → ℕ
field_count b v = word 2 b v / 2 - 2

-- fields count from 0, and their slots from 4 by two; a slot is a word of 16 bits
abbrev pub slot_of_field : ℕ → Option ℕ
slot_of_field i = cond (nat_le ((i + 2) * 2) 65535) (Some ((i + 2) * 2)) None

abbrev pub field_of_slot : ℕ → Option ℕ
field_of_slot slot = cond (nat_le 4 slot) (Some (slot / 2 - 2)) None

-- ---- tables

-- the vtable of the table at p: p minus the signed word that stands there
abbrev pub vtable_of : List ℕ → ℕ → Option ℕ
vtable_of b p = led b p (word 4 b p)

abbrev pub inside_at : List ℕ → Option ℕ → Bool
inside_at b (Some v) = vtable_inside b v
inside_at b None = false

-- the signed word of the table at p lies inside, and so does the vtable to which it leads
abbrev pub table_inside : List ℕ → ℕ → Bool
table_inside b p = inside b p 4 && inside_at b (vtable_of b p)

-- the distance from a table to the value of a slot; 0 where it has none
abbrev pub slot_at : List ℕ → Option ℕ → ℕ → ℕ
slot_at b (Some v) slot = slot_value b v slot
slot_at b None slot = 0

-- what the table at p shows at a slot, by what the field's kind reads
abbrev pub field_of : {X : Type 0} → (List ℕ → ℕ → Option X) → List ℕ → (p slot : ℕ) → Option X
field_of reads b p slot =
    let o = slot_at b (vtable_of b p) slot in
    cond (o == 0) None (reads b (p + o))

-- ---- strings

-- the count of the string at p, and as many bytes behind it, lie inside
abbrev pub string_inside : List ℕ → ℕ → Bool
string_inside b p = inside b p 4 && inside b (p + 4) (word 4 b p)

abbrev pub text_bytes : List ℕ → ℕ → List ℕ
text_bytes b p = take (word 4 b p) (drop (p + 4) b)

abbrev pub text_stands : List ℕ → ℕ → Bool
text_stands b p = string_inside b p && well_formed (text_bytes b p)

-- the text at p, where it lies inside and is UTF-8
abbrev pub text_of : List ℕ → ℕ → Option (List ℕ)
text_of b p = cond (text_stands b p) (Some (text_bytes b p)) None

-- ---- vectors

-- the count of the vector at p, and as many elements of that size behind it, lie inside
abbrev pub vector_inside : (size : ℕ) → List ℕ → ℕ → Bool
vector_inside size b p = inside b p 4 && inside b (p + 4) (size * word 4 b p)

-- the bytes of its elements
abbrev pub element_bytes : (size : ℕ) → List ℕ → ℕ → List ℕ
element_bytes size b p = take (size * word 4 b p) (drop (p + 4) b)

-- what the element i of the vector at p shows, by what its kind reads
abbrev pub element_of : {X : Type 0} → (List ℕ → ℕ → Option X) → (size : ℕ) → List ℕ → (p i : ℕ) → Option X
element_of reads size b p i = cond (nat_lt i (word 4 b p)) (reads b (p + 4 + size * i)) None

-- ---- kinds

-- a table or a vector is shown as its position, where it lies inside
abbrev pub table_at : List ℕ → ℕ → Option ℕ
table_at b p = cond (table_inside b p) (Some p) None

abbrev pub vector_at : (size : ℕ) → List ℕ → ℕ → Option ℕ
vector_at size b p = cond (vector_inside size b p) (Some p) None

-- what the offset at p leads to, which lies that far behind it
abbrev pub forwards : {X : Type 0} → (List ℕ → ℕ → Option X) → List ℕ → ℕ → Option X
forwards reads b p = cond (inside b p 4) (reads b (p + word 4 b p)) None
