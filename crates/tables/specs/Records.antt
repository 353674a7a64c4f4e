-- Records of a table's slots, as a list.
use Rattle.std.specs.Prelude.{◌≡◌, ℕ, ◌<◌, true, List, length, ◌==◌, slice_index_or}
use Rattle.std.specs.List.{position_or_len}
use Rattle.wire.specs.Slots.{slot_stands}
use Rattle.model.specs.declared.field_loc.FieldLoc.{FieldLoc}

-- the record that stands for none
abbrev pub none : FieldLoc
none = record { off = 0; id = 0 }

-- the place of the slot's first record, or the number of records
abbrev pub place_of : List FieldLoc → ℕ → ℕ
place_of rs s = position_or_len (λ r. s == r.id) rs

-- no slot has two records: each record is the first of its slot
abbrev pub Once : List FieldLoc → Type 0
Once rs = (j : ℕ) → j < length rs → place_of rs (slice_index_or rs j none).id ≡ j

-- the slot of each record stands
abbrev pub Slots : List FieldLoc → Type 0
Slots rs = (j : ℕ) → j < length rs → slot_stands (slice_index_or rs j none).id ≡ true
