-- The slots of a vtable that a table's fields have.
use Rattle.std.specs.Prelude.{ℕ, ◌%◌, Bool, ◌&&◌, ◌==◌, nat_le}

-- slots are even, and lie from 4 to 65,532
abbrev pub slot_stands : ℕ → Bool
slot_stands n = n % 2 == 0 && (nat_le 4 n && nat_le n 65532)
