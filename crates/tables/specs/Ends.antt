-- The vtable of a table that ends, and where an equal one is written.
use Rattle.std.specs.Prelude.{ℕ, List, length, Option}
use Rattle.model.specs.Tables.{equal_object, table_vtable}
use Rattle.space.specs.Taken.{Parts}
use Rattle.tables.specs.Fields.{fields, offsets}
use Rattle.tables.specs.declared.field_locs.FieldLocs.{FieldLocs}
use Rattle.tables.specs.declared.offsets.Offsets.{Offsets}

-- the vtable of the table that began at start and ends now, and the offset at which an equal one is written
abbrev pub ended_vtable : {S : Type 0} → Parts S → FieldLocs → (start : ℕ) → List ℕ
ended_vtable s f start = table_vtable (length s.taken) start (fields f)

abbrev pub equal_vtable : {S : Type 0} → Parts S → FieldLocs → (start : ℕ) → Offsets → Option ℕ
equal_vtable s f start vs = equal_object s.taken (ended_vtable s f start) (offsets vs)
