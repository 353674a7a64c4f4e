-- What the records and the kept offsets are, as lists.
use Rattle.std.specs.Prelude.{ℕ, List}
use Rattle.model.specs.declared.field_loc.FieldLoc.{FieldLoc}
use Rattle.tables.specs.declared.field_locs.FieldLocs.{FieldLocs}
use Rattle.tables.specs.declared.offsets.Offsets.{Offsets}

abbrev pub fields : FieldLocs → List FieldLoc
fields f = f.items.items

abbrev pub offsets : Offsets → List ℕ
offsets o = o.items.items
