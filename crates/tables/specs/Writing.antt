-- How a vtable is written: words over bytes that are used already.
use Rattle.std.specs.Prelude.{◌≡◌, ℕ, List}
use Rattle.model.specs.Tables.{vtable_bytes}
use Rattle.space.specs.Taken.{Parts}
use Rattle.tables.specs.Fields.{fields}
use Rattle.tables.specs.declared.vtable_writer.VTableWriter.{VTableWriter}
use Rattle.wire.specs.Bytes.{written}

-- the vtable that is written
abbrev pub vtable_of : VTableWriter → List ℕ
vtable_of w = vtable_bytes w.table w.size (fields w.field_locs.now)

-- What replacing used bytes from the index i on does.
pub record Rewritten {S : Type 0} (before after : Parts S) (i : ℕ) (bytes : List ℕ) : Type 0 where
  pub taken : after.taken ≡ written before.taken i bytes
  pub rest : after.rest ≡ before.rest
  pub limited : after.limit ≡ before.limit
