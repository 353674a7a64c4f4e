use Rattle.std.proofs.Common.{◌≡◌, take}
use Rattle.model.specs.Tables.{vtable_length}
use Rattle.tables.proofs.vtable_writer.methods.get_vtable_byte_len.Given as goal

abbrev pub invariant-loop-loc : goal.invariant-loop-loc
invariant-loop-loc l = l.len ≡ vtable_length (take l.loc-index l.loc-items)
