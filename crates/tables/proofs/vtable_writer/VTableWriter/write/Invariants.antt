use Rattle.std.proofs.Common.{◌≡◌, ◌++◌, drop}
use Rattle.model.specs.Tables.{vtable_length}
use Rattle.tables.proofs.VTables.{partial}
use Rattle.tables.proofs.vtable_writer.VTableWriter.write.Given as goal

abbrev pub invariant-loop-loc : goal.invariant-loop-loc
invariant-loop-loc g l =
    (l.space.taken ≡ partial l.self.table l.self.size l.loc-items l.loc-index ++ drop (vtable_length l.loc-items) l.initial.space.taken)
    × (l.space.rest ≡ l.initial.space.rest)
    × (l.space.limit ≡ l.initial.space.limit)
