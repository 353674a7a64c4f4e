use Rattle.std.proofs.Common.{◌≡◌, ℕ, ◌<◌, false, length, get_or, take}
use Rattle.std.specs.Str.{bytes_eq}
use Rattle.wire.specs.Bytes.{last}
use Rattle.tables.specs.Writing.{vtable_of}
use Rattle.tables.proofs.vtable_writer.VTableWriter.find.Given as goal

abbrev pub invariant-loop-vtable : goal.invariant-loop-vtable
invariant-loop-vtable g l =
    let vt = vtable_of l.self in
    (k : ℕ) → k < l.vtable-index → bytes_eq (take (length vt) (last (get_or l.vtable-items k 0) l.space.taken)) vt ≡ false
