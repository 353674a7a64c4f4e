use Rattle.std.proofs.Common.{◌≡◌, ℕ, ◌<◌, false, ◌++◌, length, get_or, take}
use Rattle.std.specs.Str.{bytes_eq}
use Rattle.wire.specs.Bytes.{last}
use Rattle.wire.specs.Words.{le}
use Rattle.tables.proofs.offsets.Offsets.find_string.Given as goal

abbrev pub invariant-loop-off : goal.invariant-loop-off
invariant-loop-off g l =
    let bs = le 4 (length l.text) ++ l.text in
    (k : ℕ) → k < l.off-index → bytes_eq (take (length bs) (last (get_or l.off-items k 0) l.space.taken)) bs ≡ false
