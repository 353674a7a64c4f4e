use Rattle.std.proofs.Common.{◌≡◌, true, ◌++◌, map, length, drop}
use Rattle.space.specs.Taken.{Placed}
use Rattle.wire.specs.Layouts.{row}
use Rattle.wire.specs.Pushed.{pushed}
use Rattle.wire.specs.ReadBack.{Fit}
use Rattle.vectors.proofs.vector.put_row.Given as goal

-- the items behind those that are left are placed
abbrev pub invariant-loop-item : goal.invariant-loop-item
invariant-loop-item g l =
    let m = g.T.Kind.meaning in
    let law = g.T.Kind.lawful in
    let left = l.item-iterator.iter.rest.now in
    let placed = drop (length left) l.items in
    (l.items ≡ left ++ placed)
    × Placed l.initial.space l.space true (row (map (pushed m law) placed) (length l.initial.space.taken))
    × Fit m law placed
