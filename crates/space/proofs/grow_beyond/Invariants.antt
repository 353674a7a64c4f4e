use Rattle.std.proofs.Common.{◌≡◌, ◌+◌, ◌-◌, ◌≤◌, length}
use Rattle.wire.specs.Bytes.{raised}
use Rattle.space.proofs.grow_beyond.Given as goal

abbrev pub invariant-loop-store : goal.invariant-loop-store
invariant-loop-store g l =
    let before = g.S.Allocator.list l.initial.store in
    let now = g.S.Allocator.list l.store in
    (length before ≤ length now)
    × (now ≡ raised (length now) before)
    × (g.S.Allocator.limit l.store ≡ g.S.Allocator.limit l.initial.store)
    × (l.used + l.want ≤ length before → now ≡ before)

abbrev pub decreases-loop-store : goal.decreases-loop-store
decreases-loop-store g l = g.S.Allocator.limit l.store - length (g.S.Allocator.list l.store)
