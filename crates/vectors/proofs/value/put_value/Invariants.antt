use Rattle.std.proofs.Common.{◌*◌, ◌-◌, ◌<◌, true, T, drop}
use Rattle.space.specs.Taken.{Placed}
use Rattle.vectors.proofs.value.put_value.Given as goal

-- all but the first parts are placed
abbrev pub invariant-loop-i : goal.invariant-loop-i
invariant-loop-i g l =
    let m = g.T.Kind.meaning in
    Placed l.initial.space l.space true (drop (m.size - l.i * 8) (m.bytes l.x l.used))
    × (0 < l.i → T (m.fits l.x))
