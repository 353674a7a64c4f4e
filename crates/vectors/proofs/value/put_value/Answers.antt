use Rattle.std.proofs.Common.{◌≡◌, ℕ, ◌+◌, ◌*◌, ◌-◌, ◌≤◌, min, true, List, ◌++◌, length, take, drop, sym, ap, ◌∙◌, subst, arith, length-drop, length-take}
use Rattle.space.specs.Taken.{Placed}
use Rattle.space.proofs.Spaces.{placed_done, placed_placed, placed_rest}
use Rattle.vectors.proofs.Parts.{part_before}
use Rattle.vectors.proofs.value.put_value.Goals as goal

pub loop-i-preserved : goal.loop-i-preserved
loop-i-preserved g c =
    let s = c.args.space.now in
    let mid = c.loop-i.space in
    let after = c.put_part.new.space in
    let bytes = g.T.Kind.meaning.bytes c.args.x.now c.used-used.result in
    let long = g.T.Kind.lawful.long c.args.x.now c.used-used.result in
    let done = g.T.Kind.meaning.size - c.loop-i.i * 8 in
    let end = c.size-in-loop-i.result - c.loop-i.i * 8 in
    let here : end ≡ done = ap (λ (n : ℕ). n - c.loop-i.i * 8) c.size-in-loop-i.ensures in
    let n = min 8 end in
    let part = take n (drop (end - 8) bytes) in
    let before = c.loop-i.invariant.0 in
    let left = placed_rest s mid (drop done bytes) before in
    let fits : length part ≤ length mid.rest = omega (arith, here, length-drop (end - 8) bytes, length-drop done bytes, length-take n (drop (end - 8) bytes)) in
    let put = placed_done mid after c.put_part.result part fits c.put_part.ensures.placed in
    let more : drop (end - 8) bytes ≡ part ++ drop done bytes = part_before bytes (end - 8) n done (omega (arith, here)) in
    let next : g.T.Kind.meaning.size - (c.loop-i.i + 1) * 8 ≡ end - 8 = omega (arith, here) in (
      subst (λ (l : List ℕ). Placed s after true l) (sym (ap (λ (k : ℕ). drop k bytes) next ∙ more)) (placed_placed s mid after (drop done bytes) part before put),
      λ _. c.put_part.ensures.fits,
    )
