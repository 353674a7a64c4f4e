use Rattle.std.proofs.Common.{◌≡◌, ℕ, suc, ◌+◌, ◌≤◌, true, List, [], ◌∷◌, ◌++◌, map, length, drop, sym, ap, ◌∙◌, subst, append_assoc, append-nil, mul-le-mul_right, suc-mul, arith, length-append}
use Rattle.std.specs.List.{push}
use Rattle.std.proofs.Math.Seq.{drop-append_seam, drop-length}
use Rattle.space.specs.Taken.{Placed}
use Rattle.space.proofs.Spaces.{placed_none, placed_fits, placed_done, placed_placed, placed_rest}
use Rattle.wire.specs.Layouts.{row}
use Rattle.wire.specs.Pushed.{pushed}
use Rattle.wire.proofs.Rows.{length_code}
use Rattle.vectors.proofs.vector.put_row.Goals as goal

-- one item less is left
module _ {A : Type 0} (items before after tail : List A) (x : A) (all : items ≡ before ++ tail) (last : before ≡ push after x) where
  item_next : items ≡ after ++ (x ∷ tail)
  item_next = all ∙ ap (λ (l : List A). l ++ tail) last ∙ append_assoc after (x ∷ []) tail

  item_placed : drop (length after) items ≡ x ∷ tail
  item_placed = ap (drop (length after)) item_next ∙ drop-append_seam after (x ∷ tail)

pub loop-item-init : goal.loop-item-init
loop-item-init g c =
    let items = c.args.items.now in
    let left = c.into_iter-item-iterator.result.iter.rest.now in
    let is : left ≡ items = cc in
    let none : drop (length left) items ≡ [] = ap (λ (l : List _). drop (length l) items) is ∙ drop-length items in
    rw none (sym (append-nil left ∙ is), placed_none c.args.space.now, tt)

pub loop-item-preserved : goal.loop-item-preserved
loop-item-preserved g c =
    let m = g.T.Kind.meaning in
    let law = g.T.Kind.lawful in
    let s = c.args.space.now in
    let mid = c.loop-item.space in
    let items = c.args.items.now in
    let x = c.in-Some.item.now in
    let before = c.loop-item.item-iterator.iter.rest.now in
    let after = c.next.new.self.iter.rest.now in
    let tail = drop (length before) items in
    let used = length s.taken in
    let behind = row (map (pushed m law) tail) used in
    let inv = c.loop-item.invariant in
    let last : before ≡ push after x = c.in-Some.ensures.steps in
    let next = item_next items before after tail x inv.0 last in
    let more = item_placed items before after tail x inv.0 last in
    let long : length mid.taken ≡ length behind + used = ap length inv.1.used ∙ length-append behind s.taken in
    let size = law.long x (length mid.taken) in
    let few : suc (length tail) ≤ length items = omega (arith, ap length next ∙ length-append after (x ∷ tail)) in
    let room = mul-le-mul_right m.size few in
    let fits : length (m.bytes x (length mid.taken)) ≤ length mid.rest = omega (arith, placed_rest s mid behind inv.1, length_code m law tail used, suc-mul (length tail) m.size) in
    let put = placed_done mid c.put_value.new.space c.put_value.result _ fits c.put_value.ensures.placed in
    let bytes = ap (λ (n : ℕ). m.bytes x n ++ behind) long in
    rw more (
      next,
      subst (λ (l : List ℕ). Placed s c.put_value.new.space true l) bytes (placed_placed s mid c.put_value.new.space behind _ inv.1 put),
      (c.put_value.ensures.fits (placed_fits mid c.put_value.new.space c.put_value.result _ fits c.put_value.ensures.placed), inv.2),
    )

pub returns : goal.returns
returns g c =
    let zero : length c.loop-item.item-iterator.iter.rest.now ≡ 0 = (c.in-None.ensures).steps.0 in
    let inv = rw zero at c.loop-item.invariant in
    record { placed = inv.1; fit = inv.2 }
