-- The search by halving, turn by turn.
use Rattle.std.proofs.Common.{◌≡◌, ℕ, zero, suc, ◌+◌, ◌-◌, ◌/◌, ◌<◌, ◌≤◌, true, cond, eqb, leb, is_some, Some, None, Option, Ordering, Less, Equal, Greater, sym, refl, ap, ◌∙◌, ⊎_elim, arith}
use Rattle.std.proofs.lemmas.Bool.Decides.{leb_tells, eqb_tells}
use Rattle.std.proofs.lemmas.Bool.{cond-true, cond-false, le-leb, lt-leb, eq-eqb, ne_eqb}
use Rattle.std.specs.Option.{option_map}
use Rattle.views.specs.Search.{Order, by_rank, met, halving, lookup, Keyed, Looked, Finds, Reached, Ascending}
use Rattle.views.specs.Lookup.{LookedUp, FindsIt, count_of}
use Rattle.views.specs.Views.{element_of}
use Rattle.views.specs.declared.follow.Follow as Follow
use Rattle.views.specs.declared.key.KeyOrder as KeyOrder
use Rattle.views.specs.declared.vector.Vector.{Vector}

module _ {X : Type 0} (e : ℕ → Option X) (rank : X → Ordering) where
  past : (n left right : ℕ) → right < left → halving e rank n left right ≡ None
  past zero left right h = refl
  past (suc n) left right h = cond-false (leb left right) _ None (lt-leb left right h)

  -- the number that bounds the turns does not matter, where it is enough
  enough : (m n left right : ℕ) → right < m + left → right < n + left → halving e rank m left right ≡ halving e rank n left right
  enough zero n left right p q = sym (past n left right (omega arith))
  enough (suc m) zero left right p q = past (suc m) left right (omega arith)
  enough (suc m) (suc n) left right p q =
      ⊎_elim
      (λ t.
      let mid = (left + right) / 2 in
      let up : halving e rank m (mid + 1) right ≡ halving e rank n (mid + 1) right = enough m n (mid + 1) right (omega (arith, t.1)) (omega (arith, t.1)) in
      let down : cond (eqb mid 0) None (halving e rank m left (mid - 1)) ≡ cond (eqb mid 0) None (halving e rank n left (mid - 1)) =
      ⊎_elim (λ z. cond-true (eqb mid 0) None _ z.0 ∙ sym (cond-true (eqb mid 0) None _ z.0))
      (λ z. ap (cond (eqb mid 0) None) (enough m n left (mid - 1) (omega (arith, t.1, z.1)) (omega (arith, t.1, z.1)))) (eqb_tells mid 0) in
      (λ i. cond (leb left right) (met (e mid) rank (up i) (down i)) None))
      (λ t. past (suc m) left right t.1 ∙ sym (past (suc n) left right t.1))
      (leb_tells left right)

  -- one turn
  turn : (left right : ℕ) → left ≤ right → let mid = (left + right) / 2 in
      halving e rank (right + 1 - left) left right ≡ met (e mid) rank (halving e rank (right - left) (mid + 1) right) (cond (eqb mid 0) None (halving e rank (right - left) left (mid - 1)))
  turn left right h =
      let s : right + 1 - left ≡ suc (right - left) = omega arith in
      ap (λ (n : ℕ). halving e rank n left right) s ∙ cond-true (leb left right) _ None (le-leb left right h)

  met_none : (o a b : Option X) → None ≡ o → met o rank a b ≡ None
  met_none o a b g = sym (ap (λ y. met y rank a b) g)

  met_some : (o : Option X) (x : X) (r : Ordering) (a b : Option X) → Some x ≡ o → r ≡ rank x → met o rank a b ≡ by_rank r x a b
  met_some o x r a b g h = sym (ap (λ y. met y rank a b) g) ∙ sym (ap (λ y. by_rank y x a b) h)

  at_none : (left right : ℕ) → left ≤ right → None ≡ e ((left + right) / 2) → halving e rank (right + 1 - left) left right ≡ None
  at_none left right h g = turn left right h ∙ met_none (e ((left + right) / 2)) _ _ g

  at_some : (left right : ℕ) (x : X) (o : Ordering) → left ≤ right → Some x ≡ e ((left + right) / 2) → o ≡ rank x → let mid = (left + right) / 2 in
      halving e rank (right + 1 - left) left right ≡ by_rank o x (halving e rank (right - left) (mid + 1) right) (cond (eqb mid 0) None (halving e rank (right - left) left (mid - 1)))
  at_some left right x o h g r = turn left right h ∙ met_some (e ((left + right) / 2)) x o _ _ g r

  at_less : (left right : ℕ) (x : X) → left ≤ right → Some x ≡ e ((left + right) / 2) → Less ≡ rank x
      → halving e rank (right + 1 - left) left right ≡ halving e rank (right + 1 - ((left + right) / 2 + 1)) ((left + right) / 2 + 1) right
  at_less left right x h g r = at_some left right x Less h g r ∙ enough (right - left) (right + 1 - ((left + right) / 2 + 1)) ((left + right) / 2 + 1) right (omega arith) (omega arith)

  at_zero : (left right : ℕ) (x : X) → left ≤ right → Some x ≡ e ((left + right) / 2) → Greater ≡ rank x → (left + right) / 2 ≡ 0
      → halving e rank (right + 1 - left) left right ≡ None
  at_zero left right x h g r z = at_some left right x Greater h g r ∙ cond-true (eqb ((left + right) / 2) 0) None _ (eq-eqb ((left + right) / 2) 0 z)

  at_greater : (left right : ℕ) (x : X) → left ≤ right → Some x ≡ e ((left + right) / 2) → Greater ≡ rank x → 0 < (left + right) / 2
      → halving e rank (right + 1 - left) left right ≡ halving e rank ((left + right) / 2 - 1 + 1 - left) left ((left + right) / 2 - 1)
  at_greater left right x h g r z =
      at_some left right x Greater h g r ∙ cond-false (eqb ((left + right) / 2) 0) None _ (ne_eqb ((left + right) / 2) 0 (λ q. omega arith))
      ∙ enough (right - left) ((left + right) / 2 - 1 + 1 - left) left ((left + right) / 2 - 1) (omega arith) (omega arith)

module _ {V M K : Type 0} {own : V → Type 0} {means : V → M} {key : V → K} {order : Order K} {sought : K} {e : ℕ → Option M} {count left right : ℕ} (so : Reached own means key order sought e count left right) (h : left ≤ right) where
  pub none_met : None ≡ e ((left + right) / 2) → Looked own means key order sought e count None
  none_met g keyed k = sym (so.is keyed k ∙ at_none e (λ m. order.cmp (keyed m) sought) left right h g)

  module _ (v : V) (w : own v) (g : Some (means v) ≡ e ((left + right) / 2)) where
    rank_is : (o : Ordering) (keyed : M → K) → Keyed own means key order sought e keyed → o ≡ order.cmp (key v) sought → o ≡ order.cmp (keyed (means v)) sought
    rank_is o keyed k r = r ∙ ap (λ y. order.cmp y sought) (k v w)

    pub found_equal : Equal ≡ order.cmp (key v) sought → Looked own means key order sought e count (Some v)
    found_equal r keyed k = sym (so.is keyed k ∙ at_some e (λ m. order.cmp (keyed m) sought) left right (means v) Equal h g (rank_is Equal keyed k r))

    pub reached_less : Less ≡ order.cmp (key v) sought → Reached own means key order sought e count ((left + right) / 2 + 1) right
    reached_less r = record { is = λ keyed k. so.is keyed k ∙ at_less e (λ m. order.cmp (keyed m) sought) left right (means v) h g (rank_is Less keyed k r) }

    pub none_below : Greater ≡ order.cmp (key v) sought → (1 ≤ (left + right) / 2 → ⊥) → Looked own means key order sought e count None
    none_below r z keyed k = sym (so.is keyed k ∙ at_zero e (λ m. order.cmp (keyed m) sought) left right (means v) h g (rank_is Greater keyed k r) (omega arith))

    pub reached_greater : Greater ≡ order.cmp (key v) sought → (below : ℕ) → 1 ≤ (left + right) / 2 → below ≡ (left + right) / 2 - 1 → Reached own means key order sought e count left below
    reached_greater r below z b = record { is = λ keyed k. so.is keyed k ∙ at_greater e (λ m. order.cmp (keyed m) sought) left right (means v) h g (rank_is Greater keyed k r) z ∙ ap (λ (n : ℕ). halving e (λ m. order.cmp (keyed m) sought) (n + 1 - left) left n) (sym b) }

-- ---- in a vector whose keys ascend

by_order : {P : Type 0} (o : Ordering) → (o ≡ Less → P) → (o ≡ Equal → P) → (o ≡ Greater → P) → P
by_order Less f g h = f refl
by_order Equal f g h = g refl
by_order Greater f g h = h refl

module _ {X : Type 0} (e : ℕ → Option X) (rank : X → Ordering) (count : ℕ) (asc : Ascending e rank count) where
  meets : (n left right k : ℕ) (x : X) → right < count → right < n + left → left ≤ k → k ≤ right → e k ≡ Some x → rank x ≡ Equal → (y : X) × (halving e rank n left right ≡ Some y)
  meets zero left right k x r f l h g q = absurd (omega arith)
  meets (suc n) left right k x r f l h g q =
      let mid = (left + right) / 2 in
      let z = asc.reads mid (omega arith) in
      let at : (o : Ordering) → o ≡ rank z.0 → halving e rank (suc n) left right ≡ by_rank o z.0 (halving e rank n (mid + 1) right) (cond (eqb mid 0) None (halving e rank n left (mid - 1))) =
      λ o s. cond-true (leb left right) _ None (le-leb left right (omega arith)) ∙ met_some e rank (e mid) z.0 o _ _ (sym z.1) s in
      by_order (rank z.0)
      (λ s. ⊎_elim
      (λ p. let t = meets n (mid + 1) right k x r (omega arith) p.1 h g q in (t.0, at Less (sym s) ∙ t.1))
      (λ p. let u = p.1 in let r = asc.less k mid x z.0 (omega arith) (omega arith) g z.1 s in absurd cc)
      (leb_tells (mid + 1) k))
      (λ s. (z.0, at Equal (sym s)))
      (λ s. ⊎_elim
      (λ p. let r = asc.greater mid k z.0 x p.1 (omega arith) z.1 g s in absurd cc)
      (λ p.
      let u = p.1 in
      let t = meets n left (mid - 1) k x (omega arith) (omega arith) l (omega arith) g q in
      (t.0, at Greater (sym s) ∙ cond-false (eqb mid 0) None _ (ne_eqb mid 0 (λ w. omega arith)) ∙ t.1))
      (leb_tells mid k))

  lookup_meets : (k : ℕ) (x : X) → k < count → e k ≡ Some x → rank x ≡ Equal → (y : X) × (lookup e rank count ≡ Some y)
  lookup_meets k x h g q =
      let t = meets count 0 (count - 1) k x (omega arith) (omega arith) (omega arith) (omega arith) g q in
      (t.0, cond-false (eqb count 0) None _ (ne_eqb count 0 (λ w. omega arith)) ∙ t.1)

some_from_mapped : {V M : Type 0} (means : V → M) (r : Option V) (y : M) → option_map means r ≡ Some y → is_some r ≡ true
some_from_mapped means (Some v) y e = refl
some_from_mapped means None y e = cc

pub finds : {V M K : Type 0} (own : V → Type 0) (means : V → M) (key : V → K) (order : Order K) (sought : K) (e : ℕ → Option M) (count : ℕ) (r : Option V)
    → Looked own means key order sought e count r → Finds own means key order sought e count r
finds own means key order sought e count r so keyed c asc k m h g q =
    let t = lookup_meets e (λ m'. order.cmp (keyed m') sought) count asc k m h g q in
    some_from_mapped means r t.0 (so keyed c ∙ t.1)

-- the same of a vector
pub finds_it : {T V K : Type 0} (kind : Follow.Ghosts T V) (order : KeyOrder.Ghosts K V) (v : Vector T) (key : K) (r : Option V) → LookedUp kind order v key r → FindsIt kind order v key r
finds_it kind order v key r so =
    finds (kind.borrows v.buf) kind.means order.key order.order (order.sought key) (element_of kind.reads v.size v.buf.now v.loc) (count_of v) r so
