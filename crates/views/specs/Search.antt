-- The search by halving, over what the elements show and how each ranks against the key sought.
use Rattle.std.specs.Prelude.{◌≡◌, ℕ, zero, suc, ◌+◌, ◌-◌, ◌/◌, ◌<◌, ◌≤◌, true, cond, is_some, Some, None, Option, ◌==◌, nat_le}
use Rattle.std.specs.declared.cmp.Ordering.TheVariants.{Less, Equal, Greater}
use Rattle.std.specs.declared.cmp.Ordering.{Ordering}
use Rattle.std.specs.Ordering.{ordering_reverse}
use Rattle.std.specs.Cmp.{IsTotalOrder}
use Rattle.std.specs.Option.{option_map}

-- a total order
pub record Order (K : Type 0) : Type 0 where
  pub cmp : K → K → Ordering
  pub flip : (x y : K) → cmp x y ≡ ordering_reverse (cmp y x)
  pub trans : (x y z : K) → cmp x y ≡ Less → cmp y z ≡ Less → cmp x z ≡ Less
  pub alike : (x y z : K) → cmp x y ≡ Equal → cmp x z ≡ cmp y z

-- an order that the library knows to be total
abbrev pub ordered : {K : Type 0} {R : K → K → Ordering} → IsTotalOrder R → Order K
ordered {R = R} o = record { cmp = R; flip = o.antisymm; trans = o.trans; alike = o.congr }

-- the element x is the one sought, or the search goes on above or below it
abbrev pub by_rank : {X : Type 0} → Ordering → X → (above below : Option X) → Option X
by_rank Less x above below = above
by_rank Equal x above below = Some x
by_rank Greater x above below = below

-- an element that cannot be read ends the search
abbrev pub met : {X : Type 0} → Option X → (X → Ordering) → (above below : Option X) → Option X
met None rank above below = None
met (Some x) rank above below = by_rank (rank x) x above below

-- The element that the halving from left to right meets, or nothing. The first number bounds the turns.
abbrev pub halving : {X : Type 0} → (ℕ → Option X) → (X → Ordering) → ℕ → (left right : ℕ) → Option X
halving e rank zero left right = None
halving e rank (suc n) left right =
    cond (nat_le left right)
    (met (e ((left + right) / 2)) rank
    (halving e rank n ((left + right) / 2 + 1) right)
    (cond ((left + right) / 2 == 0) None (halving e rank n left ((left + right) / 2 - 1))))
    None

-- among the first count elements
abbrev pub lookup : {X : Type 0} → (ℕ → Option X) → (X → Ordering) → ℕ → Option X
lookup e rank count = cond (count == 0) None (halving e rank count 0 (count - 1))

-- each of the first count elements can be read, and their ranks ascend
pub record Ascending {X : Type 0} (e : ℕ → Option X) (rank : X → Ordering) (count : ℕ) : Type 0 where
  pub reads : (i : ℕ) → i < count → (x : X) × (e i ≡ Some x)
  pub less : (i j : ℕ) (x y : X) → i ≤ j → j < count → e i ≡ Some x → e j ≡ Some y → rank y ≡ Less → rank x ≡ Less
  pub greater : (i j : ℕ) (x y : X) → i ≤ j → j < count → e i ≡ Some x → e j ≡ Some y → rank x ≡ Greater → rank y ≡ Greater

-- Elements are values V of one input, which `own` says; what they mean is an M, and their key is a function of it.
module _ {V M K : Type 0} (own : V → Type 0) (means : V → M) (key : V → K) (order : Order K) (sought : K) (e : ℕ → Option M) where
  abbrev pub Keyed : (M → K) → Type 0
  Keyed keyed = (x : V) → own x → key x ≡ keyed (means x)

  -- r is what the halving gives among the first count elements
  abbrev pub Looked : ℕ → Option V → Type 0
  Looked count r = (keyed : M → K) → Keyed keyed → option_map means r ≡ lookup e (λ m. order.cmp (keyed m) sought) count

  -- where the keys ascend and one of them is the one sought, an element is found
  abbrev pub Finds : ℕ → Option V → Type 0
  Finds count r = (keyed : M → K) → Keyed keyed → Ascending e (λ m. order.cmp (keyed m) sought) count
      → (k : ℕ) (m : M) → k < count → e k ≡ Some m → order.cmp (keyed m) sought ≡ Equal → is_some r ≡ true

  -- what is left of the search is the halving from left to right
  pub record Reached (count left right : ℕ) : Type 0 where
    pub is : (keyed : M → K) → Keyed keyed → lookup e (λ m. order.cmp (keyed m) sought) count ≡ halving e (λ m. order.cmp (keyed m) sought) (right + 1 - left) left right
