-- What searching a vector gives, by what the traits of its elements and of the key say.
use Rattle.std.specs.Prelude.{◌≡◌, ℕ, IfSome, Option}
use Rattle.std.specs.declared.cmp.Ordering.TheVariants.{Equal}
use Rattle.wire.specs.Words.{word}
use Rattle.views.specs.Search.{Looked, Finds, Reached}
use Rattle.views.specs.Views.{element_of}
use Rattle.views.specs.declared.follow.Follow as Follow
use Rattle.views.specs.declared.key.KeyOrder as KeyOrder
use Rattle.views.specs.declared.vector.Vector.{Vector}

-- how many elements a vector has
abbrev pub count_of : {T : Type 0} → Vector T → ℕ
count_of v = word 4 v.buf.now v.loc

module _ {T V K : Type 0} (kind : Follow.Ghosts T V) (order : KeyOrder.Ghosts K V) (v : Vector T) (key : K) where
  -- r is what the halving gives
  abbrev pub LookedUp : Option V → Type 0
  LookedUp r = Looked (kind.borrows v.buf) kind.means order.key order.order (order.sought key) (element_of kind.reads v.size v.buf.now v.loc) (count_of v) r

  -- what is left of it is the halving from left to right
  abbrev pub HalvedTo : (left right : ℕ) → Type 0
  HalvedTo left right = Reached (kind.borrows v.buf) kind.means order.key order.order (order.sought key) (element_of kind.reads v.size v.buf.now v.loc) (count_of v) left right

  -- where the keys ascend and one of them is the one sought, an element is found
  abbrev pub FindsIt : Option V → Type 0
  FindsIt r = Finds (kind.borrows v.buf) kind.means order.key order.order (order.sought key) (element_of kind.reads v.size v.buf.now v.loc) (count_of v) r

-- an element that is given has the key sought
module _ {V K : Type 0} (order : KeyOrder.Ghosts K V) (key : K) where
  abbrev pub HasKey : Option V → Type 0
  HasKey r = IfSome r (λ v. order.order.cmp (order.key v) (order.sought key) ≡ Equal)
