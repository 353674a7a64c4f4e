-- What a call that writes is told: the first of its tests that fails refuses it.
use Rattle.std.specs.Prelude.{ℕ, ◌*◌, Bool, true, false, cond, not, List, [], ◌∷◌, length, Ok, Err, Result, ◌==◌, nat_le, nat_lt}
use Rattle.wire.specs.Kind.{stands}
use Rattle.wire.specs.Pushed.{Pushed, Layout}
use Rattle.wire.specs.Layouts.{all_stand, pushed_offset, start_space, vector_offset, vector_space, string_space}
use Rattle.wire.specs.declared.refusal.Refusal.{Refusal}
use Rattle.wire.specs.declared.refusal.Refusal.TheVariants.{Finished, NotFinished, Nested, NotOpen, Slot, Identifier, Offset, Text, TableTooLarge, MissingSlot, TooLong, Store, Full}

abbrev pub number : {E : Type 0} → Refusal E → ℕ
number Finished = 1
number NotFinished = 2
number Nested = 3
number NotOpen = 4
number Slot = 5
number Identifier = 6
number Offset = 7
number Text = 8
number TableTooLarge = 9
number MissingSlot = 10
number TooLong = 11
number (Store e) = 12
number Full = 13

-- a refusal without the store's own words
abbrev pub Why : Type 0
Why = Refusal (Unit {0})

abbrev pub erased : {E : Type 0} → Refusal E → Why
erased Finished = Finished
erased NotFinished = NotFinished
erased Nested = Nested
erased NotOpen = NotOpen
erased Slot = Slot
erased Identifier = Identifier
erased Offset = Offset
erased Text = Text
erased TableTooLarge = TableTooLarge
erased MissingSlot = MissingSlot
erased TooLong = TooLong
erased (Store e) = Store tt
erased Full = Full

-- an answer without the store's own words
abbrev pub told : {A E : Type 0} → Result A (Refusal E) → Result A Why
told (Ok x) = Ok x
told (Err e) = Err (erased e)

-- P or Q, by a test
abbrev pub Where : Bool → Type 0 → Type 0 → Type 0
Where true P Q = P
Where false P Q = Q

-- P where the store was asked for space, else Q: 12 and 13 are told after it was
abbrev pub Asked : {A E : Type 0} → Result A (Refusal E) → Type 0 → Type 0 → Type 0
Asked (Ok x) P Q = P
Asked (Err e) P Q = Where (nat_le 12 (number e)) P Q

-- the store refused
abbrev pub by_store : {A E : Type 0} → Result A (Refusal E) → Bool
by_store (Ok x) = false
by_store (Err e) = number e == 12

pub record Test : Type 0 where
  pub fails : Bool
  pub why : Why

abbrev pub ◌because◌ : Bool → Why → Test
b because r = record { fails = b; why = r }

infixl 80 ◌because◌
-- the used space stays below 2 GiB
abbrev pub too_much : ℕ → Test
too_much n = nat_lt 2147483647 n because TooLong

-- the store can hold it
abbrev pub above : (n limit : ℕ) → Test
above n limit = nat_lt limit n because Store tt

-- the answer, unless a test fails
abbrev pub decided : {A : Type 0} → List Test → A → Result A Why
decided [] x = Ok x
decided (t ∷ ts) x = cond t.fails (Err t.why) (decided ts x)

-- a call that takes space: the used space after it stays below 2 GiB, and the store can hold it
abbrev pub space_tests : (n limit : ℕ) → List Test
space_tests n limit = too_much n ∷ above n limit ∷ []

-- a value: the offset that it is, if any, leads into the used space
abbrev pub push_tests : Pushed → (used limit : ℕ) → List Test
push_tests x used limit = not (stands x.offset used) because Offset ∷ space_tests (pushed_offset x used) limit

-- a vector: each offset among its elements leads into the used space
abbrev pub vector_tests : Layout → List Pushed → (used limit : ℕ) → List Test
vector_tests k items used limit =
    not (all_stand items used) because Offset ∷ space_tests (vector_offset k items used) limit

-- a vector whose elements are pushed one by one: the used space after its end stays below 2 GiB, and the store can hold its padding
abbrev pub start_vector_tests : Layout → (count used limit : ℕ) → List Test
start_vector_tests k count used limit =
    too_much (vector_space used (count * k.size) k.alignment) ∷ above (start_space k count used) limit ∷ []

abbrev pub string_tests : List ℕ → (used limit : ℕ) → List Test
string_tests text used limit = space_tests (string_space used (length text)) limit
