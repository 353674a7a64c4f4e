use Rattle.std.proofs.Common.{◌≡◌, ℕ, zero, suc, ◌<◌, Bool, true, false, ◌&&◌, List, [], ◌∷◌, map, length, sym, refl, arith, rules}
use Rattle.std.proofs.lemmas.Iterator.{cases_from_all, YieldsList-from_slice}
use Rattle.std.specs.Bool.{MatchBool}
use Rattle.std.specs.List.{AllWithin, HoldsAt}
use borrow.Author.Tests.{tests}
use Rattle.wire.specs.Kind.{Meaning, Law, stands}
use Rattle.wire.specs.Layouts.{all_stand}
use Rattle.wire.specs.Pushed.{pushed}
use Rattle.vectors.proofs.vector.all_offsets_stand.Goals as goal

-- a test of each item's offset is the test of all
module _ {V S : Type 0} (m : Meaning V S) (law : Law m) (used : ℕ) where
  stand_yes : (xs : List V) → AllWithin (λ x. stands (m.offset x) used ≡ true) xs 0 (length xs) → all_stand (map (pushed m law) xs) used ≡ true
  stand_yes [] h = refl
  stand_yes (x ∷ xs) h =
      let first : stands (m.offset x) used ≡ true = h 0 x (omega arith) (omega arith) in
      rw first (stand_yes xs (λ k d low high. h (suc k) d (omega arith) (omega arith)))

  stand_no : (xs : List V) (k : ℕ) → k < length xs → HoldsAt (λ x. stands (m.offset x) used ≡ false) xs k → all_stand (map (pushed m law) xs) used ≡ false
  stand_no [] k h none = absurd (omega arith)
  stand_no (x ∷ xs) zero h none = rw (none x) refl
  stand_no (x ∷ xs) (suc k) h none = rw (stand_no xs k (omega arith) none) (and_false (stands (m.offset x) used))
    where
      and_false : (b : Bool) → (b && false) ≡ false
      and_false true = refl
      and_false false = refl

  stand_all : (xs : List V) (all : Bool)
      → MatchBool all (AllWithin (λ x. stands (m.offset x) used ≡ true) xs 0 (length xs)) ((k : ℕ) × (k < length xs) × HoldsAt (λ x. stands (m.offset x) used ≡ false) xs k)
      → all ≡ all_stand (map (pushed m law) xs) used
  stand_all xs true each = sym (stand_yes xs each)
  stand_all xs false none = sym (stand_no xs none.0 none.1 none.2)

pub returns : goal.returns
returns g c =
    let m = g.T.Kind.meaning in
    let used = c.args.used in
    stand_all m g.T.Kind.lawful used c.args.items.now c.all.result
    (cases_from_all _ _ _ (λ x. stands (m.offset x) used ≡ true) (λ x. stands (m.offset x) used ≡ false) c.all.ensures.ran
    (YieldsList-from_slice c.args.items.now cc) (λ x q k. search (rules, tests)) (λ x q k. search (rules, tests)))
