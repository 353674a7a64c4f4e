-- What a call is told, by its tests.
use Rattle.std.proofs.Common.{◌≡◌, ℕ, ◌≤◌, Bool, true, false, leb, List, [], ◌∷◌, ◌++◌, Ok, Err, refl, arith}
use Rattle.std.proofs.lemmas.Bool.Decides.{nat_tests}
use Rattle.std.proofs.lemmas.Bool.{cond-true, cond-false}
use Rattle.wire.specs.declared.refusal.Refusal.{Refusal}
use Rattle.wire.specs.Answers.{Why, Test, Where, above, decided, number, space_tests, too_much}

module _ {A : Type 0} (x : A) where
  -- a test that fails refuses
  pub decided_stop : (t : Test) (ts : List Test) → t.fails ≡ true → decided (t ∷ ts) x ≡ Err t.why
  decided_stop t ts e = cond-true t.fails _ _ e

  -- a test that does not fail is passed over
  pub decided_pass : (t : Test) (ts : List Test) → t.fails ≡ false → decided (t ∷ ts) x ≡ decided ts x
  decided_pass t ts e = cond-false t.fails _ _ e

-- an accepted call answers what it is to answer
pub decided_ok : {A : Type 0} (x y : A) (ts : List Test) → Ok y ≡ decided ts x → y ≡ x
decided_ok x y [] e = cc
decided_ok x y (t ∷ ts) e = grind (arith, decided_ok x y ts)

-- a refusal does not depend on the answer
pub decided_err : {A B : Type 0} (w : Why) (ts : List Test) (x : A) (y : B) → Err w ≡ decided ts x → Err w ≡ decided ts y
decided_err w [] x y e = cc
decided_err w (t ∷ ts) x y e = grind (arith, decided_err w ts x y)

-- nor does acceptance
pub decided_other : {A B : Type 0} (v : A) (ts : List Test) (x : A) (y : B) → Ok v ≡ decided ts x → Ok y ≡ decided ts y
decided_other v [] x y e = refl
decided_other v (t ∷ ts) x y e = grind (arith, decided_other v ts x y)

-- an accepted call that takes space stays below 2 GiB
pub tests_low : {A : Type 0} (n : ℕ) (ts : List Test) (v x : A) → Ok v ≡ decided (too_much n ∷ ts) x → n ≤ 2147483647
tests_low n ts v x e = grind (arith, nat_tests)

pub space_low : {A : Type 0} (n limit : ℕ) (v x : A) → Ok v ≡ decided (space_tests n limit) x → n ≤ 2147483647
space_low n limit v x e = tests_low n (above n limit ∷ []) v x e

-- an accepted call passed its first test
pub passed_on : {A : Type 0} (t : Test) (ts : List Test) (v x : A) → Ok v ≡ decided (t ∷ ts) x → (t.fails ≡ false) × (Ok v ≡ decided ts x)
passed_on t ts v x e = (grind arith, grind arith)

-- tests before others
pub decided_err_more : {A : Type 0} (w : Why) (ts us : List Test) (x : A) → Err w ≡ decided ts x → Err w ≡ decided (ts ++ us) x
decided_err_more w [] us x e = cc
decided_err_more w (t ∷ ts) us x e = grind (arith, decided_err_more w ts us x)

pub decided_ok_more : {A B : Type 0} (v x : A) (ts us : List Test) (y : B) → Ok v ≡ decided ts x → decided (ts ++ us) y ≡ decided us y
decided_ok_more v x [] us y e = refl
decided_ok_more v x (t ∷ ts) us y e = grind (arith, decided_ok_more v x ts us y)

-- what is known of a refusing store serves for another fact
pub asked_refused : {E : Type 0} (e : Refusal E) (P P' Q : Type 0) → (P → P') → Where (leb 12 (number e)) P Q → Where (leb 12 (number e)) P' Q
asked_refused e P P' Q f h = by (leb 12 (number e)) h
  where
    by : (b : Bool) → Where b P Q → Where b P' Q
    by true h = f h
    by false h = h
