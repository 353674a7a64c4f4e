-- What a call that wrote was told.
use Rattle.std.proofs.Common.{◌≡◌, ℕ, ◌≤◌, true, false, List, [], ◌∷◌, Ok}
use Rattle.std.specs.List.{AllByRecursion}
use Rattle.std.proofs.lemmas.Bool.{ltb-false, not-false}
use Rattle.wire.specs.Answers.{Test, decided, vector_tests}
use Rattle.wire.specs.Layouts.{all_stand, vector_offset}
use Rattle.wire.specs.Pushed.{Pushed, Layout}
use Rattle.wire.proofs.Decided.{passed_on}

-- it passed each of its tests
pub passed : {A : Type 0} (ts : List Test) (v x : A) → Ok v ≡ decided ts x → AllByRecursion (λ t. t.fails ≡ false) ts
passed [] v x e = tt
passed (t ∷ ts) v x e = let p = passed_on t ts v x e in (p.0, passed ts v x p.1)

-- so did a vector
pub vector_passed : (k : Layout) (items : List Pushed) (used limit n x : ℕ) → Ok n ≡ decided (vector_tests k items used limit) x → (all_stand items used ≡ true) × (vector_offset k items used ≤ 2147483647)
vector_passed k items used limit n x e =
    let p = passed (vector_tests k items used limit) n x e in
    (not-false (all_stand items used) p.0, ltb-false 2147483647 (vector_offset k items used) p.1.0)
