-- What a call that writes is told, and what it does to the space.
use Rattle.std.specs.Prelude.{◌≡◌, ℕ, List, is_ok, Result}
use Rattle.space.specs.Taken.{Parts, Prepended, Spaced}
use Rattle.wire.specs.declared.refusal.Refusal.{Refusal}
use Rattle.wire.specs.Answers.{Asked, Test, decided, told}

module _ {S A E : Type 0} (before after : Parts S) (r : Result A (Refusal E)) (tests : List Test) (x : A) where
  -- It is told x, unless a test fails, and the bytes then lie in front of the used ones.
  pub record Wrote (bytes : List ℕ) : Type 0 where
    pub answer : told r ≡ decided tests x
    pub space : Asked r (Prepended before after (is_ok r) bytes) (after ≡ before)

  -- The same where only room is made for so many bytes.
  pub record Roomed (want : ℕ) : Type 0 where
    pub answer : told r ≡ decided tests x
    pub space : Asked r (Spaced before after (is_ok r) want) (after ≡ before)
