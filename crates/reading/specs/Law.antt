-- The law of every shape: where its reading accepts, the ranges read lie inside the input.
use Rattle.std.specs.Prelude.{◌≡◌, ℕ, ◌+◌, ◌^◌, ◌<◌, ◌≤◌, List, [], ◌∷◌, length}
use Rattle.reading.specs.declared.options.Counters.{Counters}
use Rattle.reading.specs.declared.options.VerifierOptions.{VerifierOptions}
use Rattle.reading.specs.Shape.{Shape}
use Rattle.reading.specs.Reading.{Range, accepted, reading}

abbrev pub Inside : List ℕ → List Range → Type 0
Inside b [] = Unit {0}
Inside b (r ∷ rs) = (r.start + r.size ≤ length b) × Inside b rs

-- A slice has fewer than 2 ^ 63 bytes.
abbrev pub AcceptedLiesInside : Shape → Type 0
AcceptedLiesInside s = (b : List ℕ) (o : VerifierOptions) (p : ℕ) (c : Counters) → length b < 2 ^ 63 →
    (reading s p b o c).outcome ≡ accepted → Inside b (reading s p b o c).ranges

abbrev pub EveryShapeLiesInside : Type 0
EveryShapeLiesInside = (s : Shape) → AcceptedLiesInside s
