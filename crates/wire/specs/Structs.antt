-- The meaning of structs whose fields are numbers of one size.
use Rattle.std.specs.Prelude.{ℕ, zero, suc, ◌+◌, ◌*◌, Bool, List, [], ◌∷◌, None}
use Rattle.std.specs.List.{flat_map}
use Rattle.wire.specs.Words.{le, word}
use Rattle.wire.specs.Kind.{Meaning}
use Rattle.wire.specs.Scalars.{within}

-- the numbers of k fields of n bytes each, from p on
abbrev pub words : ℕ → ℕ → List ℕ → ℕ → List ℕ
words zero n b p = []
words (suc k) n b p = word n b p ∷ words k n b (p + n)

-- a struct of k fields of n bytes each, coded as numbers
abbrev pub struct : {V : Type 0} → ℕ → ℕ → (V → Bool) → (V → List ℕ) → (List ℕ → V) → (V → V → Bool) → Meaning V V
struct k n holds codes decode same = record {
  size = k * n;
  alignment = n;
  fits = holds;
  offset = λ v. None;
  bytes = λ v used. flat_map (le n) (codes v);
  reads = λ b p. within (k * n) b p (decode (words k n b p));
  shown = λ v len. v;
  equal = same;
}
