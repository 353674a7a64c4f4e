-- Numbers as bytes, the least significant first.
use Rattle.std.specs.Prelude.{ℕ, zero, suc, ◌+◌, ◌*◌, ◌/◌, ◌%◌, ◌^◌, Bool, List, [], ◌∷◌, ◌++◌, length, nat_le, slice_index}

-- the n low bytes of v
abbrev pub le : ℕ → ℕ → List ℕ
le zero v = []
le (suc zero) v = v % 256 ∷ []
le (suc (suc n)) v = le (suc n) v ++ (v / 256 ^ suc n % 256 ∷ [])

-- the number that the n bytes at p write
abbrev pub word : ℕ → List ℕ → ℕ → ℕ
word zero b p = 0
word (suc zero) b p = slice_index b p
word (suc (suc n)) b p = word (suc n) b p + slice_index b (p + suc n) * 256 ^ suc n

-- the n bytes at p lie inside b
abbrev pub inside : List ℕ → ℕ → ℕ → Bool
inside b p n = nat_le (p + n) (length b)
