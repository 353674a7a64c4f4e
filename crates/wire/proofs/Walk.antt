-- The walk over the bytes of a text.
use Rattle.std.proofs.Common.{◌≡◌, ℕ, ◌≤◌, true, List, [], ◌∷◌, refl, arith}
use Rattle.std.proofs.lemmas.Bool.Decides.{nat_tests}
use Rattle.wire.specs.Utf8.{within, walk}

-- between characters the range and the last end do not matter
pub free : (lo hi ended lo' hi' ended' at : ℕ) (bs : List ℕ) → walk 0 lo hi ended at bs ≡ walk 0 lo' hi' ended' at bs
free lo hi ended lo' hi' ended' at [] = refl
free lo hi ended lo' hi' ended' at (b ∷ bs) = refl

pub within_yes : (lo hi b : ℕ) → lo ≤ b → b ≤ hi → within lo hi b ≡ true
within_yes lo hi b l h = grind (arith, nat_tests)
