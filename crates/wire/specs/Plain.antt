-- Kinds whose values are the same wherever they lie.
use Rattle.std.specs.Prelude.{◌≡◌, ℕ, ◌+◌, ◌≤◌, Bool, T, List, length, take, drop, None, Option}
use Rattle.wire.specs.Kind.{Meaning}
use Rattle.wire.specs.Scalars.{within}

-- the n bytes at p, where they lie inside b
abbrev pub bytes_at : List ℕ → ℕ → ℕ → Option (List ℕ)
bytes_at b p n = within n b p (take n (drop p b))

-- A kind whose values have n bytes and are no offsets. What is read at a position depends on the bytes there alone,
-- and of values that the machine holds `same` says whether they are equal.
pub record Plain {V : Type 0} (m : Meaning V V) (n : ℕ) (same : V → V → Bool) : Type 0 where
  pub sized : m.size ≡ n
  pub no_offset : (v : V) → m.offset v ≡ None
  pub local : (b : List ℕ) (p : ℕ) → p + m.size ≤ length b → m.reads b p ≡ m.reads (take m.size (drop p b)) 0
  pub equal : (x y : V) → T (m.fits x) → T (m.fits y) → same x y ≡ m.equal x y
