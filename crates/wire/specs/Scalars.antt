-- The meaning of numbers.
use Rattle.std.specs.Prelude.{ℕ, ◌^◌, Bool, cond, ltb, List, ℤ, Some, None, Option, ◌==◌, from_bits, nat_eq, nat_lt, to_bits, Float}
use Rattle.std.specs.Int.Signed.{mag}
use Rattle.std.specs.Float.{Format}
use Rattle.std.specs.Float.Ieee.{fits, eq}
use Rattle.std.specs.Int.{Width}
use mir.Val.{to_z, of_z, hbits}
use Rattle.wire.specs.Words.{le, word, inside}
use Rattle.wire.specs.Kind.{Meaning}

-- x, where the n bytes at p lie inside b
abbrev pub within : {S : Type 0} → ℕ → List ℕ → ℕ → S → Option S
within n b p x = cond (inside b p n) (Some x) None

-- a value that n bytes code as a number
abbrev pub scalar : {V : Type 0} → ℕ → (V → Bool) → (V → ℕ) → (ℕ → V) → (V → V → Bool) → Meaning V V
scalar n holds code decode same = record {
  size = n;
  alignment = n;
  fits = holds;
  offset = λ v. None;
  bytes = λ v used. le n (code v);
  reads = λ b p. within n b p (decode (word n b p));
  shown = λ v len. v;
  equal = same;
}

abbrev pub unsigned : ℕ → Meaning ℕ ℕ
unsigned n = scalar n (λ v. ltb v (256 ^ n)) (λ v. v) (λ v. v) nat_eq

-- a signed number within the width w
abbrev pub fits_signed : Width → ℤ → Bool
fits_signed w z = nat_lt (mag z) (2 ^ hbits w)

abbrev pub equalℤ : Width → ℤ → ℤ → Bool
equalℤ w y z = of_z w y == of_z w z

-- a number in two's complement, of n bytes
abbrev pub signed : ℕ → Width → Meaning ℤ ℤ
signed n w = scalar n (fits_signed w) (of_z w) (to_z w) (equalℤ w)

-- every NaN is pushed as one pattern
abbrev pub float : ℕ → Format → Meaning Float Float
float n f = scalar n (fits f) (to_bits f) (from_bits f) eq
