-- The meaning of offsets.
use Rattle.std.specs.Prelude.{ℕ, ◌+◌, ◌-◌, true, cond, List, length, Some, None, Option, ◌==◌, nat_lt}
use Rattle.wire.specs.Words.{le, word, inside}
use Rattle.wire.specs.Kind.{Meaning}

-- a position of the input b
abbrev pub position : List ℕ → ℕ → Option ℕ
position b q = cond (nat_lt q (length b)) (Some q) None

-- the position to which the offset at p leads
abbrev pub followed : List ℕ → ℕ → Option ℕ
followed b p = cond (inside b p 4) (position b (p + word 4 b p)) None

-- An offset counts from the end of the buffer, so that it stays as the buffer grows at its front.
-- What is stored is the distance from its own bytes on, and what is read is the position of its object.
abbrev pub forwards : {O : Type 0} → (O → ℕ) → Meaning O ℕ
forwards value = record {
  size = 4;
  alignment = 4;
  fits = λ o. true;
  offset = λ o. Some (value o);
  bytes = λ o used. le 4 (4 + used - value o);
  reads = followed;
  shown = λ o len. len - value o;
  equal = λ o q. (value o == value q);
}
