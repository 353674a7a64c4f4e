-- How a store grows.
use Rattle.std.specs.Prelude.{◌≡◌, ℕ, ◌<◌, Bool, true, false, List, length}
use Rattle.wire.specs.Bytes.{raised}

-- What growth does; ok says whether the store grew. The list and the limit stand before and after.
pub record Grown (before : List ℕ) (low : ℕ) (after : List ℕ) (high : ℕ) (ok : Bool) : Type 0 where
  -- zero bytes are set in front, and nothing else changes
  pub list : after ≡ raised (length after) before
  pub limit : high ≡ low
  pub more : ok ≡ true → length before < length after
  pub full : ok ≡ false → (after ≡ before) × (length before ≡ low)
