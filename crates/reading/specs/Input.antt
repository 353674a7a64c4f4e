-- Numbers as the input's bytes write them, and sums that stop at the largest 64-bit number.
use Rattle.std.specs.Prelude.{ℕ, ◌+◌, ◌*◌, min, List}
use Rattle.wire.specs.Words.{word}

-- p + n, or the largest 64-bit number where the sum passes it
unfoldable pub saturated : ℕ → ℕ → ℕ
saturated p n = min (p + n) 18446744073709551615

-- n * size, or the largest 64-bit number where the product passes it
unfoldable pub saturated_product : ℕ → ℕ → ℕ
saturated_product n size = min (n * size) 18446744073709551615

-- the words of two and four bytes at p
unfoldable pub u16_at : List ℕ → ℕ → ℕ
u16_at b p = word 2 b p

unfoldable pub u32_at : List ℕ → ℕ → ℕ
u32_at b p = word 4 b p
