-- Bytes with padding behind them, in a space where room was made for them.
use Rattle.std.proofs.Common.{◌≡◌, ℕ, ◌+◌, ◌≤◌, Bool, true, List, ◌++◌, length, refl, ap, ◌∙◌, subst, arith, length-append}
use lib.ListN.{length-replicate}
use Rattle.space.specs.Taken.{Parts, Placed, Prepended, Spaced}
use Rattle.space.proofs.Spaces.{placed_done, placed_placed, placed_rest, prepended_of}
use Rattle.wire.specs.Bytes.{zeros}

module _ {S : Type 0} (s mid padded after : Parts S) (zeroed ok : Bool) (pad size want : ℕ) (bytes : ℕ → List ℕ) (long : (used : ℕ) → length (bytes used) ≡ size)
    (spaced : Spaced s mid true want) (padding : Placed mid padded zeroed (zeros pad)) (placed : Placed padded after ok (bytes (length padded.taken))) where
  abbrev all : List ℕ
  all = bytes (pad + length s.taken) ++ zeros pad

  length_all : length all ≡ pad + size
  length_all =
      let z = length-replicate {A = ℕ} pad 0 in
      let b = long (pad + length s.taken) in
      length-append (bytes (pad + length s.taken)) (zeros pad) ∙ omega arith

  -- the padding, and then the bytes in front of it
  placed_padded : pad + size ≤ want → Placed mid after true all
  placed_padded few =
      let room = spaced.room refl in
      let z = length-replicate {A = ℕ} pad 0 in
      let first = placed_done mid padded zeroed (zeros pad) (omega arith) padding in
      let behind : length padded.taken ≡ pad + length s.taken =
      ap length first.used ∙ length-append (zeros pad) mid.taken ∙ (let k = ap length spaced.kept in omega arith) in
      let left = placed_rest mid padded (zeros pad) first in
      let b = long (pad + length s.taken) in
      placed_placed mid padded after (zeros pad) (bytes (pad + length s.taken)) first
      (placed_done padded after ok (bytes (pad + length s.taken)) (omega arith) (subst (λ (n : ℕ). Placed padded after ok (bytes n)) behind placed))

  pub prepended_padded : want ≡ pad + size → Prepended s after true (bytes (pad + length s.taken) ++ zeros pad)
  prepended_padded more = prepended_of s mid after want all spaced (placed_padded (omega arith)) (length_all ∙ omega arith)

  -- the same with other bytes in front
  pub prepended_headed : (last : Parts S) (done : Bool) (head : List ℕ) → want ≡ pad + size + length head → Placed after last done head
      → Prepended s last true (head ++ (bytes (pad + length s.taken) ++ zeros pad))
  prepended_headed last done head more headed =
      let room = spaced.room refl in
      let body = placed_padded (omega arith) in
      let size = length_all in
      let left = placed_rest mid after all body in
      let both = length-append head all in
      prepended_of s mid last want (head ++ all) spaced
      (placed_placed mid after last all head body (placed_done after last done head (omega arith) headed)) (omega arith)
