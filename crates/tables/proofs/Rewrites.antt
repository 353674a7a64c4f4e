-- Used bytes that are replaced.
use Rattle.std.proofs.Common.{◌≡◌, ℕ, ◌+◌, ◌≤◌, Bool, true, leb, List, ◌++◌, length, ap, ◌∙◌, arith, length-append}
use Rattle.space.specs.Taken.{Parts, Placed}
use lib.ListN.{length-replicate}
use Rattle.space.proofs.Spaces.{placed_done}
use Rattle.wire.specs.Bytes.{front, zeros}
use Rattle.wire.proofs.Lists.{length_written}
use Rattle.tables.specs.Writing.{Rewritten}

module _ {S : Type 0} where
  pub rewritten_length : (before after : Parts S) (i : ℕ) (bs : List ℕ) → i + length bs ≤ length before.taken → Rewritten before after i bs
      → length after.taken ≡ length before.taken
  rewritten_length before after i bs fits w = ap length w.taken ∙ length_written before.taken i bs fits

  -- zero bytes that have room are placed
  pub zeroed : (before after : Parts S) (ok : Bool) (n : ℕ) → n ≤ length before.rest → Placed before after ok (zeros n)
      → (Placed before after true (zeros n)) × (length after.taken ≡ n + length before.taken)
  zeroed before after ok n room p =
      let z = length-replicate {A = ℕ} n 0 in
      let put = placed_done before after ok (zeros n) (omega arith) p in
      (put, omega (arith, ap length put.used ∙ length-append (zeros n) before.taken))

  -- zero bytes placed, and others written over them
  pub placed_over : (before mid after : Parts S) (n : ℕ) (bs : List ℕ) → Placed before mid true (zeros n) → n ≡ length bs → after.taken ≡ bs ++ before.taken
      → after.rest ≡ mid.rest → after.limit ≡ mid.limit → Placed before after true bs
  placed_over before mid after n bs p size took left limited =
      let same : length (zeros n) ≡ length bs = length-replicate n 0 ∙ size in
      record {
        answer = p.answer ∙ ap (λ (k : ℕ). leb k (length before.rest)) same;
        used = took;
        unused = left ∙ p.unused ∙ ap (λ (k : ℕ). front k before.rest) same;
        limited = limited ∙ p.limited;
      }
