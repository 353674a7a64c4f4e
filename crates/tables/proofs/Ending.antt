-- The end of a table: what it leaves of a space.
use Rattle.std.proofs.Common.{◌≡◌, ℕ, ◌+◌, ◌-◌, ◌≤◌, min, Bool, true, false, List, ◌++◌, length, drop, sym, ap, ◌∙◌, subst, arith, length-append, length-drop}
use Rattle.std.proofs.lemmas.Bool.{false≢true}
use lib.ListN.{length-replicate}
use Rattle.space.proofs.Spaces.{prepended_of, prepended_used, fronted_done}
use Rattle.space.specs.Taken.{Parts, Spaced, Placed, Prepended, Released, Fronted}
use Rattle.wire.specs.Bytes.{unspent, zeros}
use Rattle.wire.specs.Words.{le}

module _ {S : Type 0} where
  -- room made for n used bytes, and the last of them placed there
  module _ (before mid full : Parts S) (ok : Bool) (want n : ℕ) (bytes : List ℕ) (yes : true ≡ ok) (room : Spaced before mid ok want) (put : Placed mid full true bytes)
      (size : length bytes ≡ want) (need : length before.taken + want ≡ n) where
    placed : Prepended before full true bytes
    placed = prepended_of before mid full want bytes (subst (λ (b : Bool). Spaced before mid b want) (sym yes) room) put size

    pub fronted_new : Fronted before full n 0 false
    fronted_new = fronted_done before full bytes n (omega arith) placed

    -- and the first `count` of them given back
    pub fronted_found : (after : Parts S) (count : ℕ) → count ≤ want → Released full after (min count (length full.taken)) (drop count full.taken) → Fronted before after n count false
    fronted_found after count most q =
        let long : length full.taken ≡ n = prepended_used before full bytes n (omega arith) placed in
        let fits : min count (length full.taken) ≡ count = omega arith in
        let left = ap length q.used ∙ length-drop count full.taken in
        let rest : after.rest ≡ full.rest ++ zeros count = q.unused ∙ ap (λ (k : ℕ). full.rest ++ zeros k) fits in
        let z = length-replicate {A = ℕ} count 0 in
        let more : length after.rest ≡ length full.rest + count = omega (arith, ap length rest ∙ length-append full.rest (zeros count)) in
        let a : length full.rest ≡ length after.rest - count = omega arith in
        let b : length bytes ≡ length after.taken + count - length before.taken = omega arith in
        record {
          unused = rest ∙ ap (λ (us : List ℕ). us ++ zeros count)
              (placed.unused ∙ ap (λ (k : ℕ). unspent k (length bytes) before.rest) a ∙ ap (λ (k : ℕ). unspent (length after.rest - count) k before.rest) b);
          still = λ h. omega (arith, fronted_new.still h);
          grown = λ _. omega arith;
          full = λ no. absurd (false≢true no);
          limited = q.limited ∙ placed.limited;
        }

  -- the same by equal names of the space that is left and of the count
  pub fronted_as : (before after left : Parts S) (n count back : ℕ) → left ≡ after → back ≡ count → Fronted before after n count false → Fronted before left n back false
  fronted_as before after left n count back el eb f =
      subst (λ (b : ℕ). Fronted before left n b false) (sym eb) (subst (λ (p : Parts S). Fronted before p n count false) (sym el) f)

-- how long a vtable, a word and padding are
pub table_size : (vt : List ℕ) (word pad : ℕ) → length (vt ++ (le 4 word ++ zeros pad)) ≡ length vt + 4 + pad
table_size vt word pad = omega (arith, length-append vt (le 4 word ++ zeros pad), length-append (le 4 word) (zeros pad), length-replicate {A = ℕ} pad 0)
