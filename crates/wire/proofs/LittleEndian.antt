-- Bytes written in little-endian order read back as the number.
use Rattle.std.proofs.Common.{◌≡◌, ℕ, zero, suc, ◌+◌, ◌*◌, ◌/◌, ◌%◌, ◌^◌, ◌<◌, List, [], ◌∷◌, ◌++◌, length, get_or, refl, ◌∙◌, mod-lt, mod-eq_of_lt, mul_comm, pow-suc, arith}
use lib.Arith.{mod-mul}
use Rattle.std.proofs.lemmas.List.{append_assoc, length_push, get_or-append-add, get_or_at}
use Rattle.wire.specs.Bytes.{Octets}
use Rattle.wire.specs.Words.{le, word}

pub length_le : (n v : ℕ) → length (le n v) ≡ n
length_le zero v = refl
length_le (suc zero) v = refl
length_le (suc (suc n)) v = length_push (le (suc n) v) _ ∙ (let h = length_le (suc n) v in omega arith)

pub octets_append : (xs ys : List ℕ) → Octets xs → Octets ys → Octets (xs ++ ys)
octets_append [] ys h k = k
octets_append (x ∷ xs) ys h k = (h.0, octets_append xs ys h.1 k)

pub octets_le : (n v : ℕ) → Octets (le n v)
octets_le zero v = tt
octets_le (suc zero) v = (mod-lt v (omega arith), tt)
octets_le (suc (suc n)) v = octets_append (le (suc n) v) _ (octets_le (suc n) v) (mod-lt _ (omega arith), tt)

pow256_pos : (n : ℕ) → 0 < 256 ^ n
pow256_pos zero = omega arith
pow256_pos (suc n) = let h = pow256_pos n in rw pow-suc (omega arith)

-- one byte more
join : (v n : ℕ) → v % 256 ^ n + v / 256 ^ n % 256 * 256 ^ n ≡ v % 256 ^ suc n
join v n = rw (pow-suc, mul_comm (256 ^ n) 256, mod-mul v {m = 256} {c = 256 ^ n} (omega arith) (pow256_pos n)) (omega arith)

-- the n bytes of v between any others
pub word_le : (n v : ℕ) (front behind : List ℕ) → word n (front ++ (le n v ++ behind)) (length front) ≡ v % 256 ^ n
word_le zero v front behind = omega arith
word_le (suc zero) v front behind = get_or_at front (v % 256) behind 0 (length front) refl
word_le (suc (suc n)) v front behind =
    let d = v / 256 ^ suc n % 256 in
    let low = word_le (suc n) v front (d ∷ behind) in
    let top : get_or (front ++ (le (suc n) v ++ (d ∷ behind))) (length front + suc n) 0 ≡ d = get_or-append-add front _ (suc n) 0 ∙ get_or_at (le (suc n) v) d behind 0 (suc n) (length_le (suc n) v) in
    rw (append_assoc (le (suc n) v) (d ∷ []) behind, low, top) (join v (suc n))

-- a number of n bytes reads back
pub word_back : (n v : ℕ) (front behind : List ℕ) → v < 256 ^ n → word n (front ++ (le n v ++ behind)) (length front) ≡ v
word_back n v front behind h = word_le n v front behind ∙ mod-eq_of_lt h
