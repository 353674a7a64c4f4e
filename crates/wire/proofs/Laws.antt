-- The laws of the families of kinds.
use Rattle.std.proofs.Common.{◌≡◌, ℕ, ◌+◌, ◌-◌, ◌*◌, ◌^◌, ◌<◌, ◌≤◌, Bool, true, cond, T, ltb, leb, List, [], ◌∷◌, ◌++◌, length, ℤ, Some, None, refl, ap, ◌∙◌, inl, inr, suc-mul, mul-pos, arith, ltb→lt, to_z-of_z, SFits, to_z, of_z}
use native.Mathlib.Nat.{mod_self, mul-mod_left}
use lib.Signed.{mag}
use lib.Ieee.{Format, to_bits, of_bits, top}
use lib.Ieee.Bits.{of_bits-to_bits, to_bits-lt}
use mir.Syntax.{Width}
use mir.Val.{hbits, bits}
use mir.Facts.{Fits-of_z}
use Rattle.std.specs.List.{flat_map}
use Rattle.std.proofs.lemmas.List.{append_assoc, length-append}
use Rattle.std.proofs.lemmas.Bool.Decides.{nat_tests}
use Rattle.wire.specs.Bytes.{Octets}
use Rattle.wire.specs.Words.{le, word, inside}
use Rattle.wire.specs.Kind.{Law, Alignment}
use Rattle.wire.specs.Offsets.{position, forwards}
use Rattle.wire.specs.Structs.{words, struct}
use Rattle.wire.specs.Scalars.{within, scalar, unsigned, fits_signed, signed, float}
use Rattle.wire.proofs.LittleEndian.{length_le, octets_append, octets_le, word_back}

within_yes : {S : Type 0} (n : ℕ) (b : List ℕ) (p : ℕ) (x : S) → p + n ≤ length b → within n b p x ≡ Some x
within_yes n b p x h = grind (arith, nat_tests)

within_no : {S : Type 0} (n : ℕ) (b : List ℕ) (p : ℕ) (x : S) → length b < p + n → within n b p x ≡ None
within_no n b p x h = grind (arith, nat_tests)

-- the sizes of numbers are their alignments
module _ {V : Type 0} (n : ℕ) (holds : V → Bool) (code : V → ℕ) (decode : ℕ → V) (same : V → V → Bool) where
  pub scalar_law : Alignment n → ((v : V) → T (holds v) → code v < 256 ^ n) → ((v : V) → T (holds v) → decode (code v) ≡ v) → Law (scalar n holds code decode same)
  scalar_law a low inverse = record {
    sized = grind arith;
    aligned = a;
    divides = mod_self n;
    long = λ v used. length_le n (code v);
    octets = λ v used. octets_le n (code v);
    leads = λ v. tt;
    back = λ v front behind h _.
        within_yes n _ (length front) _ (let l = length_le n (code v) in simp length-append (omega arith)) ∙ ap Some (ap decode (word_back n (code v) front behind (low v h)) ∙ inverse v h);
    absent = λ b p h. within_no n b p _ h;
  }

pub unsigned_law : (n : ℕ) → Alignment n → Law (unsigned n)
unsigned_law n a = scalar_law n _ _ _ _ a (λ v h. ltb→lt v (256 ^ n) h) (λ v h. refl)

-- a signed number fits its bits, and comes back from them
sfits : (w : Width) (z : ℤ) → T (fits_signed w z) → SFits w z
sfits w z h = record { sfits = ltb→lt (mag z) (2 ^ hbits w) h }

pub signed_low : (w : Width) (z : ℤ) → T (fits_signed w z) → of_z w z < 2 ^ bits w
signed_low w z h = (Fits-of_z (sfits w z h)).fits

pub signed_back : (w : Width) (z : ℤ) → T (fits_signed w z) → to_z w (of_z w z) ≡ z
signed_back w z h = to_z-of_z (sfits w z h)

-- a number of n bytes has the width w
pub signed_law : (n : ℕ) (w : Width) → 2 ^ bits w ≡ 256 ^ n → Alignment n → Law (signed n w)
signed_law n w e a =
    scalar_law n _ (of_z w) (to_z w) _ a (λ z h. rw (← e) (signed_low w z h)) (λ z h. signed_back w z h)

pub float_law : (n : ℕ) (f : Format) → 2 * top f ≡ 256 ^ n → Alignment n → Law (float n f)
float_law n f e a = scalar_law n _ (to_bits f) (of_bits f) _ a (λ x h. rw (← e) (to_bits-lt f x h)) (λ x h. of_bits-to_bits f x h)

-- ---- structs

-- each number has n bytes
abbrev pub Low : ℕ → List ℕ → Type 0
Low n [] = Unit {0}
Low n (c ∷ cs) = (c < 256 ^ n) × Low n cs

length_joined_le : (n : ℕ) (cs : List ℕ) → length (flat_map (le n) cs) ≡ length cs * n
length_joined_le n [] = omega arith
length_joined_le n (c ∷ cs) = let h = length_joined_le n cs in let l = length_le n c in simp (length-append, suc-mul) (omega arith)

octets_joined_le : (n : ℕ) (cs : List ℕ) → Octets (flat_map (le n) cs)
octets_joined_le n [] = tt
octets_joined_le n (c ∷ cs) = octets_append (le n c) (flat_map (le n) cs) (octets_le n c) (octets_joined_le n cs)

words_back : (n : ℕ) (cs front behind : List ℕ) → Low n cs → words (length cs) n (front ++ (flat_map (le n) cs ++ behind)) (length front) ≡ cs
words_back n [] front behind h = refl
words_back n (c ∷ cs) front behind h =
    let rest = flat_map (le n) cs ++ behind in
    let first = word_back n c front rest h.0 in
    let later = rw (length-append front (le n c), length_le n c, append_assoc front (le n c) rest) at (words_back n cs (front ++ le n c) behind h.1) in
    rw (append_assoc (le n c) (flat_map (le n) cs) behind, first, later)

module _ {V : Type 0} (k n : ℕ) (holds : V → Bool) (codes : V → List ℕ) (decode : List ℕ → V) (same : V → V → Bool) where
  pub struct_law : 0 < k → Alignment n → ((v : V) → length (codes v) ≡ k) → ((v : V) → T (holds v) → Low n (codes v)) → ((v : V) → T (holds v) → decode (codes v) ≡ v) → Law (struct k n holds codes decode same)
  struct_law some a count low inverse = record {
    sized = mul-pos some (grind arith);
    aligned = a;
    divides = mul-mod_left k n;
    long = λ v used. length_joined_le n (codes v) ∙ ap (λ (j : ℕ). j * n) (count v);
    octets = λ v used. octets_joined_le n (codes v);
    leads = λ v. tt;
    back = λ v front behind h _.
        let l = length_joined_le n (codes v) ∙ ap (λ (j : ℕ). j * n) (count v) in
        let e = words_back n (codes v) front behind (low v h) in
        within_yes (k * n) _ (length front) _ (simp length-append (omega arith)) ∙ ap Some (ap decode (rw (count v) at e) ∙ inverse v h);
    absent = λ b p h. within_no (k * n) b p _ h;
  }

-- ---- offsets

-- over the size of the offset, so that its bytes stay one term
forwards_back : (n o : ℕ) (front behind : List ℕ) → 0 < o → o ≤ length behind → n + length behind < 256 ^ n → let b : List ℕ = front ++ (le n (n + length behind - o) ++ behind) in cond (inside b (length front) n) (position b (length front + word n b (length front))) None ≡ Some (length front + (n + length behind) - o)
forwards_back n o front behind some within low =
    let v : ℕ = n + length behind - o in
    let e = word_back n v front behind (omega arith) in
    let l = length_le n v in
    let b : List ℕ = front ++ (le n v ++ behind) in
    let len : length b ≡ length front + (n + length behind) = simp length-append (omega arith) in
    let all : leb (length front + n) (length b) ≡ true = grind (arith, nat_tests) in
    let at : ltb (length front + v) (length b) ≡ true = grind (arith, nat_tests) in
    let q : length front + v ≡ length front + (n + length behind) - o = omega arith in
    rw (e, all, at) (ap Some q)

pub forwards_law : {O : Type 0} (value : O → ℕ) → Law (forwards value)
forwards_law value = record {
  sized = omega arith;
  aligned = inr (inr (inl refl));
  divides = refl;
  long = λ o used. refl;
  octets = λ o used. octets_le 4 _;
  leads = λ o. (refl, refl, λ used. refl);
  back = λ o front behind _ points. forwards_back 4 (value o) front behind points.0 points.1 (omega arith);
  absent = λ b p h. grind (arith, nat_tests);
}
