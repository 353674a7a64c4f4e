-- Numbers and structs of numbers are plain.
use Rattle.std.proofs.Common.{◌≡◌, ℕ, zero, suc, ◌+◌, ◌*◌, ◌<◌, ◌≤◌, Bool, T, List, length, take, drop, get_or, ℤ, refl, sym, ap, ◌∙◌, arith, to_z, of_z}
use Rattle.std.proofs.lemmas.List.{get_or-take, get_or-drop, length-take, length-drop}
use Rattle.std.proofs.lemmas.Bool.Decides.{nat_tests, same_from_decides, Decides-like, Decides-eqb, Decides-int_eq}
use Rattle.std.specs.Prelude.{nat_eq, from_bits}
use Rattle.std.specs.Int.{Width}
use Rattle.std.specs.Float.{Format}
use Rattle.std.specs.Float.Ieee.{eq}
use Rattle.std.specs.Ordering.{int_eq}
use Rattle.wire.specs.Words.{word}
use Rattle.wire.specs.Scalars.{within, scalar, unsigned, fits_signed, equalℤ, signed, float}
use Rattle.wire.specs.Structs.{words, struct}
use Rattle.wire.specs.Plain.{Plain}
use Rattle.wire.proofs.Laws.{signed_back}

-- the byte, the number and the numbers at q in a part of b that begins at p are those at r in b
byte_of_part : (b : List ℕ) (m p q r : ℕ) → r ≡ p + q → q < m → get_or (take m (drop p b)) q 0 ≡ get_or b r 0
byte_of_part b m p q r e h = rw e (get_or-take m (drop p b) q 0 h ∙ get_or-drop p b q 0)

word_of_part : (n : ℕ) (b : List ℕ) (m p q r : ℕ) → r ≡ p + q → q + n ≤ m → word n (take m (drop p b)) q ≡ word n b r
word_of_part zero b m p q r e h = refl
word_of_part (suc zero) b m p q r e h = byte_of_part b m p q r e (omega arith)
word_of_part (suc (suc n)) b m p q r e h =
    rw (word_of_part (suc n) b m p q r e (omega arith), byte_of_part b m p (q + suc n) (r + suc n) (omega arith) (omega arith)) refl

words_of_part : (k n : ℕ) (b : List ℕ) (m p q r : ℕ) → r ≡ p + q → q + k * n ≤ m → words k n (take m (drop p b)) q ≡ words k n b r
words_of_part zero n b m p q r e h = refl
words_of_part (suc k) n b m p q r e h =
    rw (word_of_part n b m p q r e (omega arith), words_of_part k n b m p (q + n) (r + n) (omega arith) (omega arith)) refl

-- both lie inside
within_part : {S : Type 0} (n : ℕ) (b : List ℕ) (p : ℕ) (x y : S) → x ≡ y → p + n ≤ length b → within n b p x ≡ within n (take n (drop p b)) 0 y
within_part n b p x y e h = rw e (let l = length-take n (drop p b) in let d = length-drop p b in grind (arith, nat_tests))

module _ {V : Type 0} (n : ℕ) (holds : V → Bool) (code : V → ℕ) (decode : ℕ → V) (same other : V → V → Bool) where
  pub scalar_plain : ((x y : V) → T (holds x) → T (holds y) → other x y ≡ same x y) → Plain (scalar n holds code decode same) n other
  scalar_plain h = record {
    sized = refl;
    no_offset = λ v. refl;
    local = λ b p inside. within_part n b p _ _ (ap decode (sym (word_of_part n b n p 0 p (omega arith) (omega arith)))) inside;
    equal = h;
  }

pub unsigned_plain : (n : ℕ) → Plain (unsigned n) n nat_eq
unsigned_plain n = scalar_plain n _ _ (λ v. v) nat_eq nat_eq (λ x y _ _. refl)

-- numbers that fit are equal where their bits are
pub signed_equal : (w : Width) (x y : ℤ) → T (fits_signed w x) → T (fits_signed w y) → int_eq x y ≡ equalℤ w x y
signed_equal w x y h k =
    same_from_decides (int_eq x y) _ (Decides-int_eq x y)
    (Decides-like _ (λ e. sym (signed_back w x h) ∙ (ap (to_z w) e ∙ signed_back w y k)) (ap (of_z w)) (Decides-eqb (of_z w x) (of_z w y)))

pub signed_plain : (n : ℕ) (w : Width) → Plain (signed n w) n int_eq
signed_plain n w = scalar_plain n _ _ (to_z w) (equalℤ w) int_eq (signed_equal w)

pub float_plain : (n : ℕ) (f : Format) → Plain (float n f) n eq
float_plain n f = scalar_plain n _ _ (from_bits f) eq eq (λ x y _ _. refl)

module _ {V : Type 0} (k n : ℕ) (holds : V → Bool) (codes : V → List ℕ) (decode : List ℕ → V) (same other : V → V → Bool) where
  pub struct_plain : ((x y : V) → T (holds x) → T (holds y) → other x y ≡ same x y) → Plain (struct k n holds codes decode same) (k * n) other
  struct_plain h = record {
    sized = refl;
    no_offset = λ v. refl;
    local = λ b p inside. within_part (k * n) b p _ _ (ap decode (sym (words_of_part k n b (k * n) p 0 p (omega arith) (omega arith)))) inside;
    equal = h;
  }
