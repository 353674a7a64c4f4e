-- What the calls of a string's walk read.
use Rattle.std.proofs.Common.{◌≡◌, ℕ, ◌+◌, ◌-◌, Bool, cond, ◌||◌, Ok, Err, Result, sym, refl, ap, ◌∙◌, take, drop, arith}
use Rattle.std.proofs.lemmas.Bool.{eq-eqb, ne_eqb}
use Rattle.wire.specs.Utf8.{longest_prefix}
use Rattle.reading.specs.declared.invalid.InvalidFlatbuffer.{InvalidFlatbuffer}
use Rattle.reading.specs.declared.invalid.InvalidFlatbuffer.TheVariants.{Utf8Error, MissingNullTerminator}
use Rattle.reading.specs.Reading.{Walk, part, unless, zero_at, terminated, text_of, refuse}
use Rattle.verifier.specs.declared.verifier.Verifier.{Verifier}
use Rattle.verifier.specs.Told.{Seen, bytes, done}
use Rattle.verifier.proofs.Walks.{seen_is, seen_refuse, seen_unless, kept_same}

-- The bytes of a string were looked at, u the length of their longest front that is UTF-8.
module _ (s n u : ℕ) (v : Verifier) (found : u ≡ longest_prefix (take ((s + n) - s) (drop s (bytes v)))) where
  front : u ≡ longest_prefix (part (bytes v) s n)
  front = let i : (s + n) - s ≡ n = omega arith in found ∙ ap (λ z. longest_prefix (take z (drop s (bytes v)))) i

  ways : Bool → Walk
  ways t = cond t (terminated s n) (refuse (Utf8Error s (s + n) (longest_prefix (part (bytes v) s n))))

  pub text_refused : (u ≡ n → ⊥) → Seen (text_of s n (bytes v)) done (Err (Utf8Error s (s + n) u)) v v
  unfolding text_of ways
  text_refused h = rw front (seen_is (sym (ap ways (ne_eqb _ n (λ i. h (front ∙ i))))) (seen_refuse done _ v))

  pub text_valid : (r : Result (Unit {0}) InvalidFlatbuffer) (t : Bool) → u ≡ n → t ≡ (v.opts.ignore_missing_null_terminator || zero_at (bytes v) (s + n)) →
      r ≡ cond t (Ok tt) (Err (MissingNullTerminator s (s + n))) → Seen (text_of s n (bytes v)) done r v v
  unfolding text_of ways terminated
  text_valid r t h i e = seen_is (sym (ap ways (eq-eqb _ n (sym front ∙ h))))
      (seen_unless (terminated s n) (MissingNullTerminator s (s + n)) t r v v (ap (λ z. unless z (MissingNullTerminator s (s + n))) (sym i)) e refl refl refl (kept_same v))
