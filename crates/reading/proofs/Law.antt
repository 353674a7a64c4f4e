-- The law of every shape: where its reading accepts, the ranges read lie inside the input.
use Rattle.std.proofs.Common.{◌≡◌, ℕ, ◌^◌, ◌<◌, Bool, true, false, cond, List, [], ◌∷◌, ◌++◌, length, IfOk, Result, sym, refl, ap, ◌∙◌, subst}
use Rattle.reading.specs.Outcomes.{answer}
use Rattle.reading.specs.declared.options.Counters.{Counters}
use Rattle.reading.specs.declared.options.VerifierOptions.{VerifierOptions}
use Rattle.reading.specs.declared.invalid.InvalidFlatbuffer.{InvalidFlatbuffer}
use Rattle.reading.specs.declared.invalid.InvalidFlatbuffer.TheVariants.{RangeOutOfBounds}
use Rattle.reading.specs.Shape.{Shape, offset}
use Rattle.reading.specs.Input.{saturated}
use Rattle.reading.specs.Reading.{Outcome, accepted, refused, Range, Walk, given, within, refuse, ranged, spend, count_table, descend, ascend, terminated, root, size_prefixed_root, reading}
use Rattle.reading.specs.Law.{Inside, EveryShapeLiesInside}
use Rattle.reading.proofs.Walks.{then_accepted, both_accept, risen_accepted, ranged_fits, reach}
use Rattle.reading.proofs.Steps.{Steps, every_reading}

inside_append : (b : List ℕ) (rs qs : List Range) → Inside b rs → Inside b qs → Inside b (rs ++ qs)
inside_append b [] qs h k = k
inside_append b (r ∷ rs) qs h k = (h.0, inside_append b rs qs h.1 k)

abbrev Sound : List ℕ → Walk → Type 0
Sound b w = (o : VerifierOptions) (c : Counters) → (w b o c).outcome ≡ accepted → Inside b (w b o c).ranges

spend_nothing : (b : List ℕ) (n : ℕ) (o : VerifierOptions) (c : Counters) (t : Bool) (f : InvalidFlatbuffer) → ((cond t (spend n) (refuse f)) b o c).ranges ≡ []
unfolding spend
spend_nothing b n o c true f = refl
spend_nothing b n o c false f = refl

module _ (b : List ℕ) (short : length b < 2 ^ 63) where
  sound : Steps b (Sound b)
  unfolding given within ranged count_table descend ascend terminated
  sound = record {
    accepts = λ o c e. tt;
    refuses = λ f o c e. tt;
    follows = λ w w' h k o c e.
        let i = both_accept w w' b o c e in
        subst (λ z. Inside b z.ranges) (sym (then_accepted w w' b o c i.0))
        (inside_append b (w b o c).ranges (w' b o (w b o c).counters).ranges (h o c i.0) (k o (w b o c).counters i.1));
    reads = λ f h. h;
    nests = λ d w h o c e. h o c (risen_accepted d (w b o c).outcome e);
    ranges = λ p n o c e.
        (reach p n (length b) short (ranged_fits p n b o c e), subst (Inside b) (sym (spend_nothing b n o c _ (RangeOutOfBounds p (saturated p n)))) tt);
    counts = λ o c e. tt;
    descends = λ o c e. tt;
    ascends = λ o c e. tt;
    ends = λ s n o c e. tt;
  }

pub every_shape_lies_inside : EveryShapeLiesInside
every_shape_lies_inside s b o p c h e = every_reading b (Sound b) (sound b h) s p o c e

-- What an accepted reading says.
pub accepted_at : (s : Shape) (p : ℕ) (b : List ℕ) (o : VerifierOptions) (c : Counters) (r : Result (Unit {0}) InvalidFlatbuffer) → length b < 2 ^ 63 →
    r ≡ answer (reading s p b o c).outcome tt → IfOk r (λ _. Inside b (reading s p b o c).ranges)
accepted_at s p b o c r h e = go (reading s p b o c).outcome refl
  where
    go : (out : Outcome) → (reading s p b o c).outcome ≡ out → IfOk r (λ _. Inside b (reading s p b o c).ranges)
    go accepted i = rw (e ∙ ap (λ z. answer z tt) i) (every_shape_lies_inside s b o p c h i)
    go (refused f t) i = rw (e ∙ ap (λ z. answer z tt) i) tt

pub accepted_root : (s : Shape) (b : List ℕ) (o : VerifierOptions) (r : Result (Unit {0}) InvalidFlatbuffer) → length b < 2 ^ 63 →
    r ≡ answer (root s b o).outcome tt → IfOk r (λ _. Inside b (root s b o).ranges)
unfolding root
accepted_root s b o r h e = accepted_at (offset s) 0 b o _ r h e

pub accepted_prefixed : (s : Shape) (b : List ℕ) (o : VerifierOptions) (r : Result (Unit {0}) InvalidFlatbuffer) → length b < 2 ^ 63 →
    r ≡ answer (size_prefixed_root s b o).outcome tt → IfOk r (λ _. Inside b (size_prefixed_root s b o).ranges)
unfolding size_prefixed_root
accepted_prefixed s b o r h e = accepted_at (offset s) 4 b o _ r h e
