-- How one walk follows another.
use Rattle.std.proofs.Common.{◌≡◌, ℕ, ◌+◌, ◌^◌, ◌<◌, ◌≤◌, Bool, true, false, cond, leb, List, [], ◌∷◌, ◌++◌, length, refl, ap, arith}
use Rattle.std.proofs.lemmas.Bool.{leb-true}
use Rattle.reading.specs.declared.options.Counters.{Counters}
use Rattle.reading.specs.declared.options.VerifierOptions.{VerifierOptions}
use Rattle.reading.specs.declared.invalid.TraceRecord.{TraceRecord}
use Rattle.reading.specs.declared.invalid.InvalidFlatbuffer.{InvalidFlatbuffer}
use Rattle.reading.specs.declared.invalid.InvalidFlatbuffer.TheVariants.{RangeOutOfBounds}
use Rattle.reading.specs.Input.{saturated}
use Rattle.reading.specs.Reading.{Outcome, accepted, refused, Walk, then, after, continue, limit, refuse, ranged, risen, spend}

module _ (w w' : Walk) (b : List ℕ) (o : VerifierOptions) (c : Counters) where
  pub then_accepted : (w b o c).outcome ≡ accepted → then w w' b o c ≡ after (w b o c).ranges (w' b o (w b o c).counters)
  unfolding then
  then_accepted e = ap (λ out. continue out (w b o c) (w' b o)) e

  pub then_refused : (f : InvalidFlatbuffer) (t : List TraceRecord) → (w b o c).outcome ≡ refused f t → then w w' b o c ≡ w b o c
  unfolding then
  then_refused f t e = ap (λ out. continue out (w b o c) (w' b o)) e

  -- the first of two accepts, and then the second
  pub both_accept : (then w w' b o c).outcome ≡ accepted → ((w b o c).outcome ≡ accepted) × ((w' b o (w b o c).counters).outcome ≡ accepted)
  unfolding then
  both_accept e = go (w b o c).outcome refl e
    where
      go : (out : Outcome) → (w b o c).outcome ≡ out → (continue out (w b o c) (w' b o)).outcome ≡ accepted
          → ((w b o c).outcome ≡ accepted) × ((w' b o (w b o c).counters).outcome ≡ accepted)
      go accepted i k = (i, k)
      go (refused f t) i k = absurd cc

pub risen_accepted : (d : TraceRecord) (out : Outcome) → risen d out ≡ accepted → out ≡ accepted
risen_accepted d accepted e = refl
risen_accepted d (refused f t) e = go (limit f) e
  where
    go : (x : Bool) → cond x (refused f t) (refused f (t ++ (d ∷ []))) ≡ accepted → refused f t ≡ accepted
    go true i = i
    go false i = absurd cc

pub ranged_fits : (p n : ℕ) (b : List ℕ) (o : VerifierOptions) (c : Counters) → (ranged p n b o c).outcome ≡ accepted → saturated p n ≤ length b
unfolding ranged
ranged_fits p n b o c e = go (leb (saturated p n) (length b)) refl e
  where
    g : Bool → Walk
    g t = cond t (spend n) (refuse (RangeOutOfBounds p (saturated p n)))

    go : (t : Bool) → leb (saturated p n) (length b) ≡ t → (g (leb (saturated p n) (length b)) b o c).outcome ≡ accepted → saturated p n ≤ length b
    go true i k = leb-true (saturated p n) (length b) i
    go false i k = absurd cc

pub reach : (p n l : ℕ) → l < 2 ^ 63 → saturated p n ≤ l → p + n ≤ l
unfolding saturated
reach p n l h k = grind arith
