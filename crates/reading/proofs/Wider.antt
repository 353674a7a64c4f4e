-- Wider limits read the same.
use Rattle.std.proofs.Common.{◌≡◌, ℕ, ◌+◌, ◌≤◌, Bool, true, false, cond, ◌||◌, ltb, leb, List, [], ◌∷◌, ◌++◌, length, sym, refl, ap, ◌∙◌, arith}
use Rattle.std.proofs.lemmas.Bool.{leb-true, le-leb}
use Rattle.reading.specs.declared.options.Counters.{Counters}
use Rattle.reading.specs.declared.options.VerifierOptions.{VerifierOptions}
use Rattle.reading.specs.declared.invalid.TraceRecord.{TraceRecord}
use Rattle.reading.specs.declared.invalid.InvalidFlatbuffer.{InvalidFlatbuffer}
use Rattle.reading.specs.declared.invalid.InvalidFlatbuffer.TheVariants.{RangeOutOfBounds, ApparentSizeTooLarge, TooManyTables, DepthLimitReached, MissingNullTerminator}
use Rattle.reading.specs.Input.{saturated}
use Rattle.reading.specs.Reading.{Outcome, accepted, refused, Reading, Walk, then, given, within, risen, limit, after, refuse, keeps, raised, unless, halted, with_size, with_tables, with_depth, zero_at, ranged, spend, count_table, descend, ascend, terminated}
use Rattle.reading.specs.Wider.{Wider, stopped, WiderLimitsReadTheSame}
use Rattle.reading.proofs.Walks.{then_accepted, then_refused}
use Rattle.reading.proofs.Steps.{Steps, every_reading}

-- the limits change nothing where the narrower ones stop nothing
abbrev Widens : List ℕ → Walk → Type 0
Widens b w = (o o' : VerifierOptions) (c : Counters) → Wider o o' → stopped (w b o c).outcome ≡ false → w b o' c ≡ w b o c

-- a counter that keeps to its limit keeps to a larger one
keeps_wider : (n by most more : ℕ) → most ≤ more → keeps n by most ≡ true → keeps n by more ≡ true
keeps_wider n by most more l e = go (ltb (n + by) 18446744073709551616) e
  where
    go : (x : Bool) → cond x (leb (n + by) most) false ≡ true → cond x (leb (n + by) more) false ≡ true
    go true k = let h = leb-true (n + by) most k in le-leb (n + by) more (omega arith)
    go false k = k

-- a counter that stops nothing by its limit does as much by a larger one
keeps_widens : (n by most more : ℕ) (f : InvalidFlatbuffer) → limit f ≡ true → most ≤ more → stopped (unless (keeps n by most) f) ≡ false
    → unless (keeps n by more) f ≡ unless (keeps n by most) f
keeps_widens n by most more f i l e = go (keeps n by most) (keeps n by more) (keeps_wider n by most more l) e
  where
    go : (x y : Bool) → (x ≡ true → y ≡ true) → stopped (unless x f) ≡ false → unless y f ≡ unless x f
    go true y k q = ap (λ (z : Bool). unless z f) (k refl)
    go false y k q = absurd cc

module _ (b : List ℕ) where
  widens_then : (w w' : Walk) → Widens b w → Widens b w' → Widens b (then w w')
  widens_then w w' h k o o' c l e = go (w b o c).outcome refl
    where
      go : (out : Outcome) → (w b o c).outcome ≡ out → then w w' b o' c ≡ then w w' b o c
      go accepted i =
          let q = then_accepted w w' b o c i in
          let s = h o o' c l (ap stopped i) in
          let i' = ap (λ (z : Reading). z.outcome) s ∙ i in
          let q' = then_accepted w w' b o' c i' in
          let t = k o o' (w b o c).counters l (ap (λ (z : Reading). stopped z.outcome) (sym q) ∙ e) in
          q' ∙ (ap (λ (z : Reading). after z.ranges (w' b o' z.counters)) s ∙ (ap (λ (z : Reading). after (w b o c).ranges z) t ∙ sym q))
      go (refused f t) i =
          let q = then_refused w w' b o c f t i in
          let s = h o o' c l (ap (λ (z : Reading). stopped z.outcome) (sym q) ∙ e) in
          let i' = ap (λ (z : Reading). z.outcome) s ∙ i in
          then_refused w w' b o' c f t i' ∙ (s ∙ sym q)

  stopped_risen : (d : TraceRecord) (out : Outcome) → stopped (risen d out) ≡ stopped out
  stopped_risen d accepted = refl
  stopped_risen d (refused f t) = go (limit f)
    where
      go : (x : Bool) → stopped (cond x (refused f t) (refused f (t ++ (d ∷ [])))) ≡ limit f
      go true = refl
      go false = refl

  widens_within : (d : TraceRecord) (w : Walk) → Widens b w → Widens b (within d w)
  unfolding within
  widens_within d w h o o' c l e =
      ap (λ (z : Reading). record { ranges = z.ranges; outcome = risen d z.outcome; counters = z.counters })
      (h o o' c l (sym (stopped_risen d (w b o c).outcome) ∙ e))

  widens_spend : (n : ℕ) → Widens b (spend n)
  unfolding spend
  widens_spend n o o' c l e =
      ap (λ (z : Outcome). halted z (with_size c (raised c.apparent_size n)))
      (keeps_widens c.apparent_size n o.max_apparent_size o'.max_apparent_size ApparentSizeTooLarge refl l.size e)

  widens_tables : Widens b count_table
  unfolding count_table
  widens_tables o o' c l e =
      ap (λ (z : Outcome). halted z (with_tables c (raised c.num_tables 1)))
      (keeps_widens c.num_tables 1 o.max_tables o'.max_tables TooManyTables refl l.tables e)

  widens_descend : Widens b descend
  unfolding descend
  widens_descend o o' c l e =
      ap (λ (z : Outcome). halted z (with_depth c (raised c.depth 1)))
      (keeps_widens c.depth 1 o.max_depth o'.max_depth DepthLimitReached refl l.depth e)

  widens_terminated : (s n : ℕ) → Widens b (terminated s n)
  unfolding terminated
  widens_terminated s n o o' c l e =
      ap (λ (x : Bool). halted (unless (x || zero_at b (s + n)) (MissingNullTerminator s (s + n))) c) l.switch

  widens_ranged : (p n : ℕ) → Widens b (ranged p n)
  unfolding ranged
  widens_ranged p n o o' c l e = go (leb (saturated p n) (length b)) e
    where
      go : (t : Bool) → stopped (cond t (spend n) (refuse (RangeOutOfBounds p (saturated p n))) b o c).outcome ≡ false
          → after (record { start = p; size = n } ∷ []) (cond t (spend n) (refuse (RangeOutOfBounds p (saturated p n))) b o' c)
          ≡ after (record { start = p; size = n } ∷ []) (cond t (spend n) (refuse (RangeOutOfBounds p (saturated p n))) b o c)
      go true i = ap (after (record { start = p; size = n } ∷ [])) (widens_spend n o o' c l i)
      go false i = refl

  widens : Steps b (Widens b)
  unfolding given ascend
  widens = record {
    accepts = λ o o' c l e. refl;
    refuses = λ f o o' c l e. refl;
    follows = widens_then;
    reads = λ f h. h;
    nests = widens_within;
    ranges = widens_ranged;
    counts = widens_tables;
    descends = widens_descend;
    ascends = λ o o' c l e. refl;
    ends = widens_terminated;
  }

pub wider_limits_read_the_same : WiderLimitsReadTheSame
wider_limits_read_the_same s b p o o' c l e = every_reading b (Widens b) (widens b) s p o o' c l e
