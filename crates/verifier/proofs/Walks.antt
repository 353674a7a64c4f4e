-- How the walks of calls in a row join.
use Rattle.std.proofs.Common.{◌≡◌, ℕ, ◌<◌, ◌≤◌, Bool, true, false, cond, List, [], ◌∷◌, ◌++◌, length, set, IsErrAnd, Ok, Err, Result, sym, refl, ap, ◌∙◌, subst, append-nil}
use Rattle.reading.specs.declared.invalid.TraceRecord.{TraceRecord}
use Rattle.reading.specs.declared.invalid.InvalidFlatbuffer.{InvalidFlatbuffer}
use Rattle.verifier.specs.declared.verifier.Verifier.{Verifier}
use Rattle.reading.specs.declared.options.Counters.{Counters}
use Rattle.reading.specs.Reading.{Outcome, accepted, refused, Walk, after, then, given, accept, refuse, within, risen, limit, unless, ranged, spend}
use Rattle.reading.specs.Input.{saturated}
use Rattle.reading.specs.declared.invalid.InvalidFlatbuffer.TheVariants.{RangeOutOfBounds}
use Rattle.std.proofs.lemmas.Result.{err_from_is_err_and}
use Rattle.std.proofs.lemmas.Bool.{le-leb, lt-leb}
use Rattle.reading.specs.Outcomes.{answer, counted, layer, trace_of, written}
use Rattle.reading.proofs.Walks.{then_accepted, then_refused}
use Rattle.verifier.specs.Told.{bytes, Kept, run, Seen, Told, Wrote, done}

pub kept_same : (v : Verifier) → Kept v v
kept_same v = record { buffer = refl; opts = refl; lent = refl }

kept_on : {u v w : Verifier} → Kept u v → Kept v w → Kept u w
kept_on h k = record { buffer = k.buffer ∙ h.buffer; opts = k.opts ∙ h.opts; lent = k.lent ∙ h.lent }

answer_ok : {X : Type 0} (out : Outcome) (x y : X) → Ok y ≡ answer out x → (out ≡ accepted) × (y ≡ x)
answer_ok accepted x y e = (refl, cc)
answer_ok (refused f t) x y e = absurd cc

answer_err : {X : Type 0} (out : Outcome) (x : X) (f : InvalidFlatbuffer) → Err f ≡ answer out x → out ≡ refused f (trace_of out)
answer_err accepted x f e = absurd cc
answer_err (refused g t) x f e = cc

-- What a quiet call tells, and back.
pub seen_told : {X : Type 0} {w : Walk} {x : List ℕ → X} {r : Result X InvalidFlatbuffer} {v v' : Verifier} → Seen w x r v v' → Told w x r v v'
unfolding written counted
seen_told {v = v} h = record {
  result = h.result;
  counters = h.counters;
  trace = h.trace ∙ sym (ap (λ ds. written ds v.trace.now v.traced) h.quiet);
  traced = h.traced ∙ sym (ap (λ ds. counted ds v.traced) h.quiet);
  kept = h.kept;
}

told_seen : {X : Type 0} {w : Walk} {x : List ℕ → X} {r : Result X InvalidFlatbuffer} {v v' : Verifier} → trace_of (run w v).outcome ≡ [] → Told w x r v v' → Seen w x r v v'
unfolding written counted
told_seen {v = v} q h = record {
  result = h.result;
  counters = h.counters;
  trace = h.trace ∙ ap (λ ds. written ds v.trace.now v.traced) q;
  traced = h.traced ∙ ap (λ ds. counted ds v.traced) q;
  quiet = q;
  kept = h.kept;
}

-- What a call answered that was not refused.
pub told_value : {X : Type 0} {w : Walk} {x : List ℕ → X} {a : X} {u v : Verifier} → Told w x (Ok a) u v → a ≡ x (bytes u)
told_value {w = w} {x = x} {a = a} {u = u} h = (answer_ok (run w u).outcome (x (bytes u)) a h.result).1

pub told_got : {X : Type 0} {w : Walk} {x : List ℕ → X} {a : X} {u v : Verifier} → Told w x (Ok a) u v → a ≡ x (bytes v)
told_got {x = x} h = told_value h ∙ sym (ap x h.kept.buffer)

pub seen_value : {X : Type 0} {w : Walk} {x : List ℕ → X} {a : X} {u v : Verifier} → Seen w x (Ok a) u v → a ≡ x (bytes u)
seen_value h = told_value (seen_told h)

pub seen_got : {X : Type 0} {w : Walk} {x : List ℕ → X} {a : X} {u v : Verifier} → Seen w x (Ok a) u v → a ≡ x (bytes v)
seen_got h = told_got (seen_told h)

-- The way on from a `?`.
then_run : {X : Type 0} {w : Walk} {x : List ℕ → X} {a : X} {u v : Verifier} (w' : Walk) → Told w x (Ok a) u v → run (then w w') u ≡ after (run w u).ranges (run w' v)
then_run {w = w} {x = x} {a = a} {u = u} {v = v} w' h =
    let s : run w' v ≡ w' (bytes u) u.opts (run w u).counters = rw (h.kept.buffer, h.kept.opts, h.counters) refl in
    then_accepted w w' (bytes u) u.opts u.counters (answer_ok (run w u).outcome (x (bytes u)) a h.result).0 ∙ sym (ap (after (run w u).ranges) s)

pub told_then : {X Y : Type 0} {w w' : Walk} {x : List ℕ → X} {y : List ℕ → Y} {a : X} {r : Result Y InvalidFlatbuffer} {u v v' : Verifier} →
    Told w x (Ok a) u v → Told w' y r v v' → Told (then w w') y r u v'
unfolding written counted
told_then {w = w} {w' = w'} {x = x} {y = y} {a = a} {u = u} {v = v} h k =
    let e = (answer_ok (run w u).outcome (x (bytes u)) a h.result).0 in
    let q = then_run w' h in
    let ds : List TraceRecord = trace_of (run w' v).outcome in
    let m : v.trace.now ≡ u.trace.now = h.trace ∙ ap (λ o. written (trace_of o) u.trace.now u.traced) e in
    let n : v.traced ≡ u.traced = h.traced ∙ ap (λ o. counted (trace_of o) u.traced) e in
    record {
      result = k.result ∙ ap (λ b. answer (run w' v).outcome (y b)) h.kept.buffer ∙ sym (ap (λ z. answer z.outcome (y (bytes u))) q);
      counters = k.counters ∙ sym (ap (λ z. z.counters) q);
      trace = k.trace ∙ ap (λ z. written ds z v.traced) m ∙ ap (written ds u.trace.now) n ∙ sym (ap (λ z. written (trace_of z.outcome) u.trace.now u.traced) q);
      traced = k.traced ∙ ap (counted ds) n ∙ sym (ap (λ z. counted (trace_of z.outcome) u.traced) q);
      kept = kept_on h.kept k.kept;
    }

pub seen_then : {X Y : Type 0} {w w' : Walk} {x : List ℕ → X} {y : List ℕ → Y} {a : X} {r : Result Y InvalidFlatbuffer} {u v v' : Verifier} →
    Seen w x (Ok a) u v → Seen w' y r v v' → Seen (then w w') y r u v'
seen_then {w' = w'} h k =
    let q = then_run w' (seen_told h) in
    told_seen (ap (λ z. trace_of z.outcome) q ∙ k.quiet) (told_then (seen_told h) (seen_told k))

-- The exit of a `?`.
module _ {X Y : Type 0} {w : Walk} {x : List ℕ → X} {f : InvalidFlatbuffer} {v v' : Verifier} (w' : Walk) (y : List ℕ → Y) (r : Result Y InvalidFlatbuffer) where
  exit_run : Told w x (Err f) v v' → run (then w w') v ≡ run w v
  exit_run h = then_refused w w' (bytes v) v.opts v.counters f (trace_of (run w v).outcome) (answer_err (run w v).outcome (x (bytes v)) f h.result)

  pub told_exit : IsErrAnd r (λ g. g ≡ f) → Told w x (Err f) v v' → Told (then w w') y r v v'
  told_exit e h =
      let p = err_from_is_err_and r e in
      let i = answer_err (run w v).outcome (x (bytes v)) f h.result in
      let q = exit_run h in
      rw (p.1, p.2)
      (record {
        result = sym (ap (λ o. answer o (y (bytes v))) (ap (λ z. z.outcome) q ∙ i));
        counters = h.counters ∙ sym (ap (λ z. z.counters) q);
        trace = h.trace ∙ sym (ap (λ z. written (trace_of z.outcome) v.trace.now v.traced) q);
        traced = h.traced ∙ sym (ap (λ z. counted (trace_of z.outcome) v.traced) q);
        kept = h.kept;
      })

  pub seen_exit : IsErrAnd r (λ g. g ≡ f) → Seen w x (Err f) v v' → Seen (then w w') y r v v'
  seen_exit e h = told_seen (ap (λ z. trace_of z.outcome) (exit_run (seen_told h)) ∙ h.quiet) (told_exit e (seen_told h))

-- The exit of a `?` after which nothing more is walked.
pub seen_err : {X Y : Type 0} {w : Walk} {x : List ℕ → X} {f : InvalidFlatbuffer} {v v' : Verifier} (y : List ℕ → Y) (r : Result Y InvalidFlatbuffer) →
    IsErrAnd r (λ g. g ≡ f) → Seen w x (Err f) v v' → Seen w y r v v'
seen_err {w = w} {x = x} {f = f} {v = v} y r e h =
    let p = err_from_is_err_and r e in
    let q = answer_err (run w v).outcome (x (bytes v)) f h.result in
    rw (p.1, p.2) (record { result = sym (ap (λ o. answer o (y (bytes v))) q); counters = h.counters; trace = h.trace; traced = h.traced; quiet = h.quiet; kept = h.kept })

-- The same walk with another answer.
pub seen_answer : {X Y : Type 0} {w : Walk} {x : List ℕ → X} {a : X} {u v : Verifier} (y : List ℕ → Y) (z : Y) → z ≡ y (bytes v) →
    Seen w x (Ok a) u v → Seen w y (Ok z) u v
seen_answer {w = w} {x = x} {a = a} {u = u} y z e h =
    let q = (answer_ok (run w u).outcome (x (bytes u)) a h.result).0 in
    record {
      result = ap Ok (e ∙ ap y h.kept.buffer) ∙ sym (ap (λ o. answer o (y (bytes u))) q);
      counters = h.counters;
      trace = h.trace;
      traced = h.traced;
      quiet = h.quiet;
      kept = h.kept;
    }

pub told_result : {X : Type 0} {w : Walk} {x : List ℕ → X} {r r' : Result X InvalidFlatbuffer} {v v' : Verifier} → r' ≡ r → Told w x r v v' → Told w x r' v v'
told_result e h = record { result = e ∙ h.result; counters = h.counters; trace = h.trace; traced = h.traced; kept = h.kept }

-- The same walk, named otherwise.
pub seen_is : {X : Type 0} {w w' : Walk} {x : List ℕ → X} {r : Result X InvalidFlatbuffer} {v v' : Verifier} → w ≡ w' → Seen w x r v v' → Seen w' x r v v'
seen_is {x = x} {r = r} {v = v} {v' = v'} e h = subst (λ z. Seen z x r v v') e h

pub told_is : {X : Type 0} {w w' : Walk} {x : List ℕ → X} {r : Result X InvalidFlatbuffer} {v v' : Verifier} → w ≡ w' → Told w x r v v' → Told w' x r v v'
told_is {x = x} {r = r} {v = v} {v' = v'} e h = subst (λ z. Told z x r v v') e h

pub told_given : {X : Type 0} (f : List ℕ → Walk) {x : List ℕ → X} {r : Result X InvalidFlatbuffer} {v v' : Verifier} → Told (f (bytes v)) x r v v' → Told (given f) x r v v'
unfolding given
told_given f h = record { result = h.result; counters = h.counters; trace = h.trace; traced = h.traced; kept = h.kept }

pub seen_given : {X : Type 0} (f : List ℕ → Walk) {x : List ℕ → X} {r : Result X InvalidFlatbuffer} {v v' : Verifier} → Seen (f (bytes v)) x r v v' → Seen (given f) x r v v'
unfolding given
seen_given f h = told_seen h.quiet (told_given f (seen_told h))

pub seen_accept : {X : Type 0} (x : List ℕ → X) (v : Verifier) → Seen accept x (Ok (x (bytes v))) v v
seen_accept x v = record { result = refl; counters = refl; trace = refl; traced = refl; quiet = refl; kept = kept_same v }

pub seen_refuse : {X : Type 0} (x : List ℕ → X) (f : InvalidFlatbuffer) (v : Verifier) → Seen (refuse f) x (Err f) v v
seen_refuse x f v = record { result = refl; counters = refl; trace = refl; traced = refl; quiet = refl; kept = kept_same v }

-- A test passes, or this fault comes of it.
pub seen_unless : (w : Walk) (f : InvalidFlatbuffer) (k : Bool) (r : Result (Unit {0}) InvalidFlatbuffer) (v v' : Verifier) →
    (run w v).outcome ≡ unless k f → r ≡ cond k (Ok tt) (Err f) → v'.counters ≡ (run w v).counters → v'.trace.now ≡ v.trace.now → v'.traced ≡ v.traced → Kept v v' → Seen w done r v v'
seen_unless w f true r v v' o e c t n k = record { result = e ∙ sym (ap (λ z. answer z tt) o); counters = c; trace = t; traced = n; quiet = ap trace_of o; kept = k }
seen_unless w f false r v v' o e c t n k = record { result = e ∙ sym (ap (λ z. answer z tt) o); counters = c; trace = t; traced = n; quiet = ap trace_of o; kept = k }

-- The same where nothing but a counter turns.
abbrev pub counting : Verifier → Counters → Verifier
counting v c = record { buffer = v.buffer; opts = v.opts; counters = c; trace = v.trace; traced = v.traced }

pub seen_counted : (w : Walk) (f : InvalidFlatbuffer) (k : Bool) {r : Result (Unit {0}) InvalidFlatbuffer} {c : Counters} (v : Verifier) →
    (run w v).outcome ≡ unless k f → r ≡ cond k (Ok tt) (Err f) → c ≡ (run w v).counters → Seen w done r v (counting v c)
seen_counted w f k {r = r} {c = c} v o e i = seen_unless w f k r v (counting v c) o e i refl refl (record { buffer = refl; opts = refl; lent = refl })

-- A range that lies inside, and one that does not.
pub ranged_in : (p n : ℕ) (v : Verifier) → saturated p n ≤ length (bytes v) →
    ((run (ranged p n) v).outcome ≡ (run (spend n) v).outcome) × ((run (ranged p n) v).counters ≡ (run (spend n) v).counters)
unfolding ranged
ranged_in p n v h = let e = le-leb (saturated p n) (length (bytes v)) h in (
  ap (λ t. ((cond t (spend n) (refuse (RangeOutOfBounds p (saturated p n)))) (bytes v) v.opts v.counters).outcome) e,
  ap (λ t. ((cond t (spend n) (refuse (RangeOutOfBounds p (saturated p n)))) (bytes v) v.opts v.counters).counters) e,
)

pub seen_out : (p n : ℕ) (v : Verifier) → length (bytes v) < saturated p n → Seen (ranged p n) done (Err (RangeOutOfBounds p (saturated p n))) v v
unfolding ranged
seen_out p n v h = let e = lt-leb (saturated p n) (length (bytes v)) h in
    let g : Bool → Walk = λ t. cond t (spend n) (refuse (RangeOutOfBounds p (saturated p n))) in
    seen_unless (ranged p n) (RangeOutOfBounds p (saturated p n)) false _ v v
    (ap (λ t. (g t (bytes v) v.opts v.counters).outcome) e) refl
    (sym (ap (λ t. (g t (bytes v) v.opts v.counters).counters) e)) refl refl (kept_same v)

counted_more : (ds es : List TraceRecord) (n : ℕ) → counted (ds ++ es) n ≡ counted es (counted ds n)
unfolding counted
counted_more [] es n = refl
counted_more (d ∷ ds) es n = counted_more ds es (saturated n 1)

written_more : (ds es : List TraceRecord) (t : List TraceRecord) (n : ℕ) → written (ds ++ es) t n ≡ written es (written ds t n) (counted ds n)
unfolding written counted
written_more [] es t n = refl
written_more (d ∷ ds) es t n = written_more ds es (set t n d) (saturated n 1)

trace_risen : {X : Type 0} (d : TraceRecord) (out : Outcome) (x : X) → trace_of (risen d out) ≡ trace_of out ++ layer (answer out x) d
trace_risen d accepted x = refl
trace_risen d (refused f t) x = go (limit f)
  where
    go : (b : Bool) → trace_of (cond b (refused f t) (refused f (t ++ (d ∷ [])))) ≡ t ++ cond b [] (d ∷ [])
    go true = sym (append-nil t)
    go false = refl

answer_risen : {X : Type 0} (d : TraceRecord) (out : Outcome) (x : X) → answer (risen d out) x ≡ answer out x
answer_risen d accepted x = refl
answer_risen d (refused f t) x = go (limit f)
  where
    go : (b : Bool) → answer (cond b (refused f t) (refused f (t ++ (d ∷ [])))) x ≡ Err f
    go true = refl
    go false = refl

-- A fault rises through one layer.
pub told_within : {X : Type 0} {w : Walk} {x : List ℕ → X} {r : Result X InvalidFlatbuffer} {u v v' : Verifier} (d : TraceRecord) →
    Told w x r u v → Wrote (layer r d) v v' → Told (within d w) x r u v'
unfolding within
told_within {w = w} {x = x} {r = r} {u = u} {v = v} d h k =
    let out : Outcome = (run w u).outcome in
    let ds : List TraceRecord = layer r d in
    let g : trace_of (risen d out) ≡ trace_of out ++ ds = trace_risen d out (x (bytes u)) ∙ sym (ap (λ z. trace_of out ++ layer z d) h.result) in
    record {
      result = h.result ∙ sym (answer_risen d out (x (bytes u)));
      counters = k.counters ∙ h.counters;
      trace = k.trace ∙ ap (λ z. written ds z v.traced) h.trace ∙ ap (written ds (written (trace_of out) u.trace.now u.traced)) h.traced ∙ sym (written_more (trace_of out) ds u.trace.now u.traced) ∙ sym (ap (λ z. written z u.trace.now u.traced) g);
      traced = k.traced ∙ ap (counted ds) h.traced ∙ sym (counted_more (trace_of out) ds u.traced) ∙ sym (ap (λ z. counted z u.traced) g);
      kept = kept_on h.kept k.kept;
    }

-- A layer that is not recorded, and one that is.
pub wrote_nothing : (ds : List TraceRecord) (v : Verifier) → ds ≡ [] → Wrote ds v v
unfolding written counted
wrote_nothing ds v e = rw e (record { counters = refl; trace = refl; traced = refl; kept = kept_same v })

pub wrote_layer : {X : Type 0} (r : Result X InvalidFlatbuffer) (f : InvalidFlatbuffer) (d : TraceRecord) (v v' : Verifier) → r ≡ Err f → limit f ≡ false →
    v'.counters ≡ v.counters → v'.trace.now ≡ set v.trace.now v.traced d → v'.traced ≡ saturated v.traced 1 → Kept v v' → Wrote (layer r d) v v'
unfolding written counted
wrote_layer r f d v v' e i c t n k =
    let l : layer r d ≡ d ∷ [] = ap (λ z. layer z d) e ∙ ap (λ z. cond z [] (d ∷ [])) i in
    rw l (record { counters = c; trace = t; traced = n; kept = k })
