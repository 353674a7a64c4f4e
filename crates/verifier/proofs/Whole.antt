-- A whole verification, from a verifier that begins.
use Rattle.std.proofs.Common.{◌≡◌, ℕ, ◌^◌, ◌<◌, List, length, Result, refl, ap, ◌∙◌}
use Rattle.std.specs.Borrow.{MutBor}
use Rattle.reading.specs.declared.invalid.InvalidFlatbuffer.{InvalidFlatbuffer}
use Rattle.reading.specs.declared.invalid.TraceRecord.{TraceRecord}
use Rattle.reading.specs.declared.options.Counters.{Counters}
use Rattle.reading.specs.declared.options.VerifierOptions.{VerifierOptions}
use Rattle.reading.specs.Outcomes.{answer, counted, trace_of, written}
use Rattle.reading.specs.Reading.{reading, unmet}
use Rattle.reading.specs.Shape.{Shape}
use Rattle.reading.proofs.Law.{accepted_at}
use Rattle.verifier.specs.declared.verifier.Verifier.{Verifier}
use Rattle.verifier.specs.Told.{Begun, Told, Verified, done, run}

module _ (s : Shape) (p : ℕ) (b : List ℕ) (o : VerifierOptions) (h : length b < 2 ^ 63) where
  pub whole : (r : Result (Unit {0}) InvalidFlatbuffer) (c : Counters) (n : ℕ) (t : MutBor (List TraceRecord)) (t' : List TraceRecord) (v v' : Verifier) → Begun b o t v → Told (reading s p) done r v v' → c ≡ v'.counters → n ≡ v'.traced → t' ≡ v'.trace.now →
      Verified s p b o (record { result = r; counters = c; traced = n }) t.now t'
  whole r c n t t' v v' g k i j l =
      let q : run (reading s p) v ≡ reading s p b o unmet = rw (g.buffer, g.opts, g.counters) refl in
      let ds : List TraceRecord = trace_of (reading s p b o unmet).outcome in
      let e : r ≡ answer (reading s p b o unmet).outcome tt = k.result ∙ ap (λ z. answer z.outcome tt) q in
      record {
        result = e;
        counters = i ∙ k.counters ∙ ap (λ z. z.counters) q;
        traced = j ∙ k.traced ∙ ap (λ z. counted (trace_of z.outcome) v.traced) q ∙ ap (counted ds) g.traced;
        trace = l ∙ k.trace ∙ ap (λ z. written (trace_of z.outcome) v.trace.now v.traced) q ∙ ap (written ds v.trace.now) g.traced ∙ ap (λ z. written ds z 0) g.trace;
        inside = accepted_at s p b o unmet r h e;
      }
