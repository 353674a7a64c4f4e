-- A table's fields, one call after the other: what its whole reading tells once the calls that are left tell theirs.
use Rattle.std.proofs.Common.{◌≡◌, ℕ, Bool, List, IsErrAnd, Ok, Err, Result, sym, refl, ap, ◌∙◌}
use Rattle.reading.specs.declared.invalid.InvalidFlatbuffer.{InvalidFlatbuffer}
use Rattle.reading.specs.Outcomes.{answer, counted, trace_of, written}
use Rattle.reading.specs.Reading.{Walk, ascend, fields, given, reading, slot_at, slot_read, then, variants, visit_field, visit_field_of, visit_table, visit_union, visit_union_of}
use Rattle.reading.specs.Shape.{Fields, Shape, Variants, end, field, table, union}
use Rattle.verifier.specs.declared.verifier.TableVerifier.{TableVerifier}
use Rattle.verifier.specs.declared.verifier.Verifier.{Verifier}
use Rattle.verifier.specs.Told.{Seen, Told, bytes, done, field_visit, run, table_of, union_visit}
use Rattle.verifier.proofs.Walks.{seen_got, seen_told, told_exit, told_is, told_result, told_then}

-- Another walk that reads the same there.
told_run : {X : Type 0} {w w' : Walk} {x : List ℕ → X} {r : Result X InvalidFlatbuffer} {v v' : Verifier} → run w v ≡ run w' v → Told w x r v v' → Told w' x r v v'
told_run {x = x} {v = v} e h = record {
  result = h.result ∙ ap (λ q. answer q.outcome (x (bytes v))) e;
  counters = h.counters ∙ ap (λ q. q.counters) e;
  trace = h.trace ∙ ap (λ q. written (trace_of q.outcome) v.trace.now v.traced) e;
  traced = h.traced ∙ ap (λ q. counted (trace_of q.outcome) v.traced) e;
  kept = h.kept;
}

field_same : (p s : ℕ) (required : Bool) (w : ℕ → Walk) (v : Verifier) → run (field_visit (table_of (bytes v) p) s required w) v ≡ run (visit_field p s required w) v
unfolding visit_field visit_field_of then given slot_read slot_at
field_same p s required w v = refl

union_same : (p k s : ℕ) (required : Bool) (w : ℕ → ℕ → Walk) (v : Verifier) → run (union_visit (table_of (bytes v) p) k s required w) v ≡ run (visit_union p k s required w) v
unfolding visit_union visit_union_of then given slot_read slot_at
union_same p k s required w v = refl

-- The table of a shape at p is being read: these fields are left, from v on.
pub record Left (fs : Fields) (sh : Shape) (p : ℕ) (tb : TableVerifier) (u v : Verifier) : Type 0 where
  pub here : tb ≡ table_of (bytes v) p
  pub rest : (r : Result (Unit {0}) InvalidFlatbuffer) (v' : Verifier) → Told (fields fs p) done r v v' → Told (reading sh p) done r u v'

module _ {p : ℕ} {fs : Fields} {tb : TableVerifier} {u v : Verifier} where
  pub table_begins : Seen (visit_table p) (λ b. table_of b p) (Ok tb) u v → Left fs (table fs) p tb u v
  unfolding reading
  table_begins h = record { here = seen_got h; rest = λ r v' k. told_then (seen_told h) k }

module _ {p : ℕ} {f : InvalidFlatbuffer} {u v : Verifier} (fs : Fields) (r : Result (Unit {0}) InvalidFlatbuffer) where
  pub table_breaks : IsErrAnd r (λ g. g ≡ f) → Seen (visit_table p) (λ b. table_of b p) (Err f) u v → Told (reading (table fs) p) done r u v
  unfolding reading
  table_breaks e h = told_exit (fields fs p) done r e (seen_told h)

-- One more call told its part of these fields.
module _ (fs : Fields) {all : Fields} {sh : Shape} {p : ℕ} {tb : TableVerifier} {w : Walk} {u v v₂ : Verifier} {r' : Result (Unit {0}) InvalidFlatbuffer}
    (l : Left all sh p tb u v) (whole : then w (fields fs p) ≡ fields all p) (h : Told w done r' v v₂) where
  goes : r' ≡ Ok tt → Left fs sh p tb u v₂
  goes e = record {
    here = l.here ∙ ap (λ b. table_of b p) (sym h.kept.buffer);
    rest = λ r v' k. l.rest r v' (told_is whole (told_then (told_result (sym e) h) k));
  }

  breaks : (f : InvalidFlatbuffer) (r : Result (Unit {0}) InvalidFlatbuffer) → r' ≡ Err f → IsErrAnd r (λ g. g ≡ f) → Told (reading sh p) done r u v₂
  breaks f r e i = l.rest r v₂ (told_is whole (told_exit (fields fs p) done r i (told_result (sym e) h)))

module _ {fs : Fields} {sh : Shape} {p : ℕ} {tb : TableVerifier} {u v v₂ : Verifier} {r' : Result (Unit {0}) InvalidFlatbuffer} where
  module _ {s : ℕ} {required : Bool} {part : Shape} (l : Left (field s required part fs) sh p tb u v) (h : Told (field_visit tb s required (reading part)) done r' v v₂) where
    field_told : Told (visit_field p s required (reading part)) done r' v v₂
    field_told = told_run (ap (λ z. run (field_visit z s required (reading part)) v) l.here ∙ field_same p s required (reading part) v) h

    pub field_goes : r' ≡ Ok tt → Left fs sh p tb u v₂
    unfolding reading
    field_goes e = goes fs l refl field_told e

    pub field_breaks : (f : InvalidFlatbuffer) (r : Result (Unit {0}) InvalidFlatbuffer) → r' ≡ Err f → IsErrAnd r (λ g. g ≡ f) → Told (reading sh p) done r u v₂
    unfolding reading
    field_breaks f r e i = breaks fs l refl field_told f r e i

  module _ {k s : ℕ} {required : Bool} {vs : Variants} (l : Left (union k s required vs fs) sh p tb u v) (h : Told (union_visit tb k s required (variants vs)) done r' v v₂) where
    union_told : Told (visit_union p k s required (variants vs)) done r' v v₂
    union_told = told_run (ap (λ z. run (union_visit z k s required (variants vs)) v) l.here ∙ union_same p k s required (variants vs) v) h

    pub union_goes : r' ≡ Ok tt → Left fs sh p tb u v₂
    unfolding reading
    union_goes e = goes fs l refl union_told e

    pub union_breaks : (f : InvalidFlatbuffer) (r : Result (Unit {0}) InvalidFlatbuffer) → r' ≡ Err f → IsErrAnd r (λ g. g ≡ f) → Told (reading sh p) done r u v₂
    unfolding reading
    union_breaks f r e i = breaks fs l refl union_told f r e i

pub table_ends : {sh : Shape} {p : ℕ} {tb : TableVerifier} {u v v' : Verifier} → Left end sh p tb u v → Seen ascend done (Ok tt) v v' → Told (reading sh p) done (Ok tt) u v'
unfolding reading
table_ends {v' = v'} l h = l.rest (Ok tt) v' (seen_told h)
