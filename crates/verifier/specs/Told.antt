-- What a call of a verifier answers and leaves, given what it is to read.
use Rattle.std.specs.Prelude.{◌≡◌, ℕ, Bool, List, [], IfOk, Option, Result}
use Rattle.std.specs.Borrow.{MutBor}
use Rattle.reading.specs.declared.invalid.TraceRecord.{TraceRecord}
use Rattle.reading.specs.declared.invalid.InvalidFlatbuffer.{InvalidFlatbuffer}
use Rattle.reading.specs.declared.options.Counters.{Counters}
use Rattle.reading.specs.declared.options.VerifierOptions.{VerifierOptions}
use Rattle.reading.specs.Law.{Inside}
use Rattle.reading.specs.Outcomes.{answer, counted, trace_of, written}
use Rattle.reading.specs.Reading.{Reading, Walk, reading, slot_of, slot_read_of, unmet, visit_field_of, visit_union_of, vtable, vtable_len}
use Rattle.reading.specs.Shape.{Shape}
use Rattle.verifier.specs.declared.verifier.TableVerifier.{TableVerifier}
use Rattle.verifier.specs.declared.verifier.Verdict.{Verdict}
use Rattle.verifier.specs.declared.verifier.Verifier.{Verifier}

-- The input.
abbrev pub bytes : Verifier → List ℕ
bytes v = v.buffer.now

-- A verifier that was lent this trace, and goes on from what was met and traced before.
pub record Resumed (b : List ℕ) (o : VerifierOptions) (t : MutBor (List TraceRecord)) (c : Counters) (n : ℕ) (v : Verifier) : Type 0 where
  pub buffer : bytes v ≡ b
  pub opts : v.opts ≡ o
  pub counters : v.counters ≡ c
  pub trace : v.trace.now ≡ t.now
  pub traced : v.traced ≡ n
  pub lent : v.trace.ghost_name ≡ t.ghost_name

-- A verifier that begins.
abbrev pub Begun : List ℕ → VerifierOptions → MutBor (List TraceRecord) → Verifier → Type 0
Begun b o t v = Resumed b o t unmet 0 v

-- It has the same input and options, and writes into the same trace.
pub record Kept (v v' : Verifier) : Type 0 where
  pub buffer : bytes v' ≡ bytes v
  pub opts : v'.opts ≡ v.opts
  pub lent : v'.trace.ghost_name ≡ v.trace.ghost_name

-- It begins anew.
pub record Reset (v v' : Verifier) : Type 0 where
  pub counters : v'.counters ≡ unmet
  pub trace : v'.trace.now ≡ v.trace.now
  pub traced : v'.traced ≡ 0
  pub kept : Kept v v'

-- The reading of a walk by a verifier.
abbrev pub run : Walk → Verifier → Reading
run w v = w (bytes v) v.opts v.counters

-- A call that adds nothing to the trace: it answers x where the walk accepts.
pub record Seen {X : Type 0} (w : Walk) (x : List ℕ → X) (r : Result X InvalidFlatbuffer) (v v' : Verifier) : Type 0 where
  pub result : r ≡ answer (run w v).outcome (x (bytes v))
  pub counters : v'.counters ≡ (run w v).counters
  pub trace : v'.trace.now ≡ v.trace.now
  pub traced : v'.traced ≡ v.traced
  pub quiet : trace_of (run w v).outcome ≡ []
  pub kept : Kept v v'

-- A call that writes the layers that its walk's fault rose through.
pub record Told {X : Type 0} (w : Walk) (x : List ℕ → X) (r : Result X InvalidFlatbuffer) (v v' : Verifier) : Type 0 where
  pub result : r ≡ answer (run w v).outcome (x (bytes v))
  pub counters : v'.counters ≡ (run w v).counters
  pub trace : v'.trace.now ≡ written (trace_of (run w v).outcome) v.trace.now v.traced
  pub traced : v'.traced ≡ counted (trace_of (run w v).outcome) v.traced
  pub kept : Kept v v'

-- A call that writes these records.
pub record Wrote (ds : List TraceRecord) (v v' : Verifier) : Type 0 where
  pub counters : v'.counters ≡ v.counters
  pub trace : v'.trace.now ≡ written ds v.trace.now v.traced
  pub traced : v'.traced ≡ counted ds v.traced
  pub kept : Kept v v'

-- The answer of a call that has none but that the walk accepts.
abbrev pub done : List ℕ → Unit {0}
done b = tt

-- The table at a position, as its vtable says.
abbrev pub table_of : List ℕ → ℕ → TableVerifier
table_of b p = record { pos = p; vtable = vtable b p; vtable_len = vtable_len b p }

-- In such a table: what is read to find the field of a slot, and where it stands, if anywhere.
abbrev pub slot_visit : TableVerifier → ℕ → Walk
slot_visit t s = slot_read_of t.vtable t.vtable_len s

abbrev pub slot_place : TableVerifier → ℕ → List ℕ → Option ℕ
slot_place t s b = slot_of b t.pos t.vtable t.vtable_len s

-- The visit of a field, and of a union.
abbrev pub field_visit : TableVerifier → ℕ → Bool → (ℕ → Walk) → Walk
field_visit t s required w = visit_field_of t.pos t.vtable t.vtable_len s required w

abbrev pub union_visit : TableVerifier → (key value : ℕ) → Bool → (ℕ → ℕ → Walk) → Walk
union_visit t k s required w = visit_union_of t.pos t.vtable t.vtable_len k s required w

-- A whole verification is the reading from no counters on, and where it accepts, the ranges read lie inside the input.
pub record Verified (s : Shape) (p : ℕ) (b : List ℕ) (o : VerifierOptions) (r : Verdict) (t t' : List TraceRecord) : Type 0 where
  pub result : r.result ≡ answer (reading s p b o unmet).outcome tt
  pub counters : r.counters ≡ (reading s p b o unmet).counters
  pub traced : r.traced ≡ counted (trace_of (reading s p b o unmet).outcome) 0
  pub trace : t' ≡ written (trace_of (reading s p b o unmet).outcome) t 0
  pub inside : IfOk r.result (λ _. Inside b (reading s p b o unmet).ranges)
