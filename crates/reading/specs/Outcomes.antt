-- What an outcome is told as: an answer, and the records that a lent trace takes.
use Rattle.std.specs.Prelude.{ℕ, cond, List, [], ◌∷◌, Ok, Err, Result, slice_set}
use Rattle.reading.specs.declared.invalid.TraceRecord.{TraceRecord}
use Rattle.reading.specs.declared.invalid.InvalidFlatbuffer.{InvalidFlatbuffer}
use Rattle.reading.specs.Input.{saturated}
use Rattle.reading.specs.Reading.{limit, Outcome, accepted, refused}

abbrev pub answer : {X : Type 0} → Outcome → X → Result X InvalidFlatbuffer
answer accepted x = Ok x
answer (refused f t) x = Err f

abbrev pub trace_of : Outcome → List TraceRecord
trace_of accepted = []
trace_of (refused f t) = t

-- What a lent trace holds once records are written from a place on: a full one stays.
unfoldable pub written : List TraceRecord → List TraceRecord → ℕ → List TraceRecord
written [] t n = t
written (d ∷ ds) t n = written ds (slice_set t n d) (saturated n 1)

-- How many records there were by then.
unfoldable pub counted : List TraceRecord → ℕ → ℕ
counted [] n = n
counted (d ∷ ds) n = counted ds (saturated n 1)

-- What a layer adds to the trace of an answer that passes it.
abbrev pub layer : {X : Type 0} → Result X InvalidFlatbuffer → TraceRecord → List TraceRecord
layer (Ok x) d = []
layer (Err f) d = cond (limit f) [] (d ∷ [])
