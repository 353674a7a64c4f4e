-- The law of wider limits: they read the same, unless a limit stops the reading.
use Rattle.std.specs.Prelude.{◌≡◌, ℕ, ◌≤◌, Bool, false, List}
use Rattle.reading.specs.declared.options.Counters.{Counters}
use Rattle.reading.specs.declared.options.VerifierOptions.{VerifierOptions}
use Rattle.reading.specs.Shape.{Shape}
use Rattle.reading.specs.Reading.{Outcome, accepted, refused, limit, reading}

-- The same switch, and limits that are nowhere smaller.
pub record Wider (o o' : VerifierOptions) : Type 0 where
  pub depth : o.max_depth ≤ o'.max_depth
  pub tables : o.max_tables ≤ o'.max_tables
  pub size : o.max_apparent_size ≤ o'.max_apparent_size
  pub switch : o'.ignore_missing_null_terminator ≡ o.ignore_missing_null_terminator

-- Whether a limit stopped it.
abbrev pub stopped : Outcome → Bool
stopped accepted = false
stopped (refused f t) = limit f

-- The same ranges, outcome with its trace, and counters.
abbrev pub WiderLimitsReadTheSame : Type 0
WiderLimitsReadTheSame = (s : Shape) (b : List ℕ) (p : ℕ) (o o' : VerifierOptions) (c : Counters) → Wider o o' →
    stopped (reading s p b o c).outcome ≡ false → reading s p b o' c ≡ reading s p b o c
