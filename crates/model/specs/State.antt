-- The state of a builder.
use Rattle.std.specs.Prelude.{ℕ, Bool, false, List, []}
use Rattle.model.specs.declared.field_loc.FieldLoc.{FieldLoc}

-- What is open: a table from the used space at its start, with its records; or a vector from the used space
-- after its padding, with the size of its elements and their count.
pub data Nest : Type 0 where
  nothing : Nest
  table : (start : ℕ) → List FieldLoc → Nest
  vector : (start size count : ℕ) → Nest

pub record State : Type 0 where
  -- the store's limit
  pub limit : ℕ
  -- the used bytes in memory order: a call only ever puts bytes in front of them
  pub used : List ℕ
  pub nest : Nest
  pub finished : Bool
  -- the largest alignment met since the reset
  pub met : ℕ
  -- defaults are written too
  pub forced : Bool
  -- the offsets of the vtables and of the pooled strings written since the reset
  pub vtables : List ℕ
  pub strings : List ℕ

-- a new builder
abbrev pub fresh : ℕ → State
fresh limit =
    record { limit = limit; used = []; nest = nothing; finished = false; met = 0; forced = false; vtables = []; strings = [] }
