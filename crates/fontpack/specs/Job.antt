-- A name and its kerns in a buffer.
use Rattle.std.specs.Prelude.{ℕ, ◌+◌, ◌-◌, cond, List, ◌++◌, map, length, take, drop, Some, None, Option, nat_le}
use Rattle.wire.specs.Layouts.{element, string_object_bytes, vector_bytes}
use Rattle.wire.specs.Pushed.{layout, pushed}
use Rattle.wire.specs.Words.{inside, word}
use Rattle.font.specs.declared.kern.Kern.{Kern}
use Rattle.font.specs.Structs.{kern}
use Rattle.font.specs.Laws.{kern_law}

-- the used bytes after the name was written in front of them
abbrev pub with_name : List ℕ → List ℕ → List ℕ
with_name name used = string_object_bytes name (length used) ++ used

-- and after the kerns were
abbrev pub with_kerns : List Kern → List ℕ → List ℕ
with_kerns kerns used = vector_bytes (layout kern kern_law) (map (pushed kern kern_law) kerns) (length used) ++ used

-- what a reader f sees at an offset
abbrev pub at_offset : {X : Type 0} → (ℕ → Option X) → List ℕ → ℕ → Option X
at_offset f b o = cond (nat_le o (length b)) (f (length b - o)) None

-- the count of the vector or string at a position
abbrev pub count : List ℕ → ℕ → Option ℕ
count b p = cond (inside b p 4) (Some (word 4 b p)) None

-- the bytes of the string at a position
abbrev pub string : List ℕ → ℕ → Option (List ℕ)
string b p = cond (inside b p 4) (cond (inside b (p + 4) (word 4 b p)) (Some (take (word 4 b p) (drop (p + 4) b))) None) None

-- the kern i of the vector at a position
abbrev pub kern_of : List ℕ → ℕ → ℕ → Option Kern
kern_of b i p = cond (inside b p 4) (element kern b (p + 4) (word 4 b p) i) None
