-- What a vector's elements read as, once they are written.
use Rattle.std.specs.Prelude.{◌≡◌, ℕ, ◌+◌, ◌*◌, ◌<◌, ◌≤◌, true, T, List, ◌++◌, map, length, Some, slice_index_or}
use Rattle.std.specs.List.{AllByRecursion}
use Rattle.wire.specs.Words.{word}
use Rattle.wire.specs.Kind.{Meaning, Law}
use Rattle.wire.specs.Pushed.{layout, pushed}
use Rattle.wire.specs.Layouts.{all_stand, vector_bytes, vector_space, element}

module _ {V S : Type 0} (m : Meaning V S) (law : Law m) where
  -- the machine holds each value
  abbrev pub Fit : List V → Type 0
  Fit xs = AllByRecursion (λ x. T (m.fits x)) xs

  -- the buffer after the vector of xs was written in front of the used bytes, and other bytes in front of it
  abbrev pub with_vector : (xs : List V) (front used : List ℕ) → List ℕ
  with_vector xs front used = front ++ (vector_bytes (layout m law) (map (pushed m law) xs) (length used) ++ used)

  -- A vector whose offsets lead into the used bytes reads back as it was written, whatever lies behind it and was
  -- set in front of it since: its count, and each element as the kind shows it.
  abbrev pub ReadsBack : Type 0
  ReadsBack = (xs : List V) (front used : List ℕ) → Fit xs → all_stand (map (pushed m law) xs) (length used) ≡ true
      → vector_space (length used) (length xs * m.size) m.alignment ≤ 2147483647
      → (word 4 (with_vector xs front used) (length front) ≡ length xs)
      × ((i : ℕ) (d : V) → i < length xs → element m (with_vector xs front used) (length front + 4) (length xs) i ≡ Some (m.shown (slice_index_or xs i d) (length (with_vector xs front used))))
