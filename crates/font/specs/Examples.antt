-- Worked examples of Anchor and Kern, computed from their meaning.
use Rattle.std.specs.Prelude.{◌≡◌, List, [], ◌∷◌, map, pos, negsuc, Some, None}
use Rattle.wire.specs.Layouts.{vector_bytes}
use Rattle.wire.specs.Pushed.{layout, pushed}
use Rattle.font.specs.declared.kern.Kern.{Kern}
use Rattle.font.specs.Structs.{anchor, kern}
use Rattle.font.specs.Laws.{kern_law}

abbrev pub two_kerns : List Kern
two_kerns = record { left = 3; right = 5; value = negsuc 9 } ∷ record { left = 7; right = 2; value = pos 1 } ∷ []

abbrev pub StructsOfFonts : Type 0
StructsOfFonts =
    (anchor.bytes (record { x = pos 258; y = negsuc 0 }) 0 ≡ 2 ∷ 1 ∷ 0xFF ∷ 0xFF ∷ [])
    × (anchor.reads (9 ∷ 2 ∷ 1 ∷ 0xFF ∷ 0xFF ∷ []) 1 ≡ Some (record { x = pos 258; y = negsuc 0 }))
    × (kern.bytes (record { left = 3; right = 5; value = negsuc 9 }) 0 ≡ 3 ∷ 0 ∷ 5 ∷ 0 ∷ 0xF6 ∷ 0xFF ∷ [])
    × (kern.reads (3 ∷ 0 ∷ 5 ∷ 0 ∷ 0xF6 ∷ []) 0 ≡ None)
    × (vector_bytes (layout kern kern_law) (map (pushed kern kern_law) two_kerns) 0
    ≡ 2 ∷ 0 ∷ 0 ∷ 0 ∷ 3 ∷ 0 ∷ 5 ∷ 0 ∷ 0xF6 ∷ 0xFF ∷ 7 ∷ 0 ∷ 2 ∷ 0 ∷ 1 ∷ 0 ∷ [])
