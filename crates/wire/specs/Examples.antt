-- Worked examples of the definitions, computed from them.
use Rattle.std.specs.Prelude.{◌≡◌, ℕ, true, false, [], ◌∷◌, pos, negsuc, Some, None}
use Rattle.std.specs.Float.{nan, fin, binary32, binary64}
use Rattle.std.specs.Int.{w16, w32}
use Rattle.wire.specs.Bytes.{last, front, raised, written, unspent, filled}
use Rattle.wire.specs.Words.{le, word}
use Rattle.wire.specs.Layouts.{padding, string_object_bytes, string_space, vector_space}
use Rattle.wire.specs.Offsets.{followed, forwards}
use Rattle.wire.specs.Scalars.{unsigned, signed, float}
use Rattle.wire.specs.Utf8.{longest_prefix, well_formed}

-- lists of bytes
abbrev pub ListsOfBytes : Type 0
ListsOfBytes =
    (last 2 (1 ∷ 2 ∷ 3 ∷ []) ≡ 2 ∷ 3 ∷ [])
    × (last 4 (1 ∷ 2 ∷ 3 ∷ []) ≡ 1 ∷ 2 ∷ 3 ∷ [])
    × (front 2 (1 ∷ 2 ∷ 3 ∷ []) ≡ 1 ∷ [])
    × (raised 3 (7 ∷ []) ≡ 0 ∷ 0 ∷ 7 ∷ [])
    × (written (1 ∷ 2 ∷ 3 ∷ []) 1 (9 ∷ []) ≡ 1 ∷ 9 ∷ 3 ∷ [])
    × (unspent 1 2 (7 ∷ []) ≡ 0 ∷ [])
    × (filled (1 ∷ 2 ∷ 3 ∷ []) (9 ∷ []) ≡ 9 ∷ 2 ∷ 3 ∷ [])
    × (filled (1 ∷ []) (8 ∷ 9 ∷ []) ≡ 8 ∷ [])

-- words, and what values push and read
abbrev pub Words : Type 0
Words =
    (le 2 600 ≡ 0x58 ∷ 0x02 ∷ [])
    × (word 4 (0xFF ∷ 0x14 ∷ 0 ∷ 0 ∷ 0 ∷ []) 1 ≡ 20)
    × ((unsigned 4).bytes 1 0 ≡ 1 ∷ 0 ∷ 0 ∷ 0 ∷ [])
    × ((signed 2 w16).bytes (negsuc 9) 0 ≡ 0xF6 ∷ 0xFF ∷ [])
    × ((signed 4 w32).reads (0xFA ∷ 0xFF ∷ 0xFF ∷ 0xFF ∷ []) 0 ≡ Some (negsuc 5))
    × ((unsigned 2).reads (1 ∷ 2 ∷ 3 ∷ []) 2 ≡ None)
    × ((float 4 binary32).bytes nan 0 ≡ 0 ∷ 0 ∷ 0xC0 ∷ 0x7F ∷ [])
    × ((float 8 binary64).bytes nan 0 ≡ 0 ∷ 0 ∷ 0 ∷ 0 ∷ 0 ∷ 0 ∷ 0xF8 ∷ 0x7F ∷ [])
    × ((float 4 binary32).equal nan nan ≡ false)
    × ((float 4 binary32).equal (fin true 0 (pos 0)) (fin false 0 (pos 0)) ≡ true)
    × ((forwards {O = ℕ} (λ o. o)).bytes 8 8 ≡ 4 ∷ 0 ∷ 0 ∷ 0 ∷ [])
    × (followed (4 ∷ 0 ∷ 0 ∷ 0 ∷ 2 ∷ 0 ∷ []) 0 ≡ Some 4)
    × (followed (6 ∷ 0 ∷ 0 ∷ 0 ∷ 2 ∷ 0 ∷ []) 0 ≡ None)

-- padding, strings and vectors
abbrev pub Layouts : Type 0
Layouts =
    (padding 5 4 ≡ 3)
    × (padding 8 4 ≡ 0)
    × (padding 6 8 ≡ 2)
    × (string_object_bytes (0x66 ∷ 0x69 ∷ []) 0 ≡ 2 ∷ 0 ∷ 0 ∷ 0 ∷ 0x66 ∷ 0x69 ∷ 0 ∷ 0 ∷ [])
    × (string_object_bytes [] 0 ≡ 0 ∷ 0 ∷ 0 ∷ 0 ∷ 0 ∷ 0 ∷ 0 ∷ 0 ∷ [])
    × (string_space 8 3 ≡ 16)
    × (vector_space 8 18 2 ≡ 32)

-- text: "fi" and U+1F600 are well-formed; a lone lead, an overlong form, a surrogate and a cut character are not
abbrev pub Text : Type 0
Text =
    (longest_prefix (0x66 ∷ 0x69 ∷ []) ≡ 2)
    × (longest_prefix (0xF0 ∷ 0x9F ∷ 0x98 ∷ 0x80 ∷ []) ≡ 4)
    × (longest_prefix (0x66 ∷ 0xC3 ∷ []) ≡ 1)
    × (longest_prefix (0xC0 ∷ 0x80 ∷ []) ≡ 0)
    × (longest_prefix (0xED ∷ 0xA0 ∷ 0x80 ∷ []) ≡ 0)
    × (longest_prefix (0x66 ∷ 0xE2 ∷ 0x82 ∷ []) ≡ 1)
    × (well_formed (0xC3 ∷ 0xA9 ∷ []) ≡ true)
    × (well_formed (0xF4 ∷ 0x90 ∷ 0x80 ∷ 0x80 ∷ []) ≡ false)
