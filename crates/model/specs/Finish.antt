-- Finishing: the root's offset, with an identifier behind it and a size prefix before it where they are asked for.
use Rattle.std.specs.Prelude.{ℕ, ◌+◌, ◌-◌, max, Bool, true, false, cond, not, List, [], ◌∷◌, ◌++◌, length, Some, None, Option, ◌==◌}
use Rattle.wire.specs.declared.refusal.Refusal.TheVariants.{Identifier, Offset}
use Rattle.wire.specs.Answers.{Test, ◌because◌, space_tests}
use Rattle.wire.specs.Bytes.{zeros}
use Rattle.wire.specs.Kind.{stands}
use Rattle.wire.specs.Layouts.{padding}
use Rattle.wire.specs.Words.{le}

abbrev pub identifier_bytes : Option (List ℕ) → List ℕ
identifier_bytes None = []
identifier_bytes (Some id) = id

-- an identifier is four bytes
abbrev pub identifier_stands : Option (List ℕ) → Bool
identifier_stands None = true
identifier_stands (Some id) = length id == 4

-- the bytes of root, identifier and prefix
abbrev pub finish_head : Option (List ℕ) → Bool → ℕ
finish_head id prefixed = 4 + (length (identifier_bytes id) + cond prefixed 4 0)

-- zero bytes before them, so that the whole is a multiple of the largest alignment met, or of 4
abbrev pub finish_padding : Option (List ℕ) → Bool → (used met : ℕ) → ℕ
finish_padding id prefixed used met = padding (used + finish_head id prefixed) (max met 4)

-- the used space after
abbrev pub finish_space : Option (List ℕ) → Bool → (used met : ℕ) → ℕ
finish_space id prefixed used met = used + finish_padding id prefixed used met + finish_head id prefixed

-- the root's offset in front of an identifier and the padding
abbrev pub rooted : (root : ℕ) (id : List ℕ) (pad used : ℕ) → List ℕ
rooted root id pad used = le 4 (4 + (length id + pad + used) - root) ++ (id ++ zeros pad)

-- a prefix counts the bytes after it
abbrev pub prefix_bytes : Bool → ℕ → List ℕ
prefix_bytes true n = le 4 n
prefix_bytes false n = []

abbrev pub headed : (root : ℕ) (id : List ℕ) → Bool → (pad used : ℕ) → List ℕ
headed root id prefixed pad used =
    prefix_bytes prefixed (length (rooted root id pad used) + used) ++ rooted root id pad used

abbrev pub finish_bytes : (root : ℕ) → Option (List ℕ) → Bool → (used met : ℕ) → List ℕ
finish_bytes root id prefixed used met = headed root (identifier_bytes id) prefixed (finish_padding id prefixed used met) used

-- what finishing is refused by
abbrev pub finish_tests : (root : ℕ) → Option (List ℕ) → Bool → (used met limit : ℕ) → List Test
finish_tests root id prefixed used met limit =
    not (identifier_stands id) because Identifier
    ∷ (not (stands (Some root) used) because Offset)
    ∷ space_tests (finish_space id prefixed used met) limit
