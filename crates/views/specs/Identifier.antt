-- Whether an input has an identifier, and what refuses to say so.
use Rattle.std.specs.Prelude.{ℕ, ◌+◌, Bool, cond, List, length, take, drop, Ok, Err, Result, ◌==◌}
use Rattle.std.specs.Str.{bytes_eq}
use Rattle.wire.specs.Words.{inside}
use Rattle.views.specs.declared.table.identifier.IdentifierError.{IdentifierError}
use Rattle.views.specs.declared.table.identifier.IdentifierError.TheVariants.{Identifier, RangeOutOfBounds}

abbrev pub number : IdentifierError → ℕ
number Identifier = 6
number (RangeOutOfBounds start end) = 15

-- an identifier stands behind the root's offset, and that behind the size prefix, if there is one
abbrev pub identifier_at : Bool → ℕ
identifier_at prefixed = cond prefixed 8 4

abbrev pub has_identifier : (input ident : List ℕ) → Bool → Result Bool IdentifierError
has_identifier input ident prefixed =
    let at = identifier_at prefixed in
    cond (length ident == 4)
    (cond (inside input at 4) (Ok (bytes_eq ident (take 4 (drop at input)))) (Err (RangeOutOfBounds 0 (at + 4))))
    (Err Identifier)
