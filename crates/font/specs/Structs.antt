-- The meaning of Anchor and Kern: structs of two-byte fields.
use Rattle.std.specs.Prelude.{ℕ, ◌^◌, ◌&&◌, List, [], ◌∷◌, ◌==◌, nat_lt, slice_index}
use Rattle.std.specs.Int.{w16}
use Rattle.std.proofs.Common.{to_z, of_z}
use Rattle.wire.specs.Kind.{Meaning}
use Rattle.wire.specs.Scalars.{fits_signed, equalℤ}
use Rattle.wire.specs.Structs.{struct}
use Rattle.font.specs.declared.anchor.Anchor.{Anchor}
use Rattle.font.specs.declared.kern.Kern.{Kern}

abbrev pub anchor_words : Anchor → List ℕ
anchor_words a = of_z w16 a.x ∷ of_z w16 a.y ∷ []

abbrev pub anchor_of : List ℕ → Anchor
anchor_of ws = record { x = to_z w16 (slice_index ws 0); y = to_z w16 (slice_index ws 1) }

abbrev pub anchor : Meaning Anchor Anchor
anchor = struct 2 2 (λ a. fits_signed w16 a.x && fits_signed w16 a.y) anchor_words anchor_of
    (λ a c. equalℤ w16 a.x c.x && equalℤ w16 a.y c.y)

abbrev pub kern_words : Kern → List ℕ
kern_words k = k.left ∷ k.right ∷ of_z w16 k.value ∷ []

abbrev pub kern_of : List ℕ → Kern
kern_of ws = record { left = slice_index ws 0; right = slice_index ws 1; value = to_z w16 (slice_index ws 2) }

abbrev pub kern : Meaning Kern Kern
kern = struct 3 2 (λ k. nat_lt k.left (2 ^ 16) && (nat_lt k.right (2 ^ 16) && fits_signed w16 k.value)) kern_words kern_of
    (λ k l. (k.left == l.left) && (k.right == l.right && equalℤ w16 k.value l.value))
