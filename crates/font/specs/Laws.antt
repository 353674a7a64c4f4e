-- Anchor and Kern keep the law of kinds, and are plain.
use Rattle.std.specs.Prelude.{◌&&◌, nat_eq, ◌^◌, ◌<◌, T, nat_lt, refl}
use Rattle.std.proofs.Common.{inl, inr, arith, ltb→lt}
use Rattle.std.specs.Float.Ieee.Fits.{and_l, and_r}
use Rattle.std.specs.Int.{w16}
use Rattle.std.specs.Ordering.{int_eq}
use Rattle.wire.specs.Kind.{Law}
use Rattle.wire.specs.Scalars.{fits_signed}
use Rattle.wire.proofs.Laws.{struct_law, signed_low, signed_back}
use Rattle.wire.specs.Plain.{Plain}
use Rattle.wire.proofs.Plain.{struct_plain, signed_equal}
use Rattle.font.specs.declared.anchor.Anchor.{Anchor}
use Rattle.font.specs.declared.kern.Kern.{Kern}
use Rattle.font.specs.Structs.{anchor_words, anchor_of, anchor, kern_words, kern_of, kern}

module _ (a : Anchor) (h : T (anchor.fits a)) where
  anchor_x : T (fits_signed w16 a.x)
  anchor_x = and_l (fits_signed w16 a.x) _ h

  anchor_y : T (fits_signed w16 a.y)
  anchor_y = and_r (fits_signed w16 a.x) _ h

pub anchor_law : Law anchor
anchor_law =
    struct_law 2 2 _ anchor_words anchor_of _ (omega arith) (inr (inl refl)) (λ a. refl)
    (λ a h. (signed_low w16 a.x (anchor_x a h), (signed_low w16 a.y (anchor_y a h), tt)))
    (λ a h. rw (signed_back w16 a.x (anchor_x a h), signed_back w16 a.y (anchor_y a h)))

pub anchor_plain : Plain anchor 4 (λ a c. int_eq a.x c.x && int_eq a.y c.y)
anchor_plain =
    struct_plain 2 2 _ anchor_words anchor_of _ _
    (λ a c h k. rw (signed_equal w16 a.x c.x (anchor_x a h) (anchor_x c k), signed_equal w16 a.y c.y (anchor_y a h) (anchor_y c k)) refl)

module _ (k : Kern) (h : T (kern.fits k)) where
  kern_left : k.left < 256 ^ 2
  kern_left = ltb→lt k.left (2 ^ 16) (and_l (nat_lt k.left (2 ^ 16)) _ h)

  kern_right : k.right < 256 ^ 2
  kern_right = ltb→lt k.right (2 ^ 16) (and_l (nat_lt k.right (2 ^ 16)) _ (and_r (nat_lt k.left (2 ^ 16)) _ h))

  kern_value : T (fits_signed w16 k.value)
  kern_value = and_r (nat_lt k.right (2 ^ 16)) _ (and_r (nat_lt k.left (2 ^ 16)) _ h)

pub kern_law : Law kern
kern_law =
    struct_law 3 2 _ kern_words kern_of _ (omega arith) (inr (inl refl)) (λ k. refl)
    (λ k h. (kern_left k h, (kern_right k h, (signed_low w16 k.value (kern_value k h), tt))))
    (λ k h. rw (signed_back w16 k.value (kern_value k h)))

pub kern_plain : Plain kern 6 (λ k l. nat_eq k.left l.left && (nat_eq k.right l.right && int_eq k.value l.value))
kern_plain =
    struct_plain 3 2 _ kern_words kern_of _ _
    (λ k l h j. rw (signed_equal w16 k.value l.value (kern_value k h) (kern_value l j)) refl)
