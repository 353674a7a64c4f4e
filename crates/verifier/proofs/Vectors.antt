-- What the calls of a vector's walk read.
use Rattle.std.proofs.Common.{◌≡◌, ℕ, suc, ◌+◌, ◌-◌, ◌*◌, ◌^◌, ◌<◌, ◌≤◌, List, IsErrAnd, Ok, Err, Result, sym, ap, ◌∙◌, add-one, arith}
use Rattle.verifier.specs.declared.verifier.Verifier.{Verifier}
use Rattle.reading.specs.declared.invalid.InvalidFlatbuffer.{InvalidFlatbuffer}
use Rattle.reading.specs.Input.{saturated, saturated_product, u32_at}
use Rattle.reading.specs.Reading.{Walk, in_buffer, items, each, then, element_at, follow, vector_range, visit_offsets, within}
use Rattle.reading.specs.declared.invalid.TraceRecord.TheVariants.{VectorElement}
use Rattle.verifier.specs.Told.{Seen, Told, done}
use Rattle.verifier.proofs.Walks.{seen_accept, seen_got, seen_is, seen_given, seen_then, seen_told, told_exit, told_given, told_is, told_then}

-- The count of a vector was read, and then its elements' range.
pub items_read : (p n a : ℕ) {X : Type 0} {len start m : ℕ} {x : List ℕ → X} {r : Result X InvalidFlatbuffer} {u v v' : Verifier} →
    Seen (in_buffer p 4 4) (λ b. u32_at b p) (Ok len) u v → start ≡ saturated p 4 → m ≡ saturated_product len n → Seen (items start m a) x r v v' → Seen (vector_range p n a) x r u v'
unfolding vector_range
items_read p n a {m = m} h i j k =
    seen_then h
    (seen_given (λ b. items (saturated p 4) (saturated_product (u32_at b p) n) a)
    (seen_is (ap (λ s. items s m a) i ∙ ap (λ z. items (saturated p 4) z a) (j ∙ ap (λ z. saturated_product z n) (seen_got h))) k))

pub product_fits : (start s len n m : ℕ) → start ≡ s → m ≡ saturated_product len n → start + m < 2 ^ 63 → s + len * n < 2 ^ 63
unfolding saturated_product
product_fits start s len n m e i h = grind (arith, i)

pub product_lies : (start s len n m l : ℕ) → start ≡ s → m ≡ saturated_product len n → start + m < 2 ^ 63 → start + m ≤ l → s + len * n ≤ l
unfolding saturated_product
product_lies start s len n m l e i h k = grind (arith, i)

-- A loop over walks: what the rest of it tells, the whole tells.
abbrev pub Rest : (ℕ → Walk) → ℕ → ℕ → Verifier → Verifier → Type 0
Rest w i n u v = (r : Result (Unit {0}) InvalidFlatbuffer) (v' : Verifier) → Told (each w i (n - i)) done r v v' → Told (each w 0 n) done r u v'

each_more : (w : ℕ → Walk) (i n : ℕ) → i < n → each w i (n - i) ≡ then (w i) (each w (i + 1) (n - (i + 1)))
unfolding each
each_more w i n h =
    let e : n - i ≡ suc (n - (i + 1)) = omega arith in
    ap (each w i) e ∙ ap (λ j. then (w i) (each w j (n - (i + 1)))) (sym (add-one i))

module _ (w : ℕ → Walk) (i n : ℕ) (u v : Verifier) (rest : Rest w i n u v) where
  rest_goes : (v₂ : Verifier) → i < n → Told (w i) done (Ok tt) v v₂ → Rest w (i + 1) n u v₂
  rest_goes v₂ h k r v' q = rest r v' (told_is (sym (each_more w i n h)) (told_then k q))

  rest_stops : (v₂ : Verifier) (f : InvalidFlatbuffer) (r : Result (Unit {0}) InvalidFlatbuffer) → i < n → IsErrAnd r (λ g. g ≡ f) →
      Told (w i) done (Err f) v v₂ → Told (each w 0 n) done r u v₂
  rest_stops v₂ f r h e k = rest r v₂ (told_is (sym (each_more w i n h)) (told_exit (each w (i + 1) (n - (i + 1))) done r e k))

  pub rest_ends : n ≤ i → Told (each w 0 n) done (Ok tt) u v
  unfolding each
  rest_ends h = let e : n - i ≡ 0 = omega arith in rest (Ok tt) v (told_is (sym (ap (each w i) e)) (seen_told (seen_accept done v)))

-- An element was verified, in a vector of offsets whose first stands at s.
module _ (start s i n : ℕ) (w : ℕ → Walk) (u v : Verifier) {v₂ : Verifier} (e : start ≡ s) (rest : Rest (element_at s w) i n u v) (h : i < n) where
  element_read : {r : Result (Unit {0}) InvalidFlatbuffer} → Told (within (VectorElement i (start + 4 * i)) (follow (start + 4 * i) w)) done r v v₂ → Told (element_at s w i) done r v v₂
  unfolding element_at
  element_read k = told_is (ap (λ z. within (VectorElement i (z + 4 * i)) (follow (z + 4 * i) w)) e) k

  pub element_goes : Told (within (VectorElement i (start + 4 * i)) (follow (start + 4 * i) w)) done (Ok tt) v v₂ → Rest (element_at s w) (i + 1) n u v₂
  element_goes k = rest_goes (element_at s w) i n u v rest v₂ h (element_read k)

  pub element_stops : {f : InvalidFlatbuffer} {r : Result (Unit {0}) InvalidFlatbuffer} → IsErrAnd r (λ g. g ≡ f) →
      Told (within (VectorElement i (start + 4 * i)) (follow (start + 4 * i) w)) done (Err f) v v₂ → Told (each (element_at s w) 0 n) done r u v₂
  element_stops {f = f} {r = r} q k = rest_stops (element_at s w) i n u v rest v₂ f r h q (element_read k)

-- The count of a vector of offsets was read, and then its elements.
pub offsets_read : {u v v' : Verifier} {r : Result (Unit {0}) InvalidFlatbuffer} (p len : ℕ) (w : ℕ → Walk) → Seen (vector_range p 4 4) (λ b. u32_at b p) (Ok len) u v →
    Told (each (element_at (saturated p 4) w) 0 len) done r v v' → Told (visit_offsets p w) done r u v'
unfolding visit_offsets
offsets_read p len w h k =
    told_then (seen_told h)
    (told_given (λ b. each (element_at (saturated p 4) w) 0 (u32_at b p)) (told_is (ap (each (element_at (saturated p 4) w) 0) (seen_got h)) k))
