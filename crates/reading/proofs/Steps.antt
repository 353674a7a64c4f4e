-- What holds of the steps that walks are built of holds of each shape's reading, by induction on shapes.
use Rattle.std.proofs.Common.{ℕ, zero, suc, Bool, true, false, cond, List, None, Some, Option}
use Rattle.reading.specs.declared.invalid.TraceRecord.{TraceRecord}
use Rattle.reading.specs.declared.invalid.InvalidFlatbuffer.{InvalidFlatbuffer}
use Rattle.reading.specs.Shape.{Shape, Fields, Variants, element, string, vector, offsets, offset, skipped, table, end, field, union, unread, variant}
use Rattle.reading.specs.Input.{saturated}
use Rattle.reading.specs.Reading.{Walk, then, given, within, accept, refuse, aligned, ranged, in_buffer, count_table, descend, ascend, signed, leads, enter, at_vtable, visit_table, slot_at, slot_read, absent, at_field, visit_field, follow, items, vector_range, each, element_at, visit_offsets, visit_string, text_of, terminated, lone_key, union_key, at_union, visit_union, reading, fields, variants}

-- P holds of each step at the input b.
pub record Steps (b : List ℕ) (P : Walk → Type 0) : Type 0 where
  pub accepts : P accept
  pub refuses : (f : InvalidFlatbuffer) → P (refuse f)
  pub follows : (w w' : Walk) → P w → P w' → P (then w w')
  pub reads : (f : List ℕ → Walk) → P (f b) → P (given f)
  pub nests : (d : TraceRecord) (w : Walk) → P w → P (within d w)
  pub ranges : (p n : ℕ) → P (ranged p n)
  pub counts : P count_table
  pub descends : P descend
  pub ascends : P ascend
  pub ends : (s n : ℕ) → P (terminated s n)

module _ (b : List ℕ) (P : Walk → Type 0) (k : Steps b P) where
  either : (t : Bool) (w w' : Walk) → P w → P w' → P (cond t w w')
  either true w w' h i = h
  either false w w' h i = i

  at_aligned : (p a : ℕ) → P (aligned p a)
  unfolding aligned
  at_aligned p a = either _ _ _ k.accepts (k.refuses _)

  at_buffer : (p n a : ℕ) → P (in_buffer p n a)
  unfolding in_buffer
  at_buffer p n a = k.follows _ _ (at_aligned p a) (k.ranges p n)

  at_signed : (p : ℕ) → P (signed p)
  unfolding signed leads
  at_signed p = k.follows _ _ (at_buffer p 4 4) (k.reads _ (either _ _ _ k.accepts (k.refuses _)))

  at_enter : (v n : ℕ) → P (enter v n)
  unfolding enter
  at_enter v n = k.follows _ _ (at_aligned _ 2) (k.follows _ _ (k.ranges v n) (k.follows _ _ k.counts k.descends))

  at_table : (p : ℕ) → P (visit_table p)
  unfolding visit_table at_vtable
  at_table p = k.follows _ _ (at_signed p) (k.reads _ (k.follows _ _ (at_buffer _ 2 2) (at_enter _ _)))

  at_slot : (p s : ℕ) → P (slot_read p s)
  unfolding slot_read
  at_slot p s = k.reads _ (either _ _ _ (at_buffer _ 2 2) k.accepts)

  at_absent : (required : Bool) (s : ℕ) → P (absent required s)
  unfolding absent
  at_absent required s = either required _ _ (k.refuses _) k.accepts

  field_at : (s : ℕ) (required : Bool) (w : ℕ → Walk) → ((q : ℕ) → P (w q)) → (x : Option ℕ) → P (at_field s required w x)
  field_at s required w h None = at_absent required s
  field_at s required w h (Some q) = k.nests _ _ (h q)

  a_field : (p s : ℕ) (required : Bool) (w : ℕ → Walk) → ((q : ℕ) → P (w q)) → P (visit_field p s required w)
  unfolding visit_field
  a_field p s required w h = k.follows _ _ (at_slot p s) (k.reads _ (field_at s required w h (slot_at b p s)))

  an_offset : (p : ℕ) (w : ℕ → Walk) → ((q : ℕ) → P (w q)) → P (follow p w)
  unfolding follow
  an_offset p w h = k.follows _ _ (at_buffer p 4 4) (k.reads _ (h _))

  a_vector : (p n a : ℕ) → P (vector_range p n a)
  unfolding vector_range items
  a_vector p n a = k.follows _ _ (at_buffer p 4 4) (k.reads _ (k.follows _ _ (at_aligned _ a) (k.ranges _ _)))

  at_each : (w : ℕ → Walk) → ((i : ℕ) → P (w i)) → (n i : ℕ) → P (each w i n)
  unfolding each
  at_each w h zero i = k.accepts
  at_each w h (suc n) i = k.follows _ _ (h i) (at_each w h n (suc i))

  element_is : (s : ℕ) (w : ℕ → Walk) → ((q : ℕ) → P (w q)) → (i : ℕ) → P (element_at s w i)
  unfolding element_at
  element_is s w h i = k.nests _ _ (an_offset _ w h)

  some_offsets : (p : ℕ) (w : ℕ → Walk) → ((q : ℕ) → P (w q)) → P (visit_offsets p w)
  unfolding visit_offsets
  some_offsets p w h = k.follows _ _ (a_vector p 4 4) (k.reads _ (at_each _ (element_is (saturated p 4) w h) _ 0))

  a_string : (p : ℕ) → P (visit_string p)
  unfolding visit_string text_of
  a_string p = k.follows _ _ (a_vector p 1 1) (k.reads _ (either _ _ _ (k.ends _ _) (k.refuses _)))

  a_key : (key q : ℕ) → P (union_key key q)
  unfolding union_key
  a_key key q = k.nests _ _ (at_buffer q 1 1)

  union_at : (key s : ℕ) (required : Bool) (w : ℕ → ℕ → Walk) → ((v q : ℕ) → P (w v q)) → (x y : Option ℕ) → P (at_union key s required w x y)
  unfolding lone_key
  union_at key s required w h None None = at_absent required s
  union_at key s required w h None (Some y) = k.refuses _
  union_at key s required w h (Some q) None = k.follows _ _ (a_key key q) (k.reads _ (either _ _ _ (at_absent required s) (k.refuses _)))
  union_at key s required w h (Some q) (Some x) = k.follows _ _ (a_key key q) (k.reads _ (k.nests _ _ (h _ x)))

  a_union : (p key s : ℕ) (required : Bool) (w : ℕ → ℕ → Walk) → ((v q : ℕ) → P (w v q)) → P (visit_union p key s required w)
  unfolding visit_union
  a_union p key s required w h =
      k.follows _ _ (at_slot p s) (k.follows _ _ (at_slot p key) (k.reads _ (union_at key s required w h (slot_at b p key) (slot_at b p s))))

  mutual
    unfolding reading

    pub every_reading : (s : Shape) (p : ℕ) → P (reading s p)
    every_reading (element n a) p = at_buffer p n a
    every_reading string p = a_string p
    every_reading (vector n a) p = a_vector p n a
    every_reading (offsets s) p = some_offsets p _ (λ q. every_reading s q)
    every_reading (offset s) p = an_offset p _ (λ q. every_reading s q)
    every_reading (skipped s) p = every_reading s (saturated p 4)
    every_reading (table fs) p = k.follows _ _ (at_table p) (every_field fs p)

    every_field : (fs : Fields) (p : ℕ) → P (fields fs p)
    every_field end p = k.ascends
    every_field (field s required sh fs) p = k.follows _ _ (a_field p s required _ (λ q. every_reading sh q)) (every_field fs p)
    every_field (union key s required vs fs) p = k.follows _ _ (a_union p key s required _ (λ v q. every_variant vs v q)) (every_field fs p)

    every_variant : (vs : Variants) (key q : ℕ) → P (variants vs key q)
    every_variant unread key q = k.accepts
    every_variant (variant c sh vs) key q = either _ _ _ (k.nests _ _ (every_reading sh q)) (every_variant vs key q)
