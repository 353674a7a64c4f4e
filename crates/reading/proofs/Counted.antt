-- What a reading that accepts has counted, by induction on shapes.
use Rattle.std.proofs.Common.{◌≡◌, ℕ, zero, suc, ◌+◌, ◌-◌, ◌*◌, ◌^◌, ◌<◌, ◌≤◌, max, Bool, true, false, cond, ltb, leb, List, [], ◌∷◌, ◌++◌, length, Some, None, Option, refl, ap, ◌∙◌, arith}
use Rattle.std.proofs.lemmas.Bool.{leb-true}
use Rattle.reading.specs.declared.options.Counters.{Counters}
use Rattle.reading.specs.declared.options.VerifierOptions.{VerifierOptions}
use Rattle.reading.specs.declared.invalid.TraceRecord.{TraceRecord}
use Rattle.reading.specs.declared.invalid.InvalidFlatbuffer.{InvalidFlatbuffer}
use Rattle.reading.specs.declared.invalid.InvalidFlatbuffer.TheVariants.{RangeOutOfBounds, ApparentSizeTooLarge, TooManyTables, DepthLimitReached}
use Rattle.reading.specs.Shape.{Shape, Fields, Variants, element, string, vector, offsets, offset, skipped, table, end, field, union, unread, variant}
use Rattle.reading.specs.Input.{saturated, saturated_product, u32_at}
use Rattle.reading.specs.Reading.{accepted, Range, Reading, Walk, then, given, within, unless, raised, keeps, after, accept, refuse, aligned, ranged, spend, in_buffer, count_table, descend, ascend, signed, leads, enter, at_vtable, visit_table, vtable, vtable_len, slot_at, slot_read, absent, at_field, visit_field, follow, items, vector_range, each, element_at, visit_offsets, visit_string, text_of, terminated, lone_key, union_key, at_union, visit_union, reading, fields, variants}
use Rattle.reading.proofs.Walks.{then_accepted, both_accept, risen_accepted}
use Rattle.reading.specs.Counts.{Counts, nothing, read, both, when_present, each_counts, slot_counts, union_counts, follow_counts, counts, fields_counts, variant_counts, Allows, from, total, EveryShapeCounts}

unless_accepted : (x : Bool) (f : InvalidFlatbuffer) → unless x f ≡ accepted → x ≡ true
unless_accepted true f e = refl
unless_accepted false f e = absurd cc

keeps_means : (n by most : ℕ) → keeps n by most ≡ true → (n + by ≤ most) × (raised n by ≡ n + by)
keeps_means n by most e = go (ltb (n + by) 18446744073709551616) e
  where
    go : (x : Bool) → cond x (leb (n + by) most) false ≡ true → (n + by ≤ most) × (cond x (n + by) n ≡ n + by)
    go true k = (leb-true (n + by) most k, refl)
    go false k = absurd cc

-- an accepted reading that ends at the depth d
pub record Ends (o : VerifierOptions) (c : Counters) (n : Counts) (d : ℕ) (q : Reading) : Type 0 where
  pub allows : Allows o (from c n)
  pub depth : q.counters.depth ≡ d
  pub tables : q.counters.num_tables ≡ c.num_tables + n.tables
  pub size : q.counters.apparent_size ≡ c.apparent_size + n.size
  pub ranges : total q.ranges ≡ n.size

-- where the walk accepts it has counted these, and ends at this depth of the one at which it began
pub record Tells (b : List ℕ) (f : ℕ → ℕ) (w : Walk) (t : Counts) : Type 0 where
  pub ends : (o : VerifierOptions) (c : Counters) → Allows o (from c nothing) → (w b o c).outcome ≡ accepted → Ends o c t (f c.depth) (w b o c)

abbrev same : ℕ → ℕ
same d = d

abbrev deeper : ℕ → ℕ
deeper d = d + 1

abbrev higher : ℕ → ℕ
higher d = d - 1

-- the first two one after the other
pub record Sum (t t' t'' : Counts) : Type 0 where
  pub depth : t''.depth ≡ max t.depth t'.depth
  pub tables : t.tables + t'.tables ≡ t''.tables
  pub size : t.size + t'.size ≡ t''.size

sum_both : (t t' : Counts) → Sum t t' (both t t')
sum_both t t' = record { depth = refl; tables = refl; size = refl }

sum_start : (t : Counts) → Sum nothing t t
sum_start t = record { depth = omega arith; tables = omega arith; size = omega arith }

sum_end : (t : Counts) → Sum t nothing t
sum_end t = record { depth = omega arith; tables = omega arith; size = omega arith }

total_append : (rs qs : List Range) → total (rs ++ qs) ≡ total rs + total qs
total_append [] qs = omega arith
total_append (r ∷ rs) qs = let h = total_append rs qs in omega arith

low_next : (o : VerifierOptions) (c : Counters) (t : Counts) (d : ℕ) (q : Reading) → d ≤ o.max_depth → Ends o c t d q → Allows o (from q.counters nothing)
low_next o c t d q l h =
    let x = h.depth in
    let y = h.tables in
    let z = h.size in
    let y' = h.allows.tables in
    let z' = h.allows.size in
    record { depth = omega arith; tables = omega arith; size = omega arith }

module _ (b : List ℕ) where
  ends_on : (w w' : Walk) (o : VerifierOptions) (c : Counters) (t t' t'' : Counts) (d d' d'' : ℕ) → d' ≡ d'' → c.depth + t''.depth ≤ o.max_depth
      → t.tables + t'.tables ≡ t''.tables → t.size + t'.size ≡ t''.size → (w b o c).outcome ≡ accepted
      → Ends o c t d (w b o c) → Ends o (w b o c).counters t' d' (w' b o (w b o c).counters) → Ends o c t'' d'' (then w w' b o c)
  ends_on w w' o c t t' t'' d d' d'' e l u v i h k =
      let q = then_accepted w w' b o c i in
      let x = ap (λ (z : Reading). z.counters.num_tables) q in
      let y = ap (λ (z : Reading). z.counters.apparent_size) q in
      let m = h.tables in
      let n = h.size in
      let m' = k.tables in
      let n' = k.size in
      let a = k.allows.tables in
      let s = k.allows.size in
      let g = ap (λ (z : Reading). total z.ranges) q ∙ total_append (w b o c).ranges (w' b o (w b o c).counters).ranges in
      let g₁ = h.ranges in
      let g₂ = k.ranges in
      record {
        allows = record { depth = l; tables = omega arith; size = omega arith };
        depth = ap (λ (z : Reading). z.counters.depth) q ∙ (k.depth ∙ e);
        tables = omega arith;
        size = omega arith;
        ranges = omega arith;
      }

  then_tells : {f : ℕ → ℕ} {w w' : Walk} {t t' t'' : Counts} → Tells b same w t → Tells b f w' t' → Sum t t' t'' → Tells b f (then w w') t''
  then_tells {f = f} {w = w} {w' = w'} {t = t} {t' = t'} {t'' = t''} m m' s = record {
    ends = λ o c l e.
        let i = both_accept w w' b o c e in
        let h = m.ends o c l i.0 in
        let low : c.depth ≤ o.max_depth = let x = l.depth in omega arith in
        let k = m'.ends o (w b o c).counters (low_next o c t c.depth (w b o c) low h) i.1 in
        let x = h.allows.depth in
        let y = k.allows.depth in
        let z = h.depth in
        let n = s.depth in
        ends_on w w' o c t t' t'' c.depth (f (w b o c).counters.depth) (f c.depth) (ap f z) (omega arith) s.tables s.size i.0 h k;
  }

  -- what stands inside a table counts one deeper
  opens_closes : {w w' : Walk} {t t' t'' : Counts} → Tells b deeper w t → Tells b higher w' t' → t.depth ≡ 1 → t''.depth ≡ 1 + t'.depth
      → t.tables + t'.tables ≡ t''.tables → t.size + t'.size ≡ t''.size → Tells b same (then w w') t''
  opens_closes {w = w} {w' = w'} {t = t} {t' = t'} {t'' = t''} m m' one n u v = record {
    ends = λ o c l e.
        let i = both_accept w w' b o c e in
        let h = m.ends o c l i.0 in
        let x = h.allows.depth in
        let k = m'.ends o (w b o c).counters (low_next o c t (c.depth + 1) (w b o c) (omega arith) h) i.1 in
        let y = k.allows.depth in
        let z = h.depth in
        ends_on w w' o c t t' t'' (c.depth + 1) ((w b o c).counters.depth - 1) c.depth (omega arith) (omega arith) u v i.0 h k;
  }

  given_tells : {f : ℕ → ℕ} {t : Counts} (g : List ℕ → Walk) → Tells b f (g b) t → Tells b f (given g) t
  unfolding given
  given_tells g m = record { ends = m.ends }

  cond_tells : {t : Counts} {w w' : Walk} (x : Bool) → Tells b same w t → Tells b same w' t → Tells b same (cond x w w') t
  cond_tells true m m' = m
  cond_tells false m m' = m'

  accept_tells : Tells b same accept nothing
  accept_tells = record { ends = λ o c l e. record { allows = l; depth = refl; tables = omega arith; size = omega arith; ranges = refl } }

  refuse_tells : (g : InvalidFlatbuffer) (t : Counts) → Tells b same (refuse g) t
  refuse_tells g t = record { ends = λ o c l e. absurd cc }

  within_tells : {w : Walk} {t : Counts} (d : TraceRecord) → Tells b same w t → Tells b same (within d w) t
  unfolding within
  within_tells {w = w} d m = record {
    ends = λ o c l e.
        let h = m.ends o c l (risen_accepted d (w b o c).outcome e) in
        record { allows = h.allows; depth = h.depth; tables = h.tables; size = h.size; ranges = h.ranges };
  }

  spend_tells : (n : ℕ) (o : VerifierOptions) (c : Counters) → (spend n b o c).outcome ≡ accepted
      → (c.apparent_size + n ≤ o.max_apparent_size) × (raised c.apparent_size n ≡ c.apparent_size + n)
  unfolding spend
  spend_tells n o c e =
      keeps_means c.apparent_size n o.max_apparent_size
      (unless_accepted (keeps c.apparent_size n o.max_apparent_size) ApparentSizeTooLarge e)

  count_tells : Tells b same count_table (record { depth = 0; tables = 1; size = 0 })
  unfolding count_table
  count_tells = record {
    ends = λ o c l e.
        let k = keeps_means c.num_tables 1 o.max_tables (unless_accepted (keeps c.num_tables 1 o.max_tables) TooManyTables e) in
        record { allows = record { depth = l.depth; tables = k.0; size = l.size }; depth = refl; tables = k.1; size = omega arith; ranges = refl };
  }

  descend_tells : Tells b deeper descend (record { depth = 1; tables = 0; size = 0 })
  unfolding descend
  descend_tells = record {
    ends = λ o c l e.
        let k = keeps_means c.depth 1 o.max_depth (unless_accepted (keeps c.depth 1 o.max_depth) DepthLimitReached e) in
        record { allows = record { depth = k.0; tables = l.tables; size = l.size }; depth = k.1; tables = omega arith; size = omega arith; ranges = refl };
  }

  ascend_tells : Tells b higher ascend nothing
  unfolding ascend
  ascend_tells = record { ends = λ o c l e. record { allows = l; depth = refl; tables = omega arith; size = omega arith; ranges = refl } }

  terminated_tells : (s n : ℕ) → Tells b same (terminated s n) nothing
  unfolding terminated
  terminated_tells s n = record { ends = λ o c l e. record { allows = l; depth = refl; tables = omega arith; size = omega arith; ranges = refl } }

  aligned_tells : (p a : ℕ) → Tells b same (aligned p a) nothing
  unfolding aligned
  aligned_tells p a = cond_tells _ accept_tells (refuse_tells _ nothing)

  module _ (short : length b < 2 ^ 63) where
    -- an accepted range's end is no more than the length
    ranged_tells : (p n k : ℕ) → (saturated p n ≤ length b → n ≡ k) → Tells b same (ranged p n) (read k)
    unfolding ranged spend
    ranged_tells p n k f = record { ends = λ o c l e. go o c l (leb (saturated p n) (length b)) refl e }
      where
        go : (o : VerifierOptions) (c : Counters) → Allows o (from c nothing) → (x : Bool) → leb (saturated p n) (length b) ≡ x
            → (cond x (spend n) (refuse (RangeOutOfBounds p (saturated p n))) b o c).outcome ≡ accepted
            → Ends o c (read k) c.depth (after (record { start = p; size = n } ∷ []) (cond x (spend n) (refuse (RangeOutOfBounds p (saturated p n))) b o c))
        go o c l true i j =
            let h = spend_tells n o c j in
            let u = h.0 in
            let v = h.1 in
            let m : n ≡ k = f (leb-true (saturated p n) (length b) i) in
            record {
              allows = record { depth = l.depth; tables = l.tables; size = omega arith };
              depth = refl;
              tables = omega arith;
              size = v ∙ ap (λ (z : ℕ). c.apparent_size + z) m;
              ranges = omega arith;
            }
        go o c l false i j = absurd cc

    range_tells : (p n : ℕ) → Tells b same (ranged p n) (read n)
    range_tells p n = ranged_tells p n n (λ l. refl)

    buffer_tells : (p n a : ℕ) → Tells b same (in_buffer p n a) (read n)
    unfolding in_buffer
    buffer_tells p n a = then_tells (aligned_tells p a) (range_tells p n) (sum_start _)

    signed_tells : (p : ℕ) → Tells b same (signed p) (read 4)
    unfolding signed leads
    signed_tells p = then_tells (buffer_tells p 4 4) (given_tells _ (cond_tells _ accept_tells (refuse_tells _ nothing))) (sum_end _)

    enter_tells : (v n : ℕ) → Tells b deeper (enter v n) (record { depth = 1; tables = 1; size = n })
    unfolding enter
    enter_tells v n =
        then_tells (aligned_tells (saturated v n) 2) (then_tells (range_tells v n) (then_tells count_tells descend_tells (sum_both _ _)) (sum_both _ _))
        (record { depth = refl; tables = refl; size = omega arith })

    table_tells : (p : ℕ) → Tells b deeper (visit_table p) (record { depth = 1; tables = 1; size = 4 + (2 + vtable_len b p) })
    unfolding visit_table at_vtable
    table_tells p = then_tells (signed_tells p) (given_tells _ (then_tells (buffer_tells _ 2 2) (enter_tells _ _) (sum_both _ _))) (sum_both _ _)

    slot_tells : (p s : ℕ) → Tells b same (slot_read p s) (slot_counts b p s)
    unfolding slot_read
    slot_tells p s = given_tells _ (go (ltb s (vtable_len b p)))
      where
        go : (x : Bool) → Tells b same (cond x (in_buffer (saturated (vtable b p) s) 2 2) accept) (cond x (read 2) nothing)
        go true = buffer_tells _ 2 2
        go false = accept_tells

    absent_tells : (required : Bool) (s : ℕ) → Tells b same (absent required s) nothing
    unfolding absent
    absent_tells required s = cond_tells required (refuse_tells _ nothing) accept_tells

    field_tells : (p s : ℕ) (required : Bool) (w : ℕ → Walk) (n : ℕ → Counts) → ((q : ℕ) → Tells b same (w q) (n q))
        → Tells b same (visit_field p s required w) (both (slot_counts b p s) (when_present n (slot_at b p s)))
    unfolding visit_field
    field_tells p s required w n f = then_tells (slot_tells p s) (given_tells _ (go (slot_at b p s))) (sum_both _ _)
      where
        go : (x : Option ℕ) → Tells b same (at_field s required w x) (when_present n x)
        go None = absent_tells required s
        go (Some q) = within_tells _ (f q)

    follow_tells : (p : ℕ) (w : ℕ → Walk) (n : ℕ → Counts) → ((q : ℕ) → Tells b same (w q) (n q)) → Tells b same (follow p w) (follow_counts b n p)
    unfolding follow
    follow_tells p w n f = then_tells (buffer_tells p 4 4) (given_tells _ (f _)) (sum_both _ _)

    product_small : (p k n : ℕ) → saturated p (saturated_product k n) ≤ length b → saturated_product k n ≡ k * n
    unfolding saturated saturated_product
    product_small p k n l = let s : length b < 9223372036854775808 = short in omega arith

    vector_tells : (p n a : ℕ) → Tells b same (vector_range p n a) (both (read 4) (read (u32_at b p * n)))
    unfolding vector_range items
    vector_tells p n a =
        then_tells (buffer_tells p 4 4)
        (given_tells _ (then_tells (aligned_tells _ a) (ranged_tells _ _ (u32_at b p * n) (product_small (saturated p 4) (u32_at b p) n)) (sum_start _)))
        (sum_both _ _)

    text_tells : (p : ℕ) → Tells b same (visit_string p) (both (read 4) (read (u32_at b p)))
    unfolding visit_string text_of
    text_tells p =
        then_tells (vector_tells p 1 1) (given_tells _ (cond_tells _ (terminated_tells _ _) (refuse_tells _ nothing)))
        (record { depth = omega arith; tables = omega arith; size = omega arith })

    each_tells : (s : ℕ) (w : ℕ → Walk) (n : ℕ → Counts) → ((q : ℕ) → Tells b same (w q) (n q))
        → (k i : ℕ) → Tells b same (each (element_at s w) i k) (each_counts (λ j. follow_counts b n (s + 4 * j)) i k)
    unfolding each each_counts element_at
    each_tells s w n f zero i = accept_tells
    each_tells s w n f (suc k) i = then_tells (within_tells _ (follow_tells (s + 4 * i) w n f)) (each_tells s w n f k (suc i)) (sum_both _ _)

    offsets_tells : (p : ℕ) (w : ℕ → Walk) (n : ℕ → Counts) → ((q : ℕ) → Tells b same (w q) (n q))
        → Tells b same (visit_offsets p w)
        (both (both (read 4) (read (u32_at b p * 4))) (each_counts (λ i. follow_counts b n (saturated p 4 + 4 * i)) 0 (u32_at b p)))
    unfolding visit_offsets
    offsets_tells p w n f = then_tells (vector_tells p 4 4) (given_tells _ (each_tells (saturated p 4) w n f (u32_at b p) 0)) (sum_both _ _)

    key_tells : (k q : ℕ) → Tells b same (union_key k q) (read 1)
    unfolding union_key
    key_tells k q = within_tells _ (buffer_tells q 1 1)

    at_union_tells : (k s : ℕ) (required : Bool) (w : ℕ → ℕ → Walk) (n : ℕ → ℕ → Counts) → ((key q : ℕ) → Tells b same (w key q) (n key q))
        → (x y : Option ℕ) → Tells b same (at_union k s required w x y) (union_counts b n x y)
    unfolding lone_key
    at_union_tells k s required w n f None None = absent_tells required s
    at_union_tells k s required w n f None (Some y) = refuse_tells _ nothing
    at_union_tells k s required w n f (Some q) None = then_tells (key_tells k q) (given_tells _ (cond_tells _ (absent_tells required s) (refuse_tells _ nothing))) (sum_end _)
    at_union_tells k s required w n f (Some q) (Some y) = then_tells (key_tells k q) (given_tells _ (within_tells _ (f _ y))) (sum_both _ _)

    union_tells : (p k s : ℕ) (required : Bool) (w : ℕ → ℕ → Walk) (n : ℕ → ℕ → Counts) → ((key q : ℕ) → Tells b same (w key q) (n key q))
        → Tells b same (visit_union p k s required w) (both (slot_counts b p s) (both (slot_counts b p k) (union_counts b n (slot_at b p k) (slot_at b p s))))
    unfolding visit_union
    union_tells p k s required w n f =
        then_tells (slot_tells p s) (then_tells (slot_tells p k) (given_tells _ (at_union_tells k s required w n f (slot_at b p k) (slot_at b p s))) (sum_both _ _)) (sum_both _ _)

    variant_tells : {w w' : Walk} {t t' : Counts} (x : Bool) → Tells b same w t → Tells b same w' t' → Tells b same (cond x w w') (cond x t t')
    variant_tells true f g = f
    variant_tells false f g = g

    mutual
      unfolding reading counts

      reading_tells : (s : Shape) (p : ℕ) → Tells b same (reading s p) (counts b s p)
      reading_tells (element n k) p = buffer_tells p n k
      reading_tells string p = text_tells p
      reading_tells (vector n k) p = vector_tells p n k
      reading_tells (offsets s) p = offsets_tells p _ _ (λ q. reading_tells s q)
      reading_tells (offset s) p = follow_tells p _ _ (λ q. reading_tells s q)
      reading_tells (skipped s) p = reading_tells s (saturated p 4)
      reading_tells (table fs) p = opens_closes (table_tells p) (fields_tell fs p) refl (omega arith) (omega arith) (omega arith)

      fields_tell : (fs : Fields) (p : ℕ) → Tells b higher (fields fs p) (fields_counts b fs p)
      fields_tell end p = ascend_tells
      fields_tell (field s required sh fs) p = then_tells (field_tells p s required _ _ (λ q. reading_tells sh q)) (fields_tell fs p) (sum_both _ _)
      fields_tell (union k s required vs fs) p = then_tells (union_tells p k s required _ _ (λ key q. variants_tell vs key q)) (fields_tell fs p) (sum_both _ _)

      variants_tell : (vs : Variants) (key q : ℕ) → Tells b same (variants vs key q) (variant_counts b vs key q)
      variants_tell unread key q = accept_tells
      variants_tell (variant k sh vs) key q = variant_tells _ (within_tells _ (reading_tells sh q)) (variants_tell vs key q)

pub every_shape_counts : EveryShapeCounts
every_shape_counts s b p o c short l e =
    let h = (reading_tells b short s p).ends o c l e in
    record { allows = h.allows; depth = h.depth; tables = h.tables; size = h.size; ranges = h.ranges }
