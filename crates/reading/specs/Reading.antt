-- What a verifier reads at a position, in the order in which it reads it, and where it stops.
use Rattle.std.specs.Prelude.{ℕ, zero, suc, ◌+◌, ◌-◌, ◌*◌, ◌%◌, Bool, true, false, cond, ◌&&◌, ◌||◌, List, [], ◌∷◌, ◌++◌, length, take, drop, Some, None, Option, ◌==◌, nat_le, nat_lt, slice_index}
use Rattle.std.specs.Int.{w32}
use Rattle.std.proofs.Common.{to_z}
use Rattle.reading.specs.declared.options.VerifierOptions.{VerifierOptions}
use Rattle.reading.specs.declared.options.Counters.{Counters}
use Rattle.reading.specs.declared.invalid.TraceRecord.{TraceRecord}
use Rattle.reading.specs.declared.invalid.TraceRecord.TheVariants.{VectorElement, TableField, UnionVariant}
use Rattle.reading.specs.declared.invalid.InvalidFlatbuffer.{InvalidFlatbuffer}
use Rattle.reading.specs.declared.invalid.InvalidFlatbuffer.TheVariants.{Unaligned, RangeOutOfBounds, ApparentSizeTooLarge, SignedOffsetOutOfBounds, TooManyTables, DepthLimitReached, MissingRequiredField, InconsistentUnion, Utf8Error, MissingNullTerminator}
use Rattle.reading.specs.Shape.{Shape, Fields, Variants, element, string, vector, offsets, offset, skipped, table, end, field, union, unread, variant}
use Rattle.wire.specs.Places.{led}
use Rattle.wire.specs.Utf8.{longest_prefix}
use Rattle.reading.specs.Input.{saturated, saturated_product, u16_at, u32_at}

-- The number of a fault.
abbrev pub number : InvalidFlatbuffer → ℕ
number (Unaligned p a) = 14
number (RangeOutOfBounds s e) = 15
number ApparentSizeTooLarge = 16
number (SignedOffsetOutOfBounds o p) = 17
number TooManyTables = 18
number DepthLimitReached = 19
number (MissingRequiredField s) = 20
number (InconsistentUnion k v) = 21
number (Utf8Error s e n) = 22
number (MissingNullTerminator s e) = 23

-- The number of a layer's record.
abbrev pub record_number : TraceRecord → ℕ
record_number (VectorElement i p) = 1
record_number (TableField s p) = 2
record_number (UnionVariant k p) = 3

-- Where a layer begins.
abbrev pub position_of : TraceRecord → ℕ
position_of (VectorElement i p) = p
position_of (TableField s p) = p
position_of (UnionVariant k p) = p

-- A fault of a limit gets no trace.
abbrev pub limit : InvalidFlatbuffer → Bool
limit (Unaligned p a) = false
limit (RangeOutOfBounds s e) = false
limit ApparentSizeTooLarge = true
limit (SignedOffsetOutOfBounds o p) = false
limit TooManyTables = true
limit DepthLimitReached = true
limit (MissingRequiredField s) = false
limit (InconsistentUnion k v) = false
limit (Utf8Error s e n) = false
limit (MissingNullTerminator s e) = false

-- Nothing stops the reading, or a fault with the layers that it rose through, innermost first.
pub data Outcome : Type 0 where
  accepted : Outcome
  refused : InvalidFlatbuffer → List TraceRecord → Outcome

pub record Range : Type 0 where
  pub start : ℕ
  pub size : ℕ

pub record Reading : Type 0 where
  pub ranges : List Range
  pub outcome : Outcome
  pub counters : Counters

-- What is read of an input, under options, from counters on.
abbrev pub Walk : Type 0
Walk = List ℕ → VerifierOptions → Counters → Reading

abbrev pub halted : Outcome → Counters → Reading
halted out c = record { ranges = []; outcome = out; counters = c }

-- Nothing is read.
abbrev pub accept : Walk
accept b o c = halted accepted c

abbrev pub refuse : InvalidFlatbuffer → Walk
refuse f b o c = halted (refused f []) c

-- The same reading after these ranges.
abbrev pub after : List Range → Reading → Reading
after rs q = record { ranges = rs ++ q.ranges; outcome = q.outcome; counters = q.counters }

abbrev pub continue : Outcome → Reading → (Counters → Reading) → Reading
continue accepted q k = after q.ranges (k q.counters)
continue (refused f t) q k = q

-- One walk and, where it accepts, another from its counters.
unfoldable pub then : Walk → Walk → Walk
then w w' b o c = continue (w b o c).outcome (w b o c) (w' b o)

-- A walk that what was read decides.
unfoldable pub given : (List ℕ → Walk) → Walk
given f b o c = f b b o c

abbrev pub risen : TraceRecord → Outcome → Outcome
risen d accepted = accepted
risen d (refused f t) = cond (limit f) (refused f t) (refused f (t ++ (d ∷ [])))

-- A walk of one more layer: a fault that is no limit's gets its record.
unfoldable pub within : TraceRecord → Walk → Walk
within d w b o c = record { ranges = (w b o c).ranges; outcome = risen d (w b o c).outcome; counters = (w b o c).counters }

-- A counter that would pass 64 bits stays, and passes its limit.
abbrev pub raised : ℕ → ℕ → ℕ
raised n by = cond (nat_lt (n + by) 18446744073709551616) (n + by) n

abbrev pub keeps : ℕ → ℕ → ℕ → Bool
keeps n by most = cond (nat_lt (n + by) 18446744073709551616) (nat_le (n + by) most) false

unfoldable pub aligned : ℕ → ℕ → Walk
aligned p a = cond (p % a == 0) accept (refuse (Unaligned p a))

abbrev pub with_size : Counters → ℕ → Counters
with_size c n = record { depth = c.depth; num_tables = c.num_tables; apparent_size = n }

abbrev pub with_tables : Counters → ℕ → Counters
with_tables c n = record { depth = c.depth; num_tables = n; apparent_size = c.apparent_size }

abbrev pub with_depth : Counters → ℕ → Counters
with_depth c n = record { depth = n; num_tables = c.num_tables; apparent_size = c.apparent_size }

abbrev pub unless : Bool → InvalidFlatbuffer → Outcome
unless t f = cond t accepted (refused f [])

unfoldable pub spend : ℕ → Walk
spend n b o c =
    halted (unless (keeps c.apparent_size n o.max_apparent_size) ApparentSizeTooLarge)
    (with_size c (raised c.apparent_size n))

unfoldable pub count_table : Walk
count_table b o c =
    halted (unless (keeps c.num_tables 1 o.max_tables) TooManyTables)
    (with_tables c (raised c.num_tables 1))

unfoldable pub descend : Walk
descend b o c =
    halted (unless (keeps c.depth 1 o.max_depth) DepthLimitReached)
    (with_depth c (raised c.depth 1))

unfoldable pub ascend : Walk
ascend b o c = halted accepted (with_depth c (c.depth - 1))

-- A range, named whether or not it lies inside the input.
unfoldable pub ranged : ℕ → ℕ → Walk
ranged p n b o c = after (record { start = p; size = n } ∷ [])
    (cond (nat_le (saturated p n) (length b)) (spend n) (refuse (RangeOutOfBounds p (saturated p n))) b o c)

-- An element.
unfoldable pub in_buffer : ℕ → ℕ → ℕ → Walk
in_buffer p n a = then (aligned p a) (ranged p n)

abbrev pub position : Option ℕ → ℕ
position None = 0
position (Some x) = x

abbrev pub present : Option ℕ → Bool
present None = false
present (Some x) = true

-- Where the vtable of the table at a position stands.
unfoldable pub vtable : List ℕ → ℕ → ℕ
vtable b p = position (led b p (u32_at b p))

unfoldable pub vtable_len : List ℕ → ℕ → ℕ
vtable_len b p = u16_at b (vtable b p)

unfoldable pub leads : ℕ → List ℕ → Walk
leads p b = cond (present (led b p (u32_at b p))) accept (refuse (SignedOffsetOutOfBounds (to_z w32 (u32_at b p)) p))

unfoldable pub signed : ℕ → Walk
signed p = then (in_buffer p 4 4) (given (leads p))

-- Evenness of the vtable's end, its range, table count, depth.
unfoldable pub enter : ℕ → ℕ → Walk
enter v n = then (aligned (saturated v n) 2) (then (ranged v n) (then count_table descend))

unfoldable pub at_vtable : ℕ → ℕ → Walk
at_vtable v n = then (in_buffer v 2 2) (enter v n)

-- Signed word, vtable's length word, then the rest.
unfoldable pub visit_table : ℕ → Walk
visit_table p = then (signed p) (given (λ b. at_vtable (vtable b p) (vtable_len b p)))

-- Where the field of a slot stands, if anywhere, for a table at p whose vtable of n bytes stands at v.
abbrev pub slot_of : List ℕ → (p v n slot : ℕ) → Option ℕ
slot_of b p v n s =
    cond (nat_lt s n)
    (cond (u16_at b (saturated v s) == 0) None (Some (saturated p (u16_at b (saturated v s)))))
    None

-- What is read to find it.
abbrev pub slot_read_of : (v n slot : ℕ) → Walk
slot_read_of v n s = cond (nat_lt s n) (in_buffer (saturated v s) 2 2) accept

-- The same for the table at a position, by its own vtable.
unfoldable pub slot_at : List ℕ → ℕ → ℕ → Option ℕ
slot_at b p s = slot_of b p (vtable b p) (vtable_len b p) s

unfoldable pub slot_read : ℕ → ℕ → Walk
slot_read p s = given (λ b. slot_read_of (vtable b p) (vtable_len b p) s)

unfoldable pub absent : Bool → ℕ → Walk
absent required s = cond required (refuse (MissingRequiredField s)) accept

abbrev pub at_field : ℕ → Bool → (ℕ → Walk) → Option ℕ → Walk
at_field s required w None = absent required s
at_field s required w (Some q) = within (TableField s q) (w q)

unfoldable pub visit_field_of : (p v n slot : ℕ) → Bool → (ℕ → Walk) → Walk
visit_field_of p v n s required w = then (slot_read_of v n s) (given (λ b. at_field s required w (slot_of b p v n s)))

unfoldable pub visit_field : ℕ → ℕ → Bool → (ℕ → Walk) → Walk
visit_field p s required w = then (slot_read p s) (given (λ b. at_field s required w (slot_at b p s)))

-- Where a forward offset leads.
unfoldable pub follow : ℕ → (ℕ → Walk) → Walk
follow p w = then (in_buffer p 4 4) (given (λ b. w (saturated (u32_at b p) p)))

unfoldable pub items : ℕ → ℕ → ℕ → Walk
items s size a = then (aligned s a) (ranged s size)

-- A vector's count, then the range of its elements of a size and an alignment.
unfoldable pub vector_range : ℕ → ℕ → ℕ → Walk
vector_range p n a = then (in_buffer p 4 4) (given (λ b. items (saturated p 4) (saturated_product (u32_at b p) n) a))

-- The walks from an index on, so many of them.
unfoldable pub each : (ℕ → Walk) → ℕ → ℕ → Walk
each w i zero = accept
each w i (suc k) = then (w i) (each w (suc i) k)

-- An element that is an offset, of a vector whose first stands at s.
unfoldable pub element_at : ℕ → (ℕ → Walk) → ℕ → Walk
element_at s w i = within (VectorElement i (s + 4 * i)) (follow (s + 4 * i) w)

unfoldable pub visit_offsets : ℕ → (ℕ → Walk) → Walk
visit_offsets p w = then (vector_range p 4 4) (given (λ b. each (element_at (saturated p 4) w) 0 (u32_at b p)))

abbrev pub part : List ℕ → ℕ → ℕ → List ℕ
part b s n = take n (drop s b)

abbrev pub zero_at : List ℕ → ℕ → Bool
zero_at b e = nat_lt e (length b) && slice_index b e == 0

unfoldable pub terminated : ℕ → ℕ → Walk
terminated s n b o c = halted (unless (o.ignore_missing_null_terminator || zero_at b (s + n)) (MissingNullTerminator s (s + n))) c

-- The bytes of a string are UTF-8, and a zero byte follows them.
unfoldable pub text_of : ℕ → ℕ → List ℕ → Walk
text_of s n b = cond (longest_prefix (part b s n) == n) (terminated s n) (refuse (Utf8Error s (s + n) (longest_prefix (part b s n))))

unfoldable pub visit_string : ℕ → Walk
visit_string p = then (vector_range p 1 1) (given (λ b. text_of (saturated p 4) (u32_at b p) b))

-- A key without a value: 0 says that the union is absent.
unfoldable pub lone_key : ℕ → ℕ → Bool → ℕ → Walk
lone_key k s required key = cond (key == 0) (absent required s) (refuse (InconsistentUnion k s))

unfoldable pub union_key : ℕ → ℕ → Walk
union_key k q = within (TableField k q) (in_buffer q 1 1)

-- Key slot and value slot, the variants' walk by key and position, and where key and value stand.
abbrev pub at_union : ℕ → ℕ → Bool → (ℕ → ℕ → Walk) → Option ℕ → Option ℕ → Walk
at_union k s required w None None = absent required s
at_union k s required w None (Some x) = refuse (InconsistentUnion k s)
at_union k s required w (Some q) None = then (union_key k q) (given (λ b. lone_key k s required (slice_index b q)))
at_union k s required w (Some q) (Some x) = then (union_key k q) (given (λ b. within (TableField s x) (w (slice_index b q) x)))

-- Value slot, then key slot, then the key, then the variant.
unfoldable pub visit_union_of : (p v n key value : ℕ) → Bool → (ℕ → ℕ → Walk) → Walk
visit_union_of p v n k s required w =
    then (slot_read_of v n s)
    (then (slot_read_of v n k) (given (λ b. at_union k s required w (slot_of b p v n k) (slot_of b p v n s))))

unfoldable pub visit_union : ℕ → ℕ → ℕ → Bool → (ℕ → ℕ → Walk) → Walk
visit_union p k s required w = then (slot_read p s) (then (slot_read p k)
    (given (λ b. at_union k s required w (slot_at b p k) (slot_at b p s))))

unfoldable mutual
  pub reading : Shape → ℕ → Walk
  reading (element n a) p = in_buffer p n a
  reading string p = visit_string p
  reading (vector n a) p = vector_range p n a
  reading (offsets s) p = visit_offsets p (λ q. reading s q)
  reading (offset s) p = follow p (λ q. reading s q)
  reading (skipped s) p = reading s (saturated p 4)
  reading (table fs) p = then (visit_table p) (fields fs p)

  pub fields : Fields → ℕ → Walk
  fields end p = ascend
  fields (field s required sh fs) p = then (visit_field p s required (λ q. reading sh q)) (fields fs p)
  fields (union k s required vs fs) p = then (visit_union p k s required (λ key q. variants vs key q)) (fields fs p)

  pub variants : Variants → ℕ → ℕ → Walk
  variants unread key q = accept
  variants (variant k sh vs) key q = cond (key == k) (within (UnionVariant k q) (reading sh q)) (variants vs key q)

-- Nothing was met yet.
abbrev pub unmet : Counters
unmet = record { depth = 0; num_tables = 0; apparent_size = 0 }

-- The reading of an input whose root has this shape.
unfoldable pub root : Shape → List ℕ → VerifierOptions → Reading
root s b o = reading (offset s) 0 b o unmet

-- The same behind a size prefix, which is not read.
unfoldable pub size_prefixed_root : Shape → List ℕ → VerifierOptions → Reading
size_prefixed_root s b o = reading (offset s) 4 b o unmet
