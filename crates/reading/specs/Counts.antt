-- What the reading of an input counts where nothing stops it: whole numbers, with no largest one.
use Rattle.std.specs.Prelude.{◌≡◌, ℕ, zero, suc, ◌+◌, ◌*◌, ◌^◌, ◌<◌, ◌≤◌, max, cond, List, [], ◌∷◌, length, Some, None, Option, ◌==◌, nat_lt, slice_index}
use Rattle.reading.specs.declared.options.VerifierOptions.{VerifierOptions}
use Rattle.reading.specs.declared.options.Counters.{Counters}
use Rattle.reading.specs.Shape.{Shape, Fields, Variants, element, string, vector, offsets, offset, skipped, table, end, field, union, unread, variant}
use Rattle.reading.specs.Input.{saturated, u32_at}
use Rattle.reading.specs.Reading.{Range, Reading, accepted, vtable_len, slot_at, reading}

-- The greatest depth, the tables, and the sizes of the ranges summed over each time they are read.
pub record Counts : Type 0 where
  pub depth : ℕ
  pub tables : ℕ
  pub size : ℕ

abbrev pub nothing : Counts
nothing = record { depth = 0; tables = 0; size = 0 }

-- a range of n bytes
abbrev pub read : ℕ → Counts
read n = record { depth = 0; tables = 0; size = n }

-- one after the other
abbrev pub both : Counts → Counts → Counts
both x y = record { depth = max x.depth y.depth; tables = x.tables + y.tables; size = x.size + y.size }

-- inside one more table
abbrev pub nested : Counts → Counts
nested x = record { depth = 1 + x.depth; tables = 1 + x.tables; size = x.size }

abbrev pub when_present : (ℕ → Counts) → Option ℕ → Counts
when_present f None = nothing
when_present f (Some q) = f q

-- from an index on, so many of them
unfoldable pub each_counts : (ℕ → Counts) → (index count : ℕ) → Counts
each_counts f i zero = nothing
each_counts f i (suc k) = both (f i) (each_counts f (suc i) k)

-- the word at a slot of the table at p
abbrev pub slot_counts : List ℕ → (p slot : ℕ) → Counts
slot_counts b p s = cond (nat_lt s (vtable_len b p)) (read 2) nothing

-- a union's key, and its value where both are present
abbrev pub union_counts : List ℕ → ((key q : ℕ) → Counts) → (key value : Option ℕ) → Counts
union_counts b f None x = nothing
union_counts b f (Some q) None = read 1
union_counts b f (Some q) (Some x) = both (read 1) (f (slice_index b q) x)

module _ (b : List ℕ) where
  abbrev pub follow_counts : (ℕ → Counts) → ℕ → Counts
  follow_counts f p = both (read 4) (f (saturated (u32_at b p) p))

  unfoldable mutual
    pub counts : Shape → ℕ → Counts
    counts (element n a) p = read n
    counts string p = both (read 4) (read (u32_at b p))
    counts (vector n a) p = both (read 4) (read (u32_at b p * n))
    counts (offsets s) p =
        both (both (read 4) (read (u32_at b p * 4)))
        (each_counts (λ i. follow_counts (λ q. counts s q) (saturated p 4 + 4 * i)) 0 (u32_at b p))
    counts (offset s) p = follow_counts (λ q. counts s q) p
    counts (skipped s) p = counts s (saturated p 4)
    counts (table fs) p = nested (both (read 4) (both (read 2) (both (read (vtable_len b p)) (fields_counts fs p))))

    pub fields_counts : Fields → ℕ → Counts
    fields_counts end p = nothing
    fields_counts (field s required sh fs) p =
        both (both (slot_counts b p s) (when_present (λ q. counts sh q) (slot_at b p s))) (fields_counts fs p)
    fields_counts (union k s required vs fs) p =
        both
        (both (slot_counts b p s) (both (slot_counts b p k) (union_counts b (λ key q. variant_counts vs key q) (slot_at b p k) (slot_at b p s))))
        (fields_counts fs p)

    pub variant_counts : Variants → (key q : ℕ) → Counts
    variant_counts unread key q = nothing
    variant_counts (variant k sh vs) key q = cond (key == k) (counts sh q) (variant_counts vs key q)

-- Limits that are at or above these counts.
pub record Allows (o : VerifierOptions) (n : Counts) : Type 0 where
  pub depth : n.depth ≤ o.max_depth
  pub tables : n.tables ≤ o.max_tables
  pub size : n.size ≤ o.max_apparent_size

-- Limits of 64 bits.
pub record Words (o : VerifierOptions) : Type 0 where
  pub depth : o.max_depth < 18446744073709551616
  pub tables : o.max_tables < 18446744073709551616
  pub size : o.max_apparent_size < 18446744073709551616

-- The sums of counters and counts.
abbrev pub from : Counters → Counts → Counts
from c n = record { depth = c.depth + n.depth; tables = c.num_tables + n.tables; size = c.apparent_size + n.size }

abbrev pub total : List Range → ℕ
total [] = 0
total (r ∷ rs) = r.size + total rs

-- What a reading that began at these counters has counted by its end: these counts, and each kept to its limit.
pub record Counted (o : VerifierOptions) (c : Counters) (n : Counts) (q : Reading) : Type 0 where
  pub allows : Allows o (from c n)
  pub depth : q.counters.depth ≡ c.depth
  pub tables : q.counters.num_tables ≡ c.num_tables + n.tables
  pub size : q.counters.apparent_size ≡ c.apparent_size + n.size
  pub ranges : total q.ranges ≡ n.size

-- The law of every shape: where its reading accepts, from counters within the limits, it has counted the counts.
abbrev pub EveryShapeCounts : Type 0
EveryShapeCounts = (s : Shape) (b : List ℕ) (p : ℕ) (o : VerifierOptions) (c : Counters) → length b < 2 ^ 63 → Allows o (from c nothing) →
    (reading s p b o c).outcome ≡ accepted → Counted o c (counts b s p) (reading s p b o c)
