-- What a kind of element means, and its law.
use Rattle.std.specs.Prelude.{◌≡◌, ℕ, ◌+◌, ◌-◌, ◌%◌, ◌^◌, ◌<◌, ◌≤◌, Bool, true, ◌&&◌, T, ◌⊎◌, List, ◌++◌, length, Some, None, Option, nat_le, nat_lt}
use Rattle.wire.specs.Bytes.{Octets}
use Rattle.wire.specs.Words.{le}

-- A kind of element: V are its values, and S is what a reader sees of one.
-- The used space before a value is what lies behind it in memory, since a buffer grows at its front.
pub record Meaning (V S : Type 0) : Type 0 where
  pub size : ℕ
  pub alignment : ℕ
  -- the machine holds the value: a number is within its type
  pub fits : V → Bool
  -- the offset that a value is, counted from the end of the buffer
  pub offset : V → Option ℕ
  -- the bytes that a value pushes in front of so much used space
  pub bytes : V → ℕ → List ℕ
  -- what is read of an input at a position
  pub reads : List ℕ → ℕ → Option S
  -- what a reader sees of a value, in an input of a length
  pub shown : V → ℕ → S
  -- numeric equality
  pub equal : V → V → Bool

-- alignments are 1, 2, 4 and 8
abbrev pub Alignment : ℕ → Type 0
Alignment a = (a ≡ 1) ⊎ ((a ≡ 2) ⊎ ((a ≡ 4) ⊎ (a ≡ 8)))

-- an offset leads to an object in the used space; what is none does
abbrev pub stands : Option ℕ → ℕ → Bool
stands None used = true
stands (Some o) used = nat_lt 0 o && nat_le o used

-- the same as a fact, in a used space below 2 GiB
abbrev pub Points : Option ℕ → ℕ → Type 0
Points None used = Unit {0}
Points (Some o) used = (0 < o) × (o ≤ used) × (used < 2 ^ 31)

-- an offset is a word of four bytes: the distance from where it begins to its object
abbrev pub Leads : (size alignment : ℕ) → (ℕ → List ℕ) → Option ℕ → Type 0
Leads size alignment bytes None = Unit {0}
Leads size alignment bytes (Some o) = (size ≡ 4) × (alignment ≡ 4) × ((used : ℕ) → bytes used ≡ le 4 (4 + used - o))

pub record Law {V S : Type 0} (m : Meaning V S) : Type 0 where
  pub sized : 0 < m.size
  pub aligned : Alignment m.alignment
  pub divides : m.size % m.alignment ≡ 0
  pub long : (v : V) (used : ℕ) → length (m.bytes v used) ≡ m.size
  pub octets : (v : V) (used : ℕ) → Octets (m.bytes v used)
  pub leads : (v : V) → Leads m.size m.alignment (m.bytes v) (m.offset v)
  -- what was pushed reads back, whatever lies behind it and was set in front of it since
  pub back : (v : V) (front behind : List ℕ) → T (m.fits v) → Points (m.offset v) (length behind) → m.reads (front ++ (m.bytes v (length behind) ++ behind)) (length front) ≡ Some (m.shown v (length front + (m.size + length behind)))
  -- nothing is read where the range leaves the input
  pub absent : (b : List ℕ) (p : ℕ) → length b < p + m.size → m.reads b p ≡ None
