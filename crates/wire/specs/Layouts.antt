-- How vectors and strings lie in a buffer: what they put in front of so much used space.
use Rattle.std.specs.Prelude.{ℕ, ◌+◌, ◌-◌, ◌*◌, ◌%◌, max, Bool, true, cond, ◌&&◌, List, [], ◌∷◌, ◌++◌, length, None, Option, nat_lt}
use Rattle.wire.specs.Bytes.{zeros}
use Rattle.wire.specs.Words.{le}
use Rattle.wire.specs.Kind.{Meaning, stands}
use Rattle.wire.specs.Pushed.{Pushed, Layout}

-- the fewest bytes after which n is a multiple of a
abbrev pub padding : ℕ → ℕ → ℕ
padding n a = (a - n % a) % a

-- a value and the padding behind it that aligns it
abbrev pub push_padding : Pushed → ℕ → ℕ
push_padding x used = padding (used + x.size) x.alignment

abbrev pub pushed_bytes : Pushed → ℕ → List ℕ
pushed_bytes x used = x.bytes (push_padding x used + used) ++ zeros (push_padding x used)

-- the used space after it: the value's offset
abbrev pub pushed_offset : Pushed → ℕ → ℕ
pushed_offset x used = used + push_padding x used + x.size

-- values one behind the other in memory order; the last lies next to the used space
abbrev pub row : List Pushed → ℕ → List ℕ
row [] used = []
row (x ∷ xs) used = let behind = row xs used in x.bytes (length behind + used) ++ behind

-- each offset among the values leads into the used space
abbrev pub all_stand : List Pushed → ℕ → Bool
all_stand [] used = true
all_stand (x ∷ xs) used = stands x.offset used && all_stand xs used

-- the zero bytes behind a vector of n bytes, so that its first element is aligned to 4 or to its own alignment
abbrev pub vector_padding : (used n alignment : ℕ) → ℕ
vector_padding used n alignment = padding (used + n) (max alignment 4)

-- a vector: its count as a word of four bytes, its elements, and padding behind them
abbrev pub vector_bytes : Layout → List Pushed → ℕ → List ℕ
vector_bytes k items used =
    let pad = vector_padding used (length items * k.size) k.alignment in
    le 4 (length items) ++ (row items (pad + used) ++ zeros pad)

-- the used space after a vector of n bytes
abbrev pub vector_space : (used n alignment : ℕ) → ℕ
vector_space used n alignment = used + vector_padding used n alignment + n + 4

-- the used space after a vector of the items: the vector's offset
abbrev pub vector_offset : Layout → List Pushed → ℕ → ℕ
vector_offset k items used = vector_space used (length items * k.size) k.alignment

-- the used space after the padding behind a vector's elements, before they are pushed one by one
abbrev pub start_space : Layout → (count used : ℕ) → ℕ
start_space k count used = used + vector_padding used (count * k.size) k.alignment

-- the zero bytes behind a string of n bytes and its terminator
abbrev pub string_padding : (used n : ℕ) → ℕ
string_padding used n = padding (used + n + 1) 4

-- a string: its count, its bytes, a zero byte that ends it, and padding
abbrev pub string_object_bytes : List ℕ → ℕ → List ℕ
string_object_bytes text used = le 4 (length text) ++ (text ++ (0 ∷ zeros (string_padding used (length text))))

-- the used space after a string of n bytes
abbrev pub string_space : (used n : ℕ) → ℕ
string_space used n = used + string_padding used n + n + 5

-- the element i of the count elements that begin at start, as its kind reads it
abbrev pub element : {V S : Type 0} → Meaning V S → List ℕ → (start count i : ℕ) → Option S
element m b start count i = cond (nat_lt i count) (m.reads b (start + i * m.size)) None
