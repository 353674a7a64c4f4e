-- What the law of a kind gives of a row of its values.
use Rattle.std.proofs.Common.{◌≡◌, ℕ, zero, suc, ◌+◌, ◌*◌, ◌^◌, ◌<◌, ◌≤◌, true, ltb, List, [], ◌∷◌, ◌++◌, map, length, get_or, drop, Some, None, Option, sym, refl, ap, ◌∙◌, suc-mul, mul-le-mul_left, arith}
use Rattle.std.specs.List.{AllByRecursion}
use Rattle.std.proofs.lemmas.List.{append_assoc, drop_more, length-append, length-map, length-replicate}
use Rattle.std.proofs.lemmas.Bool.{and_parts}
use Rattle.std.proofs.lemmas.Bool.Decides.{nat_tests}
use Rattle.wire.specs.Bytes.{zeros}
use Rattle.wire.specs.Words.{le, word}
use Rattle.wire.specs.Kind.{Meaning, Law, Points, stands}
use Rattle.wire.specs.Pushed.{Pushed, Layout, Of, pushed}
use Rattle.wire.specs.Layouts.{row, all_stand, vector_padding, vector_bytes, vector_space, string_object_bytes, string_space, push_padding, pushed_bytes, pushed_offset, element}
use Rattle.wire.specs.ReadBack.{Fit, with_vector, ReadsBack}
use Rattle.wire.proofs.LittleEndian.{word_back}

-- an offset that passes its test still leads into a longer used space
points_stand : (o : Option ℕ) (used more : ℕ) → stands o used ≡ true → used ≤ more → more < 2 ^ 31 → Points o more
points_stand None used more e h low = tt
points_stand (Some o) used more e h low = (grind (arith, nat_tests), grind (arith, nat_tests), low)

stands_more : (o : Option ℕ) (used more : ℕ) → stands o used ≡ true → used ≤ more → stands o more ≡ true
stands_more None used more e h = refl
stands_more (Some o) used more e h = grind (arith, nat_tests)

pub length_row : (k : Layout) (xs : List Pushed) (used : ℕ) → AllByRecursion (Of k) xs → length (row xs used) ≡ length xs * k.size
length_row k [] used of = omega arith
length_row k (x ∷ xs) used of =
    let h = length_row k xs used of.1 in
    let l = x.long (length (row xs used) + used) in
    let s = of.0.0 in
    simp (length-append, suc-mul) (omega arith)

pub length_vector : (k : Layout) (xs : List Pushed) (used : ℕ) → AllByRecursion (Of k) xs
    → used + length (vector_bytes k xs used) ≡ vector_space used (length xs * k.size) k.alignment
length_vector k xs used of =
    let pad = vector_padding used (length xs * k.size) k.alignment in
    let r = length_row k xs (pad + used) of in
    simp (length-append, length-replicate) (omega arith)

pub length_pushed : (x : Pushed) (used : ℕ) → used + length (pushed_bytes x used) ≡ pushed_offset x used
length_pushed x used =
    let l = x.long (push_padding x used + used) in
    simp (length-append, length-replicate) (omega arith)

pub length_string : (text : List ℕ) (used : ℕ) → used + length (string_object_bytes text used) ≡ string_space used (length text)
length_string text used = simp (length-append, length-replicate) (omega arith)

module _ {V S : Type 0} (m : Meaning V S) (law : Law m) where
  pub length_code : (xs : List V) (used : ℕ) → length (row (map (pushed m law) xs) used) ≡ length xs * m.size
  length_code [] used = omega arith
  length_code (x ∷ xs) used =
      let h = length_code xs used in
      let l = law.long x (length (row (map (pushed m law) xs) used) + used) in
      simp (length-append, suc-mul) (omega arith)

  -- one value more at the front of a row
  module _ (xs : List V) (i j : ℕ) (x : V) (e : j ≡ i + 1) (h : i < length xs) (is : x ≡ get_or xs i x) where
    next : drop i xs ≡ x ∷ drop j xs
    next = drop_more xs i x h ∙ ap (λ (y : V). y ∷ drop (i + 1) xs) (sym is) ∙ ap (λ (k : ℕ). x ∷ drop k xs) (sym e)

  reads_at : (xs : List V) (front used : List ℕ) (i : ℕ) (d : V) → Fit m law xs → all_stand (map (pushed m law) xs) (length used) ≡ true
      → length xs * m.size + length used < 2 ^ 31 → i < length xs
      → m.reads (front ++ (row (map (pushed m law) xs) (length used) ++ used)) (length front + i * m.size)
      ≡ Some (m.shown (get_or xs i d) (length front + (length xs * m.size + length used)))
  reads_at [] front used i d fit stand low h = absurd (omega arith)
  reads_at (x ∷ xs) front used zero d fit stand low h =
      let n = suc-mul (length xs) m.size in
      let behind : List ℕ = row (map (pushed m law) xs) (length used) in
      let rest : List ℕ = behind ++ used in
      let long = length_code xs (length used) in
      let len : length rest ≡ length behind + length used = length-append behind used in
      let stood = (and_parts (stands (m.offset x) (length used)) _ stand).0 in
      let back = law.back x front rest fit.0 (points_stand (m.offset x) (length used) (length rest) stood (omega arith) (omega arith)) in
      let start : length front + 0 * m.size ≡ length front = omega arith in
      let total : length front + (suc (length xs) * m.size + length used) ≡ length front + (m.size + length rest) = omega arith in
      rw (append_assoc (m.bytes x (length behind + length used)) behind used, start, total, ← len) back
  reads_at (x ∷ xs) front used (suc i) d fit stand low h =
      let n = suc-mul (length xs) m.size in
      let behind : List ℕ = row (map (pushed m law) xs) (length used) in
      let rest : List ℕ = behind ++ used in
      let first : List ℕ = m.bytes x (length behind + length used) in
      let l : length (front ++ first) ≡ length front + m.size = let b = law.long x (length behind + length used) in simp length-append (omega arith) in
      let stood = (and_parts (stands (m.offset x) (length used)) _ stand).1 in
      let later = reads_at xs (front ++ first) used i d fit.1 stood (omega arith) (omega arith) in
      let at : length front + suc i * m.size ≡ length (front ++ first) + i * m.size = let j = suc-mul i m.size in omega arith in
      let total : length front + (suc (length xs) * m.size + length used) ≡ length (front ++ first) + (length xs * m.size + length used) = omega arith in
      rw (append_assoc first behind used, at, total) (rw (append_assoc front first rest) at later)

  stand_more : (xs : List Pushed) (used more : ℕ) → all_stand xs used ≡ true → used ≤ more → all_stand xs more ≡ true
  stand_more [] used more e h = refl
  stand_more (x ∷ xs) used more e h =
      let both = and_parts (stands x.offset used) (all_stand xs used) e in
      let one = stands_more x.offset used more both.0 h in
      let rest = stand_more xs used more both.1 h in
      rw (one, rest)

  pub reads_back : ReadsBack m law
  reads_back xs front used fit stand low =
      let items : List Pushed = map (pushed m law) xs in
      let many : length items ≡ length xs = length-map xs (pushed m law) in
      let room : length items * m.size ≡ length xs * m.size = ap (λ (n : ℕ). n * m.size) many in
      let pad : ℕ = vector_padding (length used) (length items * m.size) m.alignment in
      let same : pad ≡ vector_padding (length used) (length xs * m.size) m.alignment = ap (λ (n : ℕ). vector_padding (length used) n m.alignment) room in
      let behind : List ℕ = zeros pad ++ used in
      let long : length behind ≡ pad + length used = length-append (zeros pad) used ∙ ap (λ (n : ℕ). n + length used) (length-replicate pad 0) in
      let head : List ℕ = le 4 (length items) in
      let r : List ℕ = row items (pad + length used) in
      let b : List ℕ = with_vector m law xs front used in
      let first : b ≡ front ++ (head ++ (r ++ behind)) =
      ap (λ (l : List ℕ). front ++ l) (append_assoc head (r ++ zeros pad) used ∙ ap (λ (l : List ℕ). head ++ l) (append_assoc r (zeros pad) used)) in
      let last : b ≡ (front ++ head) ++ (r ++ behind) = first ∙ sym (append_assoc front head (r ++ behind)) in
      let at : length (front ++ head) ≡ length front + 4 = length-append front head in
      let size = length_code xs (pad + length used) in
      let whole : length b ≡ length (front ++ head) + (length xs * m.size + length behind) =
      ap length last ∙ length-append (front ++ head) (r ++ behind) ∙ (let e = length-append r behind in omega arith) in
      let counted : word 4 b (length front) ≡ length xs =
      ap (λ (l : List ℕ). word 4 l (length front)) first ∙ word_back 4 (length items) front (r ++ behind) (fits_count xs (omega arith)) ∙ many in
      let inside : (i : ℕ) (d : V) → i < length xs → element m b (length front + 4) (length xs) i ≡ Some (m.shown (get_or xs i d) (length b)) =
      λ i d h.
      let below : ltb i (length xs) ≡ true = grind (arith, nat_tests) in
      let stood = stand_more items (length used) (length behind) stand (omega arith) in
      let read = reads_at xs (front ++ head) behind i d fit stood (omega arith) h in
      let place : m.reads b (length front + 4 + i * m.size) ≡ m.reads ((front ++ head) ++ (row items (length behind) ++ behind)) (length (front ++ head) + i * m.size) =
      ap (λ (l : List ℕ). m.reads l (length front + 4 + i * m.size)) last
      ∙ ap (λ (n : ℕ). m.reads ((front ++ head) ++ (row items n ++ behind)) (length front + 4 + i * m.size)) (sym long)
      ∙ ap (λ (n : ℕ). m.reads ((front ++ head) ++ (row items (length behind) ++ behind)) (n + i * m.size)) (sym at) in
      rw below (place ∙ read ∙ ap (λ (n : ℕ). Some (m.shown (get_or xs i d) n)) (sym whole)) in
      (counted, inside)
    where
      -- an element has at least one byte, so that the count fits four
      fits_count : (xs : List V) → length xs * m.size ≤ 2147483647 → length (map (pushed m law) xs) < 256 ^ 4
      fits_count xs h = rw (length-map xs (pushed m law)) (let k = mul-le-mul_left (length xs) law.sized in omega arith)
