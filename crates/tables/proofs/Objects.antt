-- Laws of the search among written objects.
use Rattle.std.proofs.Common.{◌≡◌, ℕ, zero, suc, ◌+◌, ◌-◌, ◌<◌, ◌≤◌, min, Bool, true, false, ◌&&◌, eqb, List, [], ◌∷◌, ◌++◌, length, get_or, take, drop, Some, None, sym, refl, ap, ◌∙◌, arith, length-drop, length-take}
use Rattle.std.specs.List.{list_all, enumerate_from, range_with_len}
use Rattle.std.specs.Str.{bytes_eq}
use Rattle.std.proofs.lemmas.Slice.Eq.{bytes_eq-Decides}
use Rattle.std.proofs.lemmas.List.{drop-drop, drop_more}
use Rattle.std.proofs.lemmas.List.FromFn.{get_or-enumerate_from, get_or-range_with_len, length-range_with_len, length-enumerate_from}
use Rattle.std.proofs.lemmas.Bool.{cond-true, cond-false, false_from_ne_true}
use Rattle.std.proofs.Math.Bool.{and_assoc}
use Rattle.wire.specs.Bytes.{last}
use Rattle.model.specs.Tables.{equal_object}

not_same : (xs ys : List ℕ) → (xs ≡ ys → ⊥) → bytes_eq xs ys ≡ false
not_same xs ys ne = false_from_ne_true (bytes_eq xs ys) (λ e. ne ((bytes_eq-Decides xs ys).0 e))

-- too few bytes are left from the place p on
pub bytes_short : (us bs : List ℕ) (p : ℕ) → length us - p < length bs → false ≡ bytes_eq (take (length bs) (drop p us)) bs
bytes_short us bs p h =
    let long : length (take (length bs) (drop p us)) ≡ min (length bs) (length us - p) = length-take (length bs) (drop p us) ∙ ap (min (length bs)) (length-drop p us) in
    sym (not_same (take (length bs) (drop p us)) bs (λ e. omega (arith, ap length e)))

-- a test of each place from n on says whether the bytes stand there
each_place : {X : Type 0} (P : X → Bool) (none : X) (xs : List X) (us bs : List ℕ) (n : ℕ) → length xs ≡ length bs → length bs ≤ length us - n
    → ((j : ℕ) → j < length bs → P (get_or xs j none) ≡ eqb (get_or us (n + j) 0) (get_or bs j 0)) → list_all P xs ≡ bytes_eq (take (length bs) (drop n us)) bs
each_place P none [] us [] n e h same = refl
each_place P none [] us (b ∷ bs) n e h same = absurd (omega arith)
each_place P none (x ∷ xs) us [] n e h same = absurd (omega arith)
each_place P none (x ∷ xs) us (b ∷ bs) n e h same =
    let first : n + 0 ≡ n = omega arith in
    ap (λ t. t && list_all P xs) (same 0 (omega arith) ∙ ap (λ (m : ℕ). eqb (get_or us m 0) b) first)
    ∙ ap (λ t. eqb (get_or us n 0) b && t) (each_place P none xs us bs (n + 1) (omega arith) (omega arith)
    (λ j l. let next : n + suc j ≡ n + 1 + j = omega arith in same (suc j) (omega arith) ∙ ap (λ (m : ℕ). eqb (get_or us m 0) (get_or bs j 0)) next))
    ∙ ap (λ (ys : List ℕ). bytes_eq (take (length (b ∷ bs)) ys) (b ∷ bs)) (sym (drop_more us n 0 (omega arith)))

-- the places of bytes that are counted, and of an index range
pub bytes_hold : (us bs : List ℕ) (n : ℕ) → length bs ≤ length us - n
    → list_all (λ q. eqb (get_or us (n + q.0) 0) q.1) (enumerate_from 0 bs) ≡ bytes_eq (take (length bs) (drop n us)) bs
bytes_hold us bs n h =
    each_place _ (0, 0) (enumerate_from 0 bs) us bs n (length-enumerate_from 0 bs) h
    (λ j l. ap (λ (q : ℕ × ℕ). eqb (get_or us (n + q.0) 0) q.1) (get_or-enumerate_from 0 bs j (0, 0) l)
    ∙ ap (λ (i : ℕ). eqb (get_or us (n + i) 0) (get_or bs j 0)) (omega arith))

pub range_holds : (us bs : List ℕ) (n : ℕ) → length bs ≤ length us - n
    → list_all (λ i. eqb (get_or us (n + i) 0) (get_or bs i 0)) (range_with_len 0 (length bs)) ≡ bytes_eq (take (length bs) (drop n us)) bs
range_holds us bs n h =
    each_place _ 0 (range_with_len 0 (length bs)) us bs n (length-range_with_len 0 (length bs)) h
    (λ j l. let e : get_or (range_with_len 0 (length bs)) j 0 ≡ j = omega (arith, get_or-range_with_len 0 (length bs) j 0 l) in
    ap (λ (i : ℕ). eqb (get_or us (n + i) 0) (get_or bs i 0)) e)

-- the place of the object at an offset
pub object_at : (us : List ℕ) (o p : ℕ) → p ≡ length us - o → drop p us ≡ last o us
object_at us o p e = ap (λ (k : ℕ). drop k us) e

-- a string: its length as a word, then its bytes
same_append : (hs bs ys : List ℕ) → bytes_eq (take (length (hs ++ bs)) ys) (hs ++ bs) ≡ (bytes_eq (take (length hs) ys) hs && bytes_eq (take (length bs) (drop (length hs) ys)) bs)
same_append [] bs ys = refl
same_append (x ∷ hs) bs [] = refl
same_append (x ∷ hs) bs (y ∷ ys) = ap (λ t. eqb y x && t) (same_append hs bs ys) ∙ sym (and_assoc (eqb y x) (bytes_eq (take (length hs) ys) hs) (bytes_eq (take (length bs) (drop (length hs) ys)) bs))

module _ (us hs bs : List ℕ) (o p : ℕ) (at : p ≡ length us - o) where
  pub string_parts : (a b : Bool) → a ≡ bytes_eq (take (length hs) (drop p us)) hs → b ≡ bytes_eq (take (length bs) (drop (p + length hs) us)) bs
      → (a && b) ≡ bytes_eq (take (length (hs ++ bs)) (last o us)) (hs ++ bs)
  string_parts a b ea eb =
      ap (λ t. t && b) ea ∙ ap (λ t. bytes_eq (take (length hs) (drop p us)) hs && t) (eb ∙ ap (λ v. bytes_eq (take (length bs) v) bs) (sym (drop-drop (length hs) p us)))
      ∙ sym (ap (λ v. bytes_eq (take (length (hs ++ bs)) v) (hs ++ bs)) (sym (object_at us o p at)) ∙ same_append hs bs (drop p us))

-- the first offset whose object begins alike
pub found_some : (us bs os : List ℕ) (i : ℕ) → i < length os → ((k : ℕ) → k < i → bytes_eq (take (length bs) (last (get_or os k 0) us)) bs ≡ false)
    → true ≡ bytes_eq (take (length bs) (last (get_or os i 0) us)) bs → Some (get_or os i 0) ≡ equal_object us bs os
found_some us bs [] i h below here = absurd (omega arith)
found_some us bs (o ∷ os) zero h below here = sym (cond-true (bytes_eq (take (length bs) (last o us)) bs) (Some o) (equal_object us bs os) (sym here))
found_some us bs (o ∷ os) (suc i) h below here =
    found_some us bs os i (omega arith) (λ k l. below (suc k) (omega arith)) here
    ∙ sym (cond-false (bytes_eq (take (length bs) (last o us)) bs) (Some o) (equal_object us bs os) (below 0 (omega arith)))

pub found_none : (us bs os : List ℕ) → ((k : ℕ) → k < length os → bytes_eq (take (length bs) (last (get_or os k 0) us)) bs ≡ false) → None ≡ equal_object us bs os
found_none us bs [] h = refl
found_none us bs (o ∷ os) h =
    found_none us bs os (λ k l. h (suc k) (omega arith)) ∙ sym (cond-false (bytes_eq (take (length bs) (last o us)) bs) (Some o) (equal_object us bs os) (h 0 (omega arith)))
