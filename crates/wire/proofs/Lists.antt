-- Laws of `last`, `front`, `raised` and `written`. Stores and the builder are proved by these.
use Rattle.std.proofs.Common.{◌≡◌, ℕ, ◌+◌, ◌-◌, ◌<◌, ◌≤◌, min, max, Bool, true, false, cond, List, ◌++◌, length, take, drop, sym, ap, ◌∙◌, inl, inr, append_assoc, arith, length-append, length-drop, take-append-drop, length-take}
use lib.ListN.{length-replicate, replicate-append-replicate}
use borrow.Rule.Slice.PartMut.{put_mid}
use Rattle.std.proofs.lemmas.List.{drop-drop, drop-take, drop_at, drop_all, take_at, drop-append-le, drop-replicate, take-append-le, take_all, take-take}
use Rattle.std.proofs.lemmas.Bool.{false≢true, cases_lt}
use Rattle.wire.specs.Bytes.{zeros, last, front, raised, written, unspent}

pub length_last : (n : ℕ) (xs : List ℕ) → length (last n xs) ≡ min n (length xs)
length_last n xs = simp length-drop (omega arith)

pub length_last_le : (n : ℕ) (xs : List ℕ) → n ≤ length xs → length (last n xs) ≡ n
length_last_le n xs h = simp length-drop (omega arith)

pub length_front : (n : ℕ) (xs : List ℕ) → length (front n xs) ≡ length xs - n
length_front n xs = simp length-take (omega arith)

pub front_last : (n : ℕ) (xs : List ℕ) → front n xs ++ last n xs ≡ xs
front_last n xs = take-append-drop (length xs - n) xs

-- a list cut where its last n bytes begin
pub last_at : (xs ys : List ℕ) (n : ℕ) → length ys ≡ n → last n (xs ++ ys) ≡ ys
last_at xs ys n e = drop_at xs ys (length (xs ++ ys) - n) (simp length-append (omega arith))

pub front_at : (xs ys : List ℕ) (n : ℕ) → length ys ≡ n → front n (xs ++ ys) ≡ xs
front_at xs ys n e = take_at xs ys (length (xs ++ ys) - n) (simp length-append (omega arith))

pub last_all : (n : ℕ) (xs : List ℕ) → length xs ≤ n → last n xs ≡ xs
last_all n xs h = let e : length xs - n ≡ 0 = omega arith in ap (λ (k : ℕ). drop k xs) e

-- growth

pub length_raised : (n : ℕ) (xs : List ℕ) → length (raised n xs) ≡ max n (length xs)
length_raised n xs = simp (length-append, length-replicate) (omega arith)

pub raised_none : (n : ℕ) (xs : List ℕ) → n ≤ length xs → raised n xs ≡ xs
raised_none n xs h = let e : n - length xs ≡ 0 = omega arith in ap (λ (k : ℕ). zeros k ++ xs) e

pub raised_raised : (m n : ℕ) (xs : List ℕ) → length xs ≤ m → m ≤ n → raised n (raised m xs) ≡ raised n xs
raised_raised m n xs h k =
    let e : n - length (raised m xs) + (m - length xs) ≡ n - length xs = simp length_raised (omega arith) in
    sym (append_assoc (zeros (n - length (raised m xs))) (zeros (m - length xs)) xs)
    ∙ ap (λ (zs : List ℕ). zs ++ xs) (replicate-append-replicate (n - length (raised m xs)) (m - length xs) 0)
    ∙ ap (λ (i : ℕ). zeros i ++ xs) e

-- growth by any number of zero bytes
pub raised_is : (k : ℕ) (xs ys : List ℕ) → ys ≡ zeros k ++ xs → ys ≡ raised (length ys) xs
raised_is k xs ys e =
    let n : k ≡ length ys - length xs = omega (arith, simp (length-append, length-replicate) at (ap length e)) in
    e ∙ ap (λ (j : ℕ). zeros j ++ xs) n

pub longer : (k : ℕ) (xs ys : List ℕ) → ys ≡ zeros k ++ xs → 0 < k → length xs < length ys
longer k xs ys e h = omega (arith, simp (length-append, length-replicate) at (ap length e))

-- growth of a store below, seen through its last n bytes
pub grown_below : (n : ℕ) (xs ys : List ℕ) → length xs ≤ n → length xs ≤ length ys → ys ≡ raised (length ys) xs → last n ys ≡ raised (length (last n ys)) (last n xs)
grown_below n xs ys h k grown =
    let by = length ys - length xs in
    let cut = length (raised (length ys) xs) - n in
    let fits : cut ≤ length (zeros by) = simp (length-append, length-replicate) (omega arith) in
    let e : last n ys ≡ zeros (by - cut) ++ xs =
    ap (last n) grown ∙ drop-append-le cut (zeros by) xs fits ∙ ap (λ (zs : List ℕ). zs ++ xs) (drop-replicate cut by 0) in
    raised_is (by - cut) xs (last n ys) e ∙ ap (raised (length (last n ys))) (sym (last_all n xs h))

-- growth on growth
pub grown_grown : (xs ys zs : List ℕ) → length xs ≤ length ys → ys ≡ raised (length ys) xs → length ys ≤ length zs → zs ≡ raised (length zs) ys → zs ≡ raised (length zs) xs
grown_grown xs ys zs h e k f =
    f ∙ ap (raised (length zs)) e ∙ raised_raised (length ys) (length zs) xs h k

-- writing

pub length_written : (xs : List ℕ) (start : ℕ) (ys : List ℕ) → start + length ys ≤ length xs → length (written xs start ys) ≡ length xs
length_written xs start ys h = simp (length-append, length-take, length-drop) (omega arith)

-- a write to `s[start..start + count]` as the checker reads it
pub put_mid_written : (xs : List ℕ) (start count : ℕ) (ys : List ℕ) → count ≡ length ys → put_mid start count xs ys ≡ written xs start ys
put_mid_written xs start count ys e =
    ap (λ (zs : List ℕ). take start xs ++ (ys ++ zs)) (drop-drop count start xs ∙ ap (λ (k : ℕ). drop (start + k) xs) e)

-- a write inside the last n bytes
pub last_written : (n : ℕ) (xs : List ℕ) (start : ℕ) (ys : List ℕ) (from : ℕ) → from ≡ length xs - n + start → start + length ys ≤ length (last n xs)
    → last n (written xs from ys) ≡ written (last n xs) start ys
last_written n xs start ys from is k =
    let base = length xs - n in
    let tail = drop (from + length ys) xs in
    let long = length_last n xs in
    let same : length (written xs from ys) ≡ length xs = length_written xs from ys (omega arith) in
    let fits : base ≤ length (take from xs) = simp length-take (omega arith) in
    let far : from + length ys ≡ base + (start + length ys) = omega arith in
    ap (λ (m : ℕ). drop (m - n) (written xs from ys)) same
    ∙ drop-append-le base (take from xs) (ys ++ tail) fits
    ∙ ap (λ (zs : List ℕ). zs ++ (ys ++ tail)) (ap (λ (m : ℕ). drop base (take m xs)) is ∙ drop-take base start xs)
    ∙ ap (λ (zs : List ℕ). take start (last n xs) ++ (ys ++ zs)) (ap (λ (m : ℕ). drop m xs) far ∙ sym (drop-drop (start + length ys) base xs))

-- what a store below leaves of a write that fits
pub last_put : (r : Bool) (n : ℕ) (xs after : List ℕ) (start : ℕ) (ys : List ℕ) (from : ℕ) → r ≡ true → after ≡ cond r (written xs from ys) xs
    → from ≡ length xs - n + start → start + length ys ≤ length (last n xs) → last n after ≡ cond r (written (last n xs) start ys) (last n xs)
last_put true n xs after start ys from t e is k = ap (last n) e ∙ last_written n xs start ys from is k
last_put false n xs after start ys from t e is k = absurd (false≢true t)

-- a write to an array of which the last n bytes are a store's list
pub last_put_mid : (n : ℕ) (xs : List ℕ) (start : ℕ) (ys : List ℕ) (from count : ℕ) (zs : List ℕ) → zs ≡ ys → count ≡ length ys
    → from ≡ length xs - n + start → start + length ys ≤ length (last n xs) → last n (put_mid from count xs zs) ≡ written (last n xs) start ys
last_put_mid n xs start ys from count zs same long is k =
    ap (λ (us : List ℕ). last n (put_mid from count xs us)) same
    ∙ ap (last n) (put_mid_written xs from count ys long)
    ∙ last_written n xs start ys from is k

-- a write that was taken
pub put_done : (r : Bool) (xs ys zs : List ℕ) → r ≡ true → zs ≡ cond r xs ys → zs ≡ xs
put_done true xs ys zs t e = e
put_done false xs ys zs t e = absurd (false≢true t)

-- growth alone
pub unspent_none : (xs old : List ℕ) → xs ≡ raised (length xs) old → xs ≡ unspent (length xs) 0 old
unspent_none xs old grown =
    let same : length xs ≡ length xs + 0 = omega arith in
    sym (take_all (length xs) xs (omega arith)) ∙ ap (take (length xs)) (grown ∙ ap (λ (k : ℕ). raised k old) same)

-- a store at the front of a slice

pub written_append : (xs ys : List ℕ) (start : ℕ) (zs : List ℕ) → start + length zs ≤ length xs → written (xs ++ ys) start zs ≡ written xs start zs ++ ys
written_append xs ys start zs h =
    ap (λ (us : List ℕ). us ++ (zs ++ drop (start + length zs) (xs ++ ys))) (take-append-le start xs ys (omega arith))
    ∙ ap (λ (us : List ℕ). take start xs ++ (zs ++ us)) (drop-append-le (start + length zs) xs ys h)
    ∙ simp append_assoc

pub take_written : (n : ℕ) (xs : List ℕ) (start : ℕ) (ys : List ℕ) → start + length ys ≤ length (take n xs) → take n (written xs start ys) ≡ written (take n xs) start ys
take_written n xs start ys h =
    elim (cases_lt n (length xs)) as (λ _. take n (written xs start ys) ≡ written (take n xs) start ys) [
      | inl l ↦ (
          let long : length (take n xs) ≡ n = length-take n xs ∙ omega arith in
          ap (λ (us : List ℕ). take n (written us start ys)) (sym (take-append-drop n xs))
          ∙ ap (take n) (written_append (take n xs) (drop n xs) start ys h)
          ∙ take_at (written (take n xs) start ys) (drop n xs) n (length_written (take n xs) start ys h ∙ long))
      | inr l ↦ (
          let same = take_all n xs l in
          let fits : start + length ys ≤ length xs = omega (arith, ap length same) in
          take_all n (written xs start ys) (omega (arith, length_written xs start ys fits))
          ∙ ap (λ (us : List ℕ). written us start ys) (sym same))
    ]

pub take_put_mid : (n : ℕ) (xs : List ℕ) (start : ℕ) (ys : List ℕ) (from count : ℕ) (zs : List ℕ) → zs ≡ ys → count ≡ length ys → from ≡ start
    → start + length ys ≤ length (take n xs) → take n (put_mid from count xs zs) ≡ written (take n xs) start ys
take_put_mid n xs start ys from count zs same long is k =
    ap (λ (us : List ℕ). take n (put_mid from count xs us)) same
    ∙ ap (take n) (put_mid_written xs from count ys long)
    ∙ ap (λ (j : ℕ). take n (written xs j ys)) is
    ∙ take_written n xs start ys k

-- the first `next` bytes turned round and their front zeroed, as the checker reads it
pub moved_up : (len next : ℕ) (xs turned zs : List ℕ) (m a b j : ℕ) → len ≤ next → next ≤ length xs → a ≡ next → b ≡ next - len → m ≡ len
    → turned ≡ drop m (take a xs) ++ take m (take a xs) → zs ≡ zeros j → j ≡ next - len
    → zs ++ drop b (turned ++ drop a xs) ≡ (zeros (next - len) ++ take len xs) ++ drop next xs
moved_up len next xs turned zs m a b j h k ea eb em et ez ej =
    let part : turned ≡ drop len (take next xs) ++ take len xs =
    et ∙ ap (λ (i : ℕ). drop i (take a xs) ++ take i (take a xs)) em
    ∙ ap (λ (i : ℕ). drop len (take i xs) ++ take len (take i xs)) ea
    ∙ ap (λ (us : List ℕ). drop len (take next xs) ++ us) (take-take len next xs h) in
    let size : length (drop len (take next xs)) ≡ b = simp (length-drop, length-take) (omega arith) in
    ap (λ (us : List ℕ). us ++ drop b (turned ++ drop a xs)) (ez ∙ ap zeros ej)
    ∙ ap (λ (us : List ℕ). zeros (next - len) ++ drop b (us ++ drop a xs)) part
    ∙ ap (λ (us : List ℕ). zeros (next - len) ++ drop b us) (append_assoc (drop len (take next xs)) (take len xs) (drop a xs))
    ∙ ap (λ (us : List ℕ). zeros (next - len) ++ us) (drop_at (drop len (take next xs)) (take len xs ++ drop a xs) b size)
    ∙ ap (λ (i : ℕ). zeros (next - len) ++ (take len xs ++ drop i xs)) ea
    ∙ sym (append_assoc (zeros (next - len)) (take len xs) (drop next xs))

-- the lists of stores do not pass their limits

pub take_within : (n : ℕ) (xs : List ℕ) → length (take n xs) ≤ length xs
take_within n xs = simp length-take (omega arith)

pub last_within : (n : ℕ) (xs : List ℕ) (m : ℕ) → length xs ≤ m → length (last n xs) ≤ min n m
last_within n xs m h = simp length-drop (omega arith)

pub array_within : (n : ℕ) (xs : List ℕ) (m : ℕ) → length xs ≡ m → length (last n xs) ≤ m
array_within n xs m e = simp length-drop (omega arith)

-- bytes put in front of the rest, one run after another
pub front_front : (m n : ℕ) (xs : List ℕ) → front m (front n xs) ≡ front (m + n) xs
front_front m n xs =
    let long = length_front n xs in
    let cut : length (front n xs) - m ≡ length xs - (m + n) = omega arith in
    ap (λ (k : ℕ). take k (front n xs)) cut ∙ take-take (length xs - (m + n)) (length xs - n) xs (omega arith)

-- growth of which the last k bytes are then taken
pub front_unspent : (k : ℕ) (xs old after : List ℕ) → k ≤ length xs → xs ≡ raised (length xs) old → after ≡ front k xs
    → after ≡ unspent (length after) k old
front_unspent k xs old after h grown is =
    let size : length after ≡ length xs - k = ap length is ∙ length_front k xs in
    let whole : length xs ≡ length after + k = omega arith in
    is ∙ ap (λ (n : ℕ). take n xs) (sym size) ∙ ap (take (length after)) (grown ∙ ap (λ (n : ℕ). raised n old) whole)

-- the last n bytes without the first `count` of them
pub drop_last : (n count m : ℕ) (xs : List ℕ) → m ≡ length (last n xs) - min count (length (last n xs)) → last m xs ≡ drop count (last n xs)
drop_last n count m xs e =
    let long = length_last n xs in
    elim (cases_lt (length (last n xs)) count) as (λ _. last m xs ≡ drop count (last n xs)) [
      | inl h ↦ drop_all (length xs - m) xs (omega arith) ∙ sym (drop_all count (last n xs) (omega arith))
      | inr h ↦ (
          let same : length xs - m ≡ length xs - n + count = omega arith in
          ap (λ (k : ℕ). drop k xs) same ∙ sym (drop-drop count (length xs - n) xs))
    ]

-- a part of zero bytes, as the checker reads it
pub part_zeros : (from count size n : ℕ) → from + count ≤ size → count ≡ n → take count (drop from (zeros size)) ≡ zeros n
part_zeros from count size n h e =
    let more = size - from - count in
    let all : size - from ≡ count + more = omega arith in
    ap (take count) (drop-replicate from size 0 ∙ ap zeros all ∙ sym (replicate-append-replicate count more 0))
    ∙ take_at (zeros count) (zeros more) count (length-replicate count 0)
    ∙ ap zeros e
