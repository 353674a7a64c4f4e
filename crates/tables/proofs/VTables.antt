-- Laws of a vtable's length and words.
use Rattle.std.proofs.Common.{◌≡◌, ℕ, zero, suc, ◌+◌, ◌-◌, ◌*◌, ◌/◌, ◌%◌, ◌<◌, ◌≤◌, max, Bool, true, false, cond, ◌&&◌, eqb, leb, List, [], ◌∷◌, ◌++◌, length, get_or, take, drop, Some, None, Option, sym, refl, ap, ◌∙◌, subst, ⊎_elim, arith, length-append}
use Rattle.std.proofs.lemmas.List.{drop_at, take_more, take_all}
use Rattle.std.proofs.lemmas.Bool.{and_parts, cases_eq, cond-true, cond-false, eq-eqb, ne_eqb, eqb-true, leb-true}
use Rattle.wire.specs.Bytes.{written, zeros}
use Rattle.wire.specs.Slots.{slot_stands}
use Rattle.wire.specs.Words.{le}
use Rattle.wire.proofs.Lists.{written_append}
use Rattle.model.specs.declared.field_loc.FieldLoc.{FieldLoc}
use Rattle.model.specs.Tables.{distance, lookup, slot_words, vtable_bytes, vtable_length}
use Rattle.tables.specs.Records.{none, Once, Slots}
use Rattle.tables.specs.Fields.{fields}
use Rattle.tables.specs.Writing.{vtable_of}
use Rattle.tables.specs.declared.vtable_writer.VTableWriter.{VTableWriter}
use Rattle.tables.proofs.Places.{lookup_before}

-- ---- its length

vtable_length_push : (rs : List FieldLoc) (r : FieldLoc) → vtable_length (rs ++ r ∷ []) ≡ max (vtable_length rs) (r.id + 2)
vtable_length_push [] r = omega arith
vtable_length_push (x ∷ rs) r = omega (arith, vtable_length_push rs r)

pub length_more : (xs : List FieldLoc) (i : ℕ) → i < length xs → vtable_length (take (i + 1) xs) ≡ max (vtable_length (take i xs)) ((get_or xs i none).id + 2)
length_more xs i h = ap vtable_length (take_more xs i none h) ∙ vtable_length_push (take i xs) (get_or xs i none)

slot_parts : (s : ℕ) → slot_stands s ≡ true → (s % 2 ≡ 0) × (4 ≤ s) × (s ≤ 65532)
slot_parts s h =
    let p = and_parts (eqb (s % 2) 0) (leb 4 s && leb s 65532) h in
    let q = and_parts (leb 4 s) (leb s 65532) p.1 in
    (eqb-true (s % 2) 0 p.0, leb-true 4 s q.0, leb-true s 65532 q.1)

pub len_bounds : (rs : List FieldLoc) → Slots rs → (4 ≤ vtable_length rs) × (vtable_length rs ≤ 65534) × (vtable_length rs % 2 ≡ 0)
len_bounds [] h = (omega arith, omega arith, refl)
len_bounds (r ∷ rs) h =
    let here = slot_parts r.id (h 0 (omega arith)) in
    let rest = len_bounds rs (λ j l. h (suc j) (omega arith)) in
    (omega arith, omega arith, omega arith)

slot_below : (rs : List FieldLoc) (j : ℕ) → j < length rs → (get_or rs j none).id + 2 ≤ vtable_length rs
slot_below [] j h = absurd (omega arith)
slot_below (r ∷ rs) zero h = omega arith
slot_below (r ∷ rs) (suc j) h = let e = slot_below rs j (omega arith) in omega arith

length_words : (t : ℕ) (ls : List FieldLoc) (s n : ℕ) → length (slot_words t ls s n) ≡ 2 * n
length_words t ls s zero = refl
length_words t ls s (suc n) = let e = length_words t ls (s + 2) n in omega arith

length_vtable : (t size : ℕ) (ls : List FieldLoc) → Slots ls → length (vtable_bytes t size ls) ≡ vtable_length ls
length_vtable t size ls slots =
    let e = length_words t ls 4 ((vtable_length ls - 4) / 2) in
    let b = len_bounds ls slots in
    omega arith

-- the vtable that is written is as long as its writer says, and its length is even
pub writer_bounds : (w : VTableWriter) → (w.len ≡ length (vtable_of w)) × (4 ≤ w.len) × (w.len ≤ 65534) × (w.len % 2 ≡ 0)
writer_bounds w =
    let slots = w.field_locs.now.slots in
    let b = len_bounds (fields w.field_locs.now) slots in
    let e = w.long in
    (e ∙ sym (length_vtable w.table w.size (fields w.field_locs.now) slots), omega arith, omega arith, ap (λ (n : ℕ). n % 2) e ∙ b.2)

-- ---- its bytes

-- the low or the high byte of a word of two, for an even or an odd place
abbrev pub part : ℕ → ℕ → ℕ
part w i = cond (eqb (i % 2) 0) (w % 256) (w / 256 % 256)

pub part_of : (w i : ℕ) (bs rest : List ℕ) → bs ≡ w % 256 ∷ w / 256 % 256 ∷ rest → get_or bs (i % 2) 0 ≡ part w i
part_of w i bs rest e = ap (λ (xs : List ℕ). get_or xs (i % 2) 0) e ∙ by (i % 2) (omega arith)
  where
    by : (k : ℕ) → k < 2 → get_or (w % 256 ∷ w / 256 % 256 ∷ rest) k 0 ≡ cond (eqb k 0) (w % 256) (w / 256 % 256)
    by zero h = refl
    by (suc zero) h = refl
    by (suc (suc k)) h = absurd (omega arith)

part_on : (w j : ℕ) → part w j ≡ part w (suc (suc j))
part_on w j = let e : j % 2 ≡ suc (suc j) % 2 = omega arith in ap (λ (k : ℕ). cond (eqb k 0) (w % 256) (w / 256 % 256)) e

words_at : (t : ℕ) (ls : List FieldLoc) (s n j q : ℕ) → j < 2 * n → q ≡ s + j / 2 * 2 → get_or (slot_words t ls s n) j 0 ≡ part (distance t (lookup q ls)) j
words_at t ls s zero j q h e = absurd (omega arith)
words_at t ls s (suc n) zero q h e = let same : s ≡ q = omega arith in ap (λ (k : ℕ). distance t (lookup k ls) % 256) same
words_at t ls s (suc n) (suc zero) q h e = let same : s ≡ q = omega arith in ap (λ (k : ℕ). distance t (lookup k ls) / 256 % 256) same
words_at t ls s (suc n) (suc (suc j)) q h e = words_at t ls (s + 2) n j q (omega arith) (omega arith) ∙ part_on (distance t (lookup q ls)) j

pub vtable_at : (t size : ℕ) (ls : List FieldLoc) (i w : ℕ) → Slots ls → i < vtable_length ls → (i < 2 → w ≡ vtable_length ls) → (2 ≤ i → i < 4 → w ≡ size) → (4 ≤ i → w ≡ distance t (lookup (i / 2 * 2) ls))
    → part w i ≡ get_or (vtable_bytes t size ls) i 0
vtable_at t size ls zero w slots l a b d = ap (λ (k : ℕ). k % 256) (a (omega arith))
vtable_at t size ls (suc zero) w slots l a b d = ap (λ (k : ℕ). k / 256 % 256) (a (omega arith))
vtable_at t size ls (suc (suc zero)) w slots l a b d = ap (λ (k : ℕ). k % 256) (b (omega arith) (omega arith))
vtable_at t size ls (suc (suc (suc zero))) w slots l a b d = ap (λ (k : ℕ). k / 256 % 256) (b (omega arith) (omega arith))
vtable_at t size ls (suc (suc (suc (suc j)))) w slots l a b d =
    let q = suc (suc (suc (suc j))) / 2 * 2 in
    let n = (vtable_length ls - 4) / 2 in
    let long = len_bounds ls slots in
    ap (λ (k : ℕ). part k (suc (suc (suc (suc j))))) (d (omega arith))
    ∙ sym (words_at t ls 4 n j q (omega arith) (omega arith) ∙ part_on (distance t (lookup q ls)) j ∙ part_on (distance t (lookup q ls)) (suc (suc j)))

-- ---- one more record's word

lookup_other : (ls : List FieldLoc) (r : FieldLoc) (s : ℕ) → (s ≡ r.id → ⊥) → lookup s (ls ++ r ∷ []) ≡ lookup s ls
lookup_other [] r s ne = cond-false (eqb s r.id) (Some r.off) None (ne_eqb s r.id ne)
lookup_other (x ∷ ls) r s ne = ap (cond (eqb s x.id) (Some x.off)) (lookup_other ls r s ne)

lookup_new : (ls : List FieldLoc) (r : FieldLoc) (s : ℕ) → s ≡ r.id → lookup s ls ≡ None → lookup s (ls ++ r ∷ []) ≡ Some r.off
lookup_new [] r s e f = cond-true (eqb s r.id) (Some r.off) None (eq-eqb s r.id e)
lookup_new (x ∷ ls) r s e f = by (eqb s x.id) (lookup s ls) (lookup s (ls ++ r ∷ [])) f (lookup_new ls r s e)
  where
    by : (b : Bool) (m m' : Option ℕ) → cond b (Some x.off) m ≡ None → (m ≡ None → m' ≡ Some r.off) → cond b (Some x.off) m' ≡ Some r.off
    by true m m' is rest = let z : ◌≡◌ {A = ℕ} 0 1 = cc in absurd (omega arith)
    by false m m' is rest = rest is

words_past : (t : ℕ) (ls : List FieldLoc) (r : FieldLoc) (s n : ℕ) → r.id < s → slot_words t (ls ++ r ∷ []) s n ≡ slot_words t ls s n
words_past t ls r s zero h = refl
words_past t ls r s (suc n) h =
    ap (λ (o : Option ℕ). le 2 (distance t o) ++ slot_words t (ls ++ r ∷ []) (s + 2) n) (lookup_other ls r s (λ e. omega arith))
    ∙ ap (λ (ws : List ℕ). le 2 (distance t (lookup s ls)) ++ ws) (words_past t ls r (s + 2) n (omega arith))

written_past : (a b : ℕ) (xs ys : List ℕ) (j i : ℕ) → i ≡ suc (suc j) → written (a ∷ b ∷ xs) i ys ≡ a ∷ b ∷ written xs j ys
written_past a b xs ys j i e =
    let far : i + length ys ≡ suc (suc (j + length ys)) = omega arith in
    ap (λ (k : ℕ). take k (a ∷ b ∷ xs) ++ (ys ++ drop (i + length ys) (a ∷ b ∷ xs))) e
    ∙ ap (λ (k : ℕ). take (suc (suc j)) (a ∷ b ∷ xs) ++ (ys ++ drop k (a ∷ b ∷ xs))) far

words_more : (t : ℕ) (ls : List FieldLoc) (r : FieldLoc) (s n : ℕ) → lookup r.id ls ≡ None → r.id % 2 ≡ 0 → s % 2 ≡ 0 → s ≤ r.id → r.id + 2 ≤ s + 2 * n
    → slot_words t (ls ++ r ∷ []) s n ≡ written (slot_words t ls s n) (r.id - s) (le 2 (t - r.off))
words_more t ls r s zero new even start low high = absurd (omega arith)
words_more t ls r s (suc n) new even start low high =
    let d = distance t (lookup s ls) in
    let ws = slot_words t ls (s + 2) n in
    ⊎_elim
    (λ (e : s ≡ r.id).
    let none : r.id - s ≡ 0 = omega arith in
    ap (λ (o : Option ℕ). le 2 (distance t o) ++ slot_words t (ls ++ r ∷ []) (s + 2) n) (lookup_new ls r s e (ap (λ (k : ℕ). lookup k ls) e ∙ new))
    ∙ ap (λ (vs : List ℕ). le 2 (t - r.off) ++ vs) (words_past t ls r (s + 2) n (omega arith))
    ∙ ap (λ (k : ℕ). written (le 2 d ++ ws) k (le 2 (t - r.off))) (sym none))
    (λ (ne : s ≡ r.id → ⊥).
    let beyond : s + 2 ≤ r.id = omega arith in
    ap (λ (o : Option ℕ). le 2 (distance t o) ++ slot_words t (ls ++ r ∷ []) (s + 2) n) (lookup_other ls r s ne)
    ∙ ap (λ (vs : List ℕ). le 2 d ++ vs) (words_more t ls r (s + 2) n new even (omega arith) beyond (omega arith))
    ∙ sym (written_past (d % 256) (d / 256 % 256) ws (le 2 (t - r.off)) (r.id - (s + 2)) (r.id - s) (omega arith)))
    (cases_eq s r.id)

-- ---- the vtable while it is written: the words of the first k records

abbrev pub partial : (tab size : ℕ) → List FieldLoc → ℕ → List ℕ
partial t size ls k = le 2 (vtable_length ls) ++ (le 2 size ++ slot_words t (take k ls) 4 ((vtable_length ls - 4) / 2))

length_partial : (t size : ℕ) (ls : List FieldLoc) (k : ℕ) → Slots ls → length (partial t size ls k) ≡ vtable_length ls
length_partial t size ls k slots =
    let e = length_words t (take k ls) 4 ((vtable_length ls - 4) / 2) in
    let b = len_bounds ls slots in
    omega arith

words_none : (t s n m : ℕ) → m ≡ 2 * n → zeros m ≡ slot_words t [] s n
words_none t s zero m e = ap zeros e
words_none t s (suc n) m e =
    let more : m ≡ suc (suc (2 * n)) = omega arith in
    ap zeros more ∙ ap (λ (ws : List ℕ). 0 ∷ 0 ∷ ws) (words_none t (s + 2) n (2 * n) refl)

-- the two words before the slots, over zero bytes
header : (t size : ℕ) (ls : List FieldLoc) (len : ℕ) (us a b c : List ℕ) → Slots ls → len ≡ vtable_length ls → a ≡ zeros len ++ us → b ≡ written a 0 (le 2 len) → c ≡ written b 2 (le 2 size)
    → c ≡ partial t size ls 0 ++ us
header t size ls len us a b c slots el ea eb ec =
    let m = len - 4 in
    let bounds = len_bounds ls slots in
    let n : ℕ = (vtable_length ls - 4) / 2 in
    let four : len ≡ suc (suc (suc (suc m))) = omega arith in
    let twice : m ≡ 2 * n = omega arith in
    let zs : a ≡ 0 ∷ 0 ∷ 0 ∷ 0 ∷ (zeros m ++ us) = ea ∙ ap (λ (k : ℕ). zeros k ++ us) four in
    ec ∙ ap (λ (xs : List ℕ). written xs 2 (le 2 size)) (eb ∙ ap (λ (xs : List ℕ). written xs 0 (le 2 len)) zs)
    ∙ ap (λ (k : ℕ). le 2 k ++ (le 2 size ++ (zeros m ++ us))) el
    ∙ ap (λ (ws : List ℕ). le 2 (vtable_length ls) ++ (le 2 size ++ (ws ++ us))) (words_none t 4 n m twice)

-- one more record
module _ (t size : ℕ) (ls : List FieldLoc) (k : ℕ) (once : Once ls) (slots : Slots ls) (h : k < length ls) where
  abbrev r : FieldLoc
  r = get_or ls k none

  partial_more : partial t size ls (k + 1) ≡ written (partial t size ls k) r.id (le 2 (t - r.off))
  partial_more =
      let n = (vtable_length ls - 4) / 2 in
      let L = vtable_length ls in
      let ws = slot_words t (take k ls) 4 n in
      let p = slot_parts r.id (slots k h) in
      let b = len_bounds ls slots in
      let below = slot_below ls k h in
      let new : lookup r.id (take k ls) ≡ None = lookup_before ls r.id k (let e = once k h in omega arith) in
      ap (λ (rs : List FieldLoc). le 2 L ++ (le 2 size ++ slot_words t rs 4 n)) (take_more ls k none h)
      ∙ ap (λ (vs : List ℕ). le 2 L ++ (le 2 size ++ vs)) (words_more t (take k ls) r 4 n new p.0 refl p.1 (omega arith))
      ∙ ap (λ (vs : List ℕ). le 2 L ++ vs) (sym (written_past (size % 256) (size / 256 % 256) ws (le 2 (t - r.off)) (r.id - 4) (r.id - 2) (omega arith)))
      ∙ sym (written_past (L % 256) (L / 256 % 256) (le 2 size ++ ws) (le 2 (t - r.off)) (r.id - 2) r.id (omega arith))

  record_done : (d : ℕ) (ys zs us : List ℕ) → d ≡ t - r.off → ys ≡ partial t size ls k ++ us → zs ≡ written ys r.id (le 2 d) → zs ≡ partial t size ls (k + 1) ++ us
  record_done d ys zs us ed ey ez =
      let long = length_partial t size ls k slots in
      let below = slot_below ls k h in
      ez ∙ ap (λ (w : ℕ). written ys r.id (le 2 w)) ed
      ∙ ap (λ (vs : List ℕ). written vs r.id (le 2 (t - r.off))) ey
      ∙ written_append (partial t size ls k) us r.id (le 2 (t - r.off)) (omega arith)
      ∙ ap (λ (vs : List ℕ). vs ++ us) (sym partial_more)

partial_all : (t size : ℕ) (ls : List FieldLoc) (k : ℕ) → length ls ≤ k → partial t size ls k ≡ vtable_bytes t size ls
partial_all t size ls k h =
    ap (λ (rs : List FieldLoc). le 2 (vtable_length ls) ++ (le 2 size ++ slot_words t rs 4 ((vtable_length ls - 4) / 2))) (take_all k ls h)

-- ---- the steps of writing the vtable of w, from its records as a slice lends them

module _ (w : VTableWriter) (ls : List FieldLoc) (lent : ls ≡ fields w.field_locs.now) where
  slots : Slots ls
  slots = subst Slots (sym lent) w.field_locs.now.slots

  abbrev so_far : ℕ → List ℕ
  so_far k = partial w.table w.size ls k

  pub started : (us a b c : List ℕ) → a ≡ zeros w.len ++ us → b ≡ written a 0 (le 2 w.len) → c ≡ written b 2 (le 2 w.size)
      → (c ≡ so_far 0 ++ drop (vtable_length ls) c) × (drop (vtable_length ls) c ≡ us)
  started us a b c ea eb ec =
      let head = header w.table w.size ls w.len us a b c slots (w.long ∙ ap vtable_length (sym lent)) ea eb ec in
      let tail = ap (drop (vtable_length ls)) head ∙ drop_at (so_far 0) us (vtable_length ls) (length_partial w.table w.size ls 0 slots) in
      (head ∙ ap (λ (vs : List ℕ). so_far 0 ++ vs) (sym tail), tail)

  pub slot_fits : (k : ℕ) (ys us : List ℕ) → k < length ls → ys ≡ so_far k ++ us → (get_or ls k none).id + 2 ≤ length ys
  slot_fits k ys us h e =
      omega (arith, length_partial w.table w.size ls k slots, slot_below ls k h, ap length e ∙ length-append (so_far k) us)

  pub one_more : (k d : ℕ) (ys zs us : List ℕ) → k < length ls → d ≡ w.table - (get_or ls k none).off → ys ≡ so_far k ++ us → zs ≡ written ys (get_or ls k none).id (le 2 d)
      → zs ≡ so_far (k + 1) ++ us
  one_more k d ys zs us h = record_done w.table w.size ls k (subst Once (sym lent) w.field_locs.now.once) slots h d ys zs us

  pub written_all : (k : ℕ) → length ls ≤ k → so_far k ≡ vtable_of w
  written_all k h = partial_all w.table w.size ls k h ∙ ap (vtable_bytes w.table w.size) lent
