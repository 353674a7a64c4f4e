-- Bytes that are well-formed by table 3-7 are the UTF-8 of characters.
use Rattle.std.proofs.Common.{◌≡◌, ℕ, zero, suc, ◌+◌, ◌-◌, ◌*◌, ◌/◌, ◌<◌, ◌≤◌, true, eqb, ltb, ◌⊎◌, List, [], ◌∷◌, ◌++◌, length, take, IsUtf8, sym, refl, ap, ◌∙◌, subst, inl, inr, ⊎_elim, arith, length-append}
use lib.Utf8.{scalar, next, encode, low_scalar}
use lib.Seq.{take-append-add}
use Rattle.std.proofs.lemmas.List.{take_all}
use Rattle.std.proofs.lemmas.Str.{encode_ascii, IsUtf8-append, IsUtf8-nil, IsUtf8-encode}
use Rattle.std.proofs.lemmas.Bool.Decides.{nat_tests}
use Rattle.wire.specs.Utf8.{within, following, least, most, walk, longest_prefix, well_formed}
use Rattle.std.proofs.lemmas.Bool.{cond-true, cond-false, lt-ltb, le-ltb, ne_eqb, cases_lt, cases_Bool, cond_both}
use Rattle.wire.proofs.Walk.{free}

-- ---- the bytes of a character, by its range

pub two : (c : ℕ) → 128 ≤ c → c < 2048 → encode c ≡ (192 + c / 64) ∷ next c ∷ []
unfolding encode
two c l h = grind (arith, nat_tests)

pub three : (c : ℕ) → 2048 ≤ c → c < 65536 → encode c ≡ (224 + c / 4096) ∷ next (c / 64) ∷ next c ∷ []
unfolding encode
three c l h = grind (arith, nat_tests)

pub four : (c : ℕ) → 65536 ≤ c → encode c ≡ (240 + c / 262144) ∷ next (c / 4096) ∷ next (c / 64) ∷ next c ∷ []
unfolding encode
four c l = grind (arith, nat_tests)

high_scalar : (c : ℕ) → 57344 ≤ c → c < 1114112 → scalar c ≡ true
high_scalar c l u = grind (arith, nat_tests)

a_char : (l : List ℕ) (c : ℕ) → scalar c ≡ true → l ≡ encode c → IsUtf8 l
a_char l c s e = subst IsUtf8 (sym e) (IsUtf8-encode c s)

-- ---- the rows of the table

pub record Second (b y : ℕ) : Type 0 where
  pub low : 0x80 ≤ y
  pub high : y ≤ 0xBF
  pub at_E0 : b ≡ 0xE0 → 0xA0 ≤ y
  pub at_F0 : b ≡ 0xF0 → 0x90 ≤ y
  pub at_ED : b ≡ 0xED → y ≤ 0x9F
  pub at_F4 : b ≡ 0xF4 → y ≤ 0x8F

within_tells : (lo hi y : ℕ) → within lo hi y ≡ true → (lo ≤ y) × (y ≤ hi)
within_tells lo hi y h = (grind (arith, nat_tests), grind (arith, nat_tests))

pub second : (b y : ℕ) → within (least b) (most b) y ≡ true → Second b y
second b y h =
    let l = (within_tells (least b) (most b) y h).0 in
    let m = (within_tells (least b) (most b) y h).1 in
    record {
      low = grind (arith, nat_tests);
      high = grind (arith, nat_tests);
      at_E0 = λ e. grind (arith, nat_tests);
      at_F0 = λ e. grind (arith, nat_tests);
      at_ED = λ e. grind (arith, nat_tests);
      at_F4 = λ e. grind (arith, nat_tests);
    }

of_two : (b y : ℕ) → 0xC2 ≤ b → b < 0xE0 → 0x80 ≤ y → y ≤ 0xBF → IsUtf8 (b ∷ y ∷ [])
of_two b y l h f g =
    let c = (b - 192) * 64 + (y - 128) in
    let p : b ≡ 192 + c / 64 = omega arith in
    let q : y ≡ next c = omega arith in
    a_char _ c (low_scalar c (omega arith)) ((λ k. p k ∷ q k ∷ []) ∙ sym (two c (omega arith) (omega arith)))

three_bytes : (b y z : ℕ) → 0xE0 ≤ b → b < 0xF0 → 0x80 ≤ y → y ≤ 0xBF → 0x80 ≤ z → z ≤ 0xBF
    → let c = (b - 224) * 4096 + (y - 128) * 64 + (z - 128) in 2048 ≤ c → (c < 55296) ⊎ (57344 ≤ c) → IsUtf8 (b ∷ y ∷ z ∷ [])
three_bytes b y z l h ylo yhi f g lo s =
    let c = (b - 224) * 4096 + (y - 128) * 64 + (z - 128) in
    let p : b ≡ 224 + c / 4096 = omega arith in
    let e : c / 64 ≡ (b - 224) * 64 + (y - 128) = omega arith in
    let q : y ≡ next (c / 64) = subst (λ (m : ℕ). y ≡ next m) (sym e) (omega arith) in
    let r : z ≡ next c = omega arith in
    a_char _ c (⊎_elim (low_scalar c) (λ u. high_scalar c u (omega arith)) s) ((λ k. p k ∷ q k ∷ r k ∷ []) ∙ sym (three c lo (omega arith)))

four_bytes : (b y z w : ℕ) → 0xF0 ≤ b → b < 0xF5 → 0x80 ≤ y → y ≤ 0xBF → 0x80 ≤ z → z ≤ 0xBF → 0x80 ≤ w → w ≤ 0xBF
    → let c = (b - 240) * 262144 + (y - 128) * 4096 + (z - 128) * 64 + (w - 128) in 65536 ≤ c → c < 1114112 → IsUtf8 (b ∷ y ∷ z ∷ w ∷ [])
four_bytes b y z w l h ylo yhi f g f' g' lo hi =
    let c = (b - 240) * 262144 + (y - 128) * 4096 + (z - 128) * 64 + (w - 128) in
    let p : b ≡ 240 + c / 262144 = omega arith in
    let d : c / 4096 ≡ (b - 240) * 64 + (y - 128) = omega arith in
    let q : y ≡ next (c / 4096) = subst (λ (m : ℕ). y ≡ next m) (sym d) (omega arith) in
    let e : c / 64 ≡ (b - 240) * 4096 + (y - 128) * 64 + (z - 128) = omega arith in
    let r : z ≡ next (c / 64) = subst (λ (m : ℕ). z ≡ next m) (sym e) (omega arith) in
    let t : w ≡ next c = omega arith in
    a_char _ c (high_scalar c (omega arith) hi) ((λ k. p k ∷ q k ∷ r k ∷ t k ∷ []) ∙ sym (four c lo))

of_three : (b y z : ℕ) → 0xE0 ≤ b → b < 0xF0 → Second b y → 0x80 ≤ z → z ≤ 0xBF → IsUtf8 (b ∷ y ∷ z ∷ [])
of_three b y z l h s f g = three_bytes b y z l h s.low s.high f g (grind arith) (grind arith)

of_four : (b y z w : ℕ) → 0xF0 ≤ b → b < 0xF5 → Second b y → 0x80 ≤ z → z ≤ 0xBF → 0x80 ≤ w → w ≤ 0xBF → IsUtf8 (b ∷ y ∷ z ∷ w ∷ [])
of_four b y z w l h s f g f' g' = four_bytes b y z w l h s.low s.high f g f' g' (grind arith) (grind arith)

-- ---- a walk that comes to the end

record Ahead (n lo hi ended at k : ℕ) (bs : List ℕ) : Type 0 where
  first : ℕ
  rest : List ℕ
  is : bs ≡ first ∷ rest
  fits : within lo hi first ≡ true
  goes : walk n 0x80 0xBF ended (at + 1) rest ≡ k

ahead : (n lo hi ended at k : ℕ) (bs : List ℕ) → ended < k → walk (suc n) lo hi ended at bs ≡ k → Ahead n lo hi ended at k bs
ahead n lo hi ended at k [] h e = absurd (omega arith)
ahead n lo hi ended at k (y ∷ rest) h e =
    ⊎_elim
    (λ t. record { first = y; rest = rest; is = refl; fits = t; goes = sym (cond-true (within lo hi y) _ _ t) ∙ e })
    (λ t. let f = sym (cond-false (within lo hi y) (walk n 0x80 0xBF ended (at + 1) rest) ended t) ∙ e in absurd (omega arith))
    (cases_Bool (within lo hi y))

-- how many bytes follow a first byte, row by row
pub following_one : (b : ℕ) → 0xC2 ≤ b → b < 0xE0 → following b ≡ 1
following_one b l h = grind (arith, nat_tests)

pub following_two : (b : ℕ) → 0xE0 ≤ b → b < 0xF0 → following b ≡ 2
following_two b l h = grind (arith, nat_tests)

pub following_three : (b : ℕ) → 0xF0 ≤ b → b < 0xF5 → following b ≡ 3
following_three b l h = grind (arith, nat_tests)

following_none : (b : ℕ) → (b < 0xC2) ⊎ (0xF5 ≤ b) → following b ≡ 0
following_none b s = grind (arith, nat_tests)

data Row (b : ℕ) : Type 0 where
  ascii : b < 0x80 → Row b
  of_1 : 0xC2 ≤ b → b < 0xE0 → Row b
  of_2 : 0xE0 ≤ b → b < 0xF0 → Row b
  of_3 : 0xF0 ≤ b → b < 0xF5 → Row b
  none : 0x80 ≤ b → (b < 0xC2) ⊎ (0xF5 ≤ b) → Row b

row : (b : ℕ) → Row b
row b =
    ⊎_elim ascii
    (λ h. ⊎_elim (λ l. none h (inl l))
    (λ k. ⊎_elim (of_1 k) (λ m. ⊎_elim (of_2 m) (λ n. ⊎_elim (of_3 n) (λ o. none h (inr o)) (cases_lt b 0xF5)) (cases_lt b 0xF0)) (cases_lt b 0xE0))
    (cases_lt b 0xC2))
    (cases_lt b 0x80)

-- from the first byte of a character that is not ASCII
pub lead : (b n at k : ℕ) (bs : List ℕ) → 0x80 ≤ b → following b ≡ suc n → walk 0 0 0 0 at (b ∷ bs) ≡ k → walk (suc n) (least b) (most b) at (at + 1) bs ≡ k
lead b n at k bs h f e =
    (λ i. walk (sym f i) (least b) (most b) at (at + 1) bs)
    ∙ sym (cond-false (ltb b 0x80) _ _ (le-ltb b 0x80 h) ∙ cond-false (eqb (following b) 0) _ _ (ne_eqb (following b) 0 (λ q. omega arith))) ∙ e

-- a walk does not go back behind the last end
pub onward : (n lo hi ended at : ℕ) (bs : List ℕ) → ended ≤ at → ended ≤ walk n lo hi ended at bs
onward zero lo hi ended at [] h = h
onward (suc n) lo hi ended at [] h = omega arith
onward zero lo hi ended at (b ∷ bs) h =
    cond_both (ltb b 0x80) _ _ (λ x. ended ≤ x)
    (λ _. omega (arith, onward 0 0 0 at (at + 1) bs (omega arith)))
    (λ _. cond_both (eqb (following b) 0) _ _ (λ x. ended ≤ x) (λ _. h)
    (λ _. omega (arith, onward (following b) (least b) (most b) at (at + 1) bs (omega arith))))
onward (suc n) lo hi ended at (b ∷ bs) h =
    cond_both (within lo hi b) _ _ (λ x. ended ≤ x) (λ _. onward n 0x80 0xBF ended (at + 1) bs (omega arith)) (λ _. omega arith)

-- where a walk from at ends, and that what it passed is UTF-8
record Front (at : ℕ) (bs : List ℕ) : Type 0 where
  count : ℕ
  ends : walk 0 0 0 0 at bs ≡ at + count
  short : count ≤ length bs
  text : IsUtf8 (take count bs)

-- past a character's bytes
after : (at at' : ℕ) (cs bs rest : List ℕ) → bs ≡ cs ++ rest → at' ≡ at + length cs → IsUtf8 cs → Front at' rest → walk 0 0 0 0 at bs ≡ walk 0 0x80 0xBF at at' rest → Front at bs
after at at' cs bs rest e n u f g = record {
  count = length cs + f.count;
  ends = g ∙ free 0x80 0xBF at 0 0 0 at' rest ∙ f.ends ∙ omega arith;
  short = omega (arith, f.short, ap length e, length-append cs rest);
  text = subst (λ l. IsUtf8 (take (length cs + f.count) l)) (sym e) (subst IsUtf8 (sym (take-append-add cs rest f.count)) (IsUtf8-append cs (take f.count rest) u f.text));
}

stays : (at : ℕ) (bs : List ℕ) → walk 0 0 0 0 at bs ≡ at → Front at bs
stays at bs e = record { count = 0; ends = e ∙ omega arith; short = omega arith; text = IsUtf8-nil }

front : (m at : ℕ) (bs : List ℕ) → length bs ≤ m → Front at bs
front m at [] h = stays at [] refl
front zero at (b ∷ bs) h = absurd (omega arith)
front (suc m) at (b ∷ bs) h =
    let k = walk 0 0 0 0 at (b ∷ bs) in
    let on : at ≤ k = subst (λ (x : ℕ). at ≤ x) (free 0 0 at 0 0 0 at (b ∷ bs)) (onward 0 0 0 at at (b ∷ bs) (omega arith)) in
    ⊎_elim
    (λ further. elim (row b) [
      | ascii l ↦
          after at (at + 1) (b ∷ []) (b ∷ bs) bs refl refl (a_char _ b (low_scalar b (omega arith)) (sym (encode_ascii b l))) (front m (at + 1) bs (omega arith))
          (cond-true (ltb b 0x80) _ _ (lt-ltb b 0x80 l) ∙ free 0 0 at 0x80 0xBF at (at + 1) bs)
      | of_1 l u ↦
          let s = ahead 0 (least b) (most b) at (at + 1) k bs further (lead b 0 at k bs (omega arith) (following_one b l u) refl) in
          let c = second b s.first s.fits in
          after at (at + 1 + 1) (b ∷ s.first ∷ []) (b ∷ bs) s.rest (ap (λ l'. b ∷ l') s.is) (omega arith)
          (of_two b s.first l u c.low c.high) (front m (at + 1 + 1) s.rest (omega (arith, ap length s.is))) (sym s.goes)
      | of_2 l u ↦
          let s = ahead 1 (least b) (most b) at (at + 1) k bs further (lead b 1 at k bs (omega arith) (following_two b l u) refl) in
          let t = ahead 0 0x80 0xBF at (at + 1 + 1) k s.rest further s.goes in
          let c = second b s.first s.fits in
          let d = within_tells 0x80 0xBF t.first t.fits in
          after at (at + 1 + 1 + 1) (b ∷ s.first ∷ t.first ∷ []) (b ∷ bs) t.rest (ap (λ l'. b ∷ l') s.is ∙ ap (λ l'. b ∷ s.first ∷ l') t.is) (omega arith)
          (of_three b s.first t.first l u c d.0 d.1) (front m (at + 1 + 1 + 1) t.rest (omega (arith, ap length s.is, ap length t.is))) (sym t.goes)
      | of_3 l u ↦
          let s = ahead 2 (least b) (most b) at (at + 1) k bs further (lead b 2 at k bs (omega arith) (following_three b l u) refl) in
          let t = ahead 1 0x80 0xBF at (at + 1 + 1) k s.rest further s.goes in
          let v = ahead 0 0x80 0xBF at (at + 1 + 1 + 1) k t.rest further t.goes in
          let c = second b s.first s.fits in
          let d = within_tells 0x80 0xBF t.first t.fits in
          let f = within_tells 0x80 0xBF v.first v.fits in
          after at (at + 1 + 1 + 1 + 1) (b ∷ s.first ∷ t.first ∷ v.first ∷ []) (b ∷ bs) v.rest
          (ap (λ l'. b ∷ l') s.is ∙ ap (λ l'. b ∷ s.first ∷ l') t.is ∙ ap (λ l'. b ∷ s.first ∷ t.first ∷ l') v.is) (omega arith)
          (of_four b s.first t.first v.first l u c d.0 d.1 f.0 f.1)
          (front m (at + 1 + 1 + 1 + 1) v.rest (omega (arith, ap length s.is, ap length t.is, ap length v.is))) (sym v.goes)
      | none l u ↦
          stays at (b ∷ bs) (cond-false (ltb b 0x80) _ _ (le-ltb b 0x80 l) ∙ cond-true (eqb (following b) 0) at (walk (following b) (least b) (most b) at (at + 1) bs) (ap (λ k'. eqb k' 0) (following_none b u)))
    ])
    (λ still. stays at (b ∷ bs) (omega arith))
    (cases_lt at k)

-- the longest prefix is UTF-8
pub utf8_longest : (bs : List ℕ) → IsUtf8 (take (longest_prefix bs) bs)
unfolding longest_prefix
utf8_longest bs =
    let f = front (length bs) 0 bs (omega arith) in
    let e : f.count ≡ walk 0 0 0 0 0 bs = omega (arith, f.ends) in
    subst (λ (n : ℕ). IsUtf8 (take n bs)) e f.text

pub longest_short : (bs : List ℕ) → longest_prefix bs ≤ length bs
unfolding longest_prefix
longest_short bs = let f = front (length bs) 0 bs (omega arith) in omega (arith, f.ends, f.short)

pub utf8_from_well_formed : (bs : List ℕ) → well_formed bs ≡ true → IsUtf8 bs
unfolding well_formed
utf8_from_well_formed bs h =
    let whole : length bs ≤ longest_prefix bs = grind (arith, nat_tests) in
    subst IsUtf8 (take_all (longest_prefix bs) bs whole) (utf8_longest bs)
