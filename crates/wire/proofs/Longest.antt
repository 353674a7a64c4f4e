-- No longer prefix than the walk's is the UTF-8 of characters.
use Rattle.std.proofs.Common.{◌≡◌, ℕ, suc, ◌+◌, ◌/◌, ◌%◌, ◌<◌, ◌≤◌, true, ltb, ◌⊎◌, List, [], ◌∷◌, ◌++◌, length, take, drop, IsUtf8, sym, refl, ap, ◌∙◌, subst, inl, inr, ⊎_elim, append_assoc, arith, length-append, take-append-drop, length-take}
use lib.Utf8.{scalar, scalars, next, encode, encodes, scalar_cases}
use Rattle.std.specs.Str.{IsValidUpTo}
use Rattle.std.proofs.lemmas.Bool.Decides.{nat_tests}
use Rattle.std.proofs.lemmas.List.{take_all}
use Rattle.std.proofs.lemmas.Str.{encode_ascii}
use Rattle.wire.specs.Utf8.{within, following, least, most, walk, longest_prefix}
use Rattle.std.proofs.lemmas.Bool.{cond-true, lt-ltb, cases_lt, and_parts}
use Rattle.wire.proofs.Walk.{free, within_yes}
use Rattle.wire.proofs.WellFormed.{two, three, four, Second, lead, following_one, following_two, following_three, onward, longest_short, utf8_longest}

least_is : (b y : ℕ) → Second b y → least b ≤ y
least_is b y s = grind (arith, nat_tests)

most_is : (b y : ℕ) → Second b y → y ≤ most b
most_is b y s = grind (arith, nat_tests)

second_step : (b y n at : ℕ) (bs : List ℕ) → Second b y → 0x80 ≤ b → following b ≡ suc n → walk 0 0 0 0 at (b ∷ y ∷ bs) ≡ walk n 0x80 0xBF at (at + 1 + 1) bs
second_step b y n at bs s h f =
    sym (lead b n at _ (y ∷ bs) h f refl) ∙ cond-true (within (least b) (most b) y) _ _ (within_yes (least b) (most b) y (least_is b y s) (most_is b y s))

more_step : (n z ended at : ℕ) (bs : List ℕ) → z < 64 → walk (suc n) 0x80 0xBF ended at ((128 + z) ∷ bs) ≡ walk n 0x80 0xBF ended (at + 1) bs
more_step n z ended at bs h = grind (arith, nat_tests)

-- a walk goes past a character
passes : (c at : ℕ) (rest : List ℕ) → scalar c ≡ true → walk 0 0 0 0 at (encode c ++ rest) ≡ walk 0 0 0 0 (at + length (encode c)) rest
passes c at rest s =
    let sc = scalar_cases c s in
    ⊎_elim
    (λ h. ap (λ l. walk 0 0 0 0 at (l ++ rest)) (encode_ascii c h) ∙ cond-true (ltb c 0x80) _ _ (lt-ltb c 0x80 h) ∙ free 0 0 at 0 0 0 (at + 1) rest
    ∙ ap (λ l. walk 0 0 0 0 (at + length l) rest) (sym (encode_ascii c h)))
    (λ g. ⊎_elim
    (λ h.
    let b = 192 + c / 64 in
    let y = 128 + c % 64 in
    let t : Second b y = record { low = omega arith; high = omega arith; at_E0 = λ e. omega arith; at_F0 = λ e. omega arith; at_ED = λ e. omega arith; at_F4 = λ e. omega arith } in
    ap (λ l. walk 0 0 0 0 at (l ++ rest)) (two c g h) ∙ second_step b y 0 at rest t (omega arith) (following_one b (omega arith) (omega arith))
    ∙ free 0x80 0xBF at 0 0 0 (at + 1 + 1) rest ∙ ap (λ (n : ℕ). walk 0 0 0 0 n rest) (omega arith) ∙ ap (λ l. walk 0 0 0 0 (at + length l) rest) (sym (two c g h)))
    (λ g2. ⊎_elim
    (λ h.
    let b = 224 + c / 4096 in
    let y = 128 + (c / 64) % 64 in
    let low_or_high : (c < 55296) ⊎ (57344 ≤ c) = ⊎_elim inl (λ p. inr p.0) sc in
    let t : Second b y = record { low = omega arith; high = omega arith; at_E0 = λ e. omega arith; at_F0 = λ e. omega arith; at_ED = λ e. ⊎_elim (λ p. omega arith) (λ p. omega arith) low_or_high; at_F4 = λ e. omega arith } in
    ap (λ l. walk 0 0 0 0 at (l ++ rest)) (three c g2 h) ∙ second_step b y 1 at (next c ∷ rest) t (omega arith) (following_two b (omega arith) (omega arith))
    ∙ more_step 0 (c % 64) at (at + 1 + 1) rest (omega arith)
    ∙ free 0x80 0xBF at 0 0 0 (at + 1 + 1 + 1) rest ∙ ap (λ (n : ℕ). walk 0 0 0 0 n rest) (omega arith) ∙ ap (λ l. walk 0 0 0 0 (at + length l) rest) (sym (three c g2 h)))
    (λ g3.
    let b = 240 + c / 262144 in
    let y = 128 + (c / 4096) % 64 in
    let high : c < 1114112 = ⊎_elim (λ p. omega arith) (λ p. p.1) sc in
    let t : Second b y = record { low = omega arith; high = omega arith; at_E0 = λ e. omega arith; at_F0 = λ e. omega arith; at_ED = λ e. omega arith; at_F4 = λ e. omega arith } in
    ap (λ l. walk 0 0 0 0 at (l ++ rest)) (four c g3) ∙ second_step b y 2 at (next (c / 64) ∷ next c ∷ rest) t (omega arith) (following_three b (omega arith) (omega arith))
    ∙ more_step 1 ((c / 64) % 64) at (at + 1 + 1) (next c ∷ rest) (omega arith) ∙ more_step 0 (c % 64) at (at + 1 + 1 + 1) rest (omega arith)
    ∙ free 0x80 0xBF at 0 0 0 (at + 1 + 1 + 1 + 1) rest ∙ ap (λ (n : ℕ). walk 0 0 0 0 n rest) (omega arith) ∙ ap (λ l. walk 0 0 0 0 (at + length l) rest) (sym (four c g3)))
    (cases_lt c 65536))
    (cases_lt c 2048))
    (cases_lt c 128)

passes_all : (cs : List ℕ) (at : ℕ) (rest : List ℕ) → scalars cs ≡ true → walk 0 0 0 0 at (encodes cs ++ rest) ≡ walk 0 0 0 0 (at + length (encodes cs)) rest
passes_all [] at rest s = ap (λ (n : ℕ). walk 0 0 0 0 n rest) (omega arith)
passes_all (c ∷ cs) at rest s =
    let t = and_parts (scalar c) (scalars cs) s in
    ap (walk 0 0 0 0 at) (append_assoc (encode c) (encodes cs) rest) ∙ passes c at (encodes cs ++ rest) t.0 ∙ passes_all cs (at + length (encode c)) rest t.1
    ∙ ap (λ (n : ℕ). walk 0 0 0 0 n rest) (let e = length-append (encode c) (encodes cs) in omega arith)

-- a prefix that is UTF-8 is no longer than the longest
pub longest : (bs : List ℕ) (m : ℕ) → m ≤ length bs → IsUtf8 (take m bs) → m ≤ longest_prefix bs
unfolding longest_prefix
longest bs m h u =
    let cs = u.0 in
    let e : encodes cs ≡ take m bs = u.1.1 in
    let n : length (encodes cs) ≡ m = ap length e ∙ length-take m bs ∙ omega arith in
    let w : walk 0 0 0 0 0 bs ≡ walk 0 0 0 0 (0 + length (encodes cs)) (drop m bs) =
    ap (walk 0 0 0 0 0) (sym (take-append-drop m bs) ∙ ap (λ l. l ++ drop m bs) (sym e)) ∙ passes_all cs 0 (drop m bs) u.1.0 in
    let k = 0 + length (encodes cs) in
    let o : k ≤ walk 0 0 0 0 k (drop m bs) = subst (λ (x : ℕ). k ≤ x) (free 0 0 k 0 0 0 k (drop m bs)) (onward 0 0 0 k k (drop m bs) (omega arith)) in
    omega (arith, w, o, n)

-- so it is where the library's check of text stops
pub at_error : (bs : List ℕ) (n m : ℕ) → IsValidUpTo bs n → m ≤ length bs → IsUtf8 (take m bs) → m ≤ n
at_error bs n m v h u = ⊎_elim (λ l. absurd (v.longest m l u)) (λ l. l) (cases_lt n m)

pub longest_at_error : (bs : List ℕ) (n : ℕ) → IsValidUpTo bs n → n ≡ longest_prefix bs
longest_at_error bs n v =
    omega (arith, v.short, longest bs n (omega (arith, v.short)) v.front, at_error bs n (longest_prefix bs) v (longest_short bs) (utf8_longest bs))

-- and of a text it is all
pub longest_whole : (bs : List ℕ) → IsUtf8 bs → length bs ≡ longest_prefix bs
longest_whole bs u = omega (arith, longest bs (length bs) (omega arith) (subst IsUtf8 (sym (take_all (length bs) bs (omega arith))) u), longest_short bs)
