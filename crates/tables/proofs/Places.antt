-- Laws of `place_of`, `record_slot` and `lookup`.
use Rattle.std.proofs.Common.{◌≡◌, ℕ, zero, suc, ◌+◌, ◌-◌, ◌<◌, ◌≤◌, Bool, true, false, cond, not, ◌&&◌, eqb, List, [], ◌∷◌, ◌++◌, length, get_or, take, set, is_some, Some, None, Option, option_map, MatchOption, Bor, Ok, Err, Result, is_ok, IsOk, OnOk, OnErr, ◌↔◌, sym, refl, ap, ◌∙◌, subst, ⊎_elim, arith, length-set}
use Rattle.std.specs.List.{find, position, refill}
use Rattle.arrayvec.specs.ArrayVec.{ArrayVec}
use Rattle.std.proofs.lemmas.Bool.{eqb-true, eq-eqb, ne_eqb, cases_lt, cond-true, cond-false, le-leb, lt-leb, false≢true}
use Rattle.std.proofs.lemmas.List.{take_all, take-append-le, length_push, get_or_append_left, get_or_push}
use Rattle.std.proofs.lemmas.List.Folds.{position_or_len-set, position_or_len_push}
use Rattle.std.proofs.lemmas.List.Sums.{prefix_len-le-length}
use Rattle.std.proofs.lemmas.Grind.{common_steps}
use Rattle.std.proofs.lemmas.List.Quantifiers.{position-Some}
use Rattle.model.specs.declared.field_loc.FieldLoc.{FieldLoc}
use Rattle.model.specs.Tables.{distance, lookup, no_room, record_slot}
use Rattle.wire.specs.Slots.{slot_stands}
use Rattle.tables.specs.Records.{none, place_of, Once, Slots}

-- the place among one more record, by whether that is the slot's
place_cons : (r : FieldLoc) (rs : List FieldLoc) (s : ℕ) (P : ℕ → Type 0) → (eqb s r.id ≡ true → P 0) → (eqb s r.id ≡ false → P (suc (place_of rs s))) → P (place_of (r ∷ rs) s)
place_cons r rs s P = by (eqb s r.id)
  where
    by : (b : Bool) → (b ≡ true → P 0) → (b ≡ false → P (suc (place_of rs s))) → P (cond (not b) (1 + place_of rs s) 0)
    by true here there = here refl
    by false here there = let one : suc (place_of rs s) ≡ 1 + place_of rs s = omega arith in subst P one (there refl)

pub recorded_old : (rs : List FieldLoc) (s o : ℕ) → place_of rs s < length rs → record_slot s o rs ≡ set rs (place_of rs s) (record { off = o; id = s })
recorded_old [] s o = λ h. absurd (omega arith)
recorded_old (r ∷ rs) s o =
    place_cons r rs s (λ x. x < suc (length rs) → record_slot s o (r ∷ rs) ≡ set (r ∷ rs) x (record { off = o; id = s }))
    (λ e h. cond-true (eqb s r.id) (record { off = o; id = s } ∷ rs) (r ∷ record_slot s o rs) e)
    (λ e h. cond-false (eqb s r.id) (record { off = o; id = s } ∷ rs) (r ∷ record_slot s o rs) e ∙ ap (λ xs. r ∷ xs) (recorded_old rs s o (omega arith)))

pub recorded_new : (rs : List FieldLoc) (s o : ℕ) → place_of rs s ≡ length rs → record_slot s o rs ≡ rs ++ record { off = o; id = s } ∷ []
recorded_new [] s o = λ h. refl
recorded_new (r ∷ rs) s o =
    place_cons r rs s (λ x. x ≡ suc (length rs) → record_slot s o (r ∷ rs) ≡ (r ∷ rs) ++ record { off = o; id = s } ∷ [])
    (λ e h. absurd (omega arith))
    (λ e h. cond-false (eqb s r.id) (record { off = o; id = s } ∷ rs) (r ∷ record_slot s o rs) e ∙ ap (λ xs. r ∷ xs) (recorded_new rs s o (omega arith)))

-- the offset recorded for a slot stands at its place
pub lookup_found : (rs : List FieldLoc) (s : ℕ) → place_of rs s < length rs → lookup s rs ≡ Some (get_or rs (place_of rs s) none).off
lookup_found [] s = λ h. absurd (omega arith)
lookup_found (r ∷ rs) s =
    place_cons r rs s (λ x. x < suc (length rs) → lookup s (r ∷ rs) ≡ Some (get_or (r ∷ rs) x none).off)
    (λ e h. cond-true (eqb s r.id) (Some r.off) (lookup s rs) e)
    (λ e h. cond-false (eqb s r.id) (Some r.off) (lookup s rs) e ∙ lookup_found rs s (omega arith))

-- nothing is recorded for a slot before its place
pub lookup_before : (rs : List FieldLoc) (s j : ℕ) → j ≤ place_of rs s → lookup s (take j rs) ≡ None
lookup_before rs s zero h = refl
lookup_before [] s (suc j) h = refl
lookup_before (r ∷ rs) s (suc j) h =
    place_cons r rs s (λ x. suc j ≤ x → lookup s (r ∷ take j rs) ≡ None)
    (λ e l. absurd (omega arith))
    (λ e l. cond-false (eqb s r.id) (Some r.off) (lookup s (take j rs)) e ∙ lookup_before rs s j (omega arith)) h

-- the slots of the records stand still
pub slots_new : (rs : List FieldLoc) (w : FieldLoc) → slot_stands w.id ≡ true → Slots rs → Slots (rs ++ w ∷ [])
slots_new [] w e h zero l = e
slots_new [] w e h (suc j) l = absurd (omega arith)
slots_new (r ∷ rs) w e h zero l = h 0 (omega arith)
slots_new (r ∷ rs) w e h (suc j) l = slots_new rs w e (λ k m. h (suc k) (omega arith)) j (omega arith)

-- a record that keeps its slot
same_id : (rs : List FieldLoc) (i : ℕ) (w : FieldLoc) (j : ℕ) → w.id ≡ (get_or rs i none).id → (get_or (set rs i w) j none).id ≡ (get_or rs j none).id
same_id [] i w j e = refl
same_id (r ∷ rs) zero w zero e = e
same_id (r ∷ rs) zero w (suc j) e = refl
same_id (r ∷ rs) (suc i) w zero e = refl
same_id (r ∷ rs) (suc i) w (suc j) e = same_id rs i w j e

pub slots_set : (rs : List FieldLoc) (i : ℕ) (w : FieldLoc) → w.id ≡ (get_or rs i none).id → Slots rs → Slots (set rs i w)
slots_set rs i w e h j l = ap slot_stands (same_id rs i w j e) ∙ h j (omega (arith, length-set rs i w))

-- the records stay one for each slot
pub once_set : (rs : List FieldLoc) (i : ℕ) (w : FieldLoc) → w.id ≡ (get_or rs i none).id → Once rs → Once (set rs i w)
once_set rs i w e o j l =
    let m : j < length rs = omega (arith, length-set rs i w) in
    let s = (get_or (set rs i w) j none).id in
    position_or_len-set (λ r. eqb s r.id) rs i w none (ap (eqb s) e) ∙ ap (place_of rs) (same_id rs i w j e) ∙ o j m

pub once_new : (rs : List FieldLoc) (w : FieldLoc) → place_of rs w.id ≡ length rs → Once rs → Once (rs ++ w ∷ [])
once_new rs w new o j h =
    let n : length (rs ++ w ∷ []) ≡ length rs + 1 = length_push rs w in
    ⊎_elim
    (λ (l : j < length rs).
    let s = (get_or rs j none).id in
    ap (λ (x : FieldLoc). place_of (rs ++ w ∷ []) x.id) (get_or_append_left rs (w ∷ []) none j l) ∙ position_or_len_push (λ r. eqb s r.id) rs w
    ∙ cond-false (eqb (place_of rs s) (length rs)) _ (place_of rs s) (ne_eqb _ _ (λ e. omega (arith, o j l))) ∙ o j l)
    (λ (l : length rs ≤ j).
    let e : length rs ≡ j = omega arith in
    let last : cond (eqb (place_of rs w.id) (length rs)) (length rs + cond (eqb w.id w.id) 0 1) (place_of rs w.id) ≡ length rs + cond (eqb w.id w.id) 0 1 = cond-true _ _ _ (eq-eqb _ _ new) in
    let same : cond {A = ℕ} (eqb w.id w.id) 0 1 ≡ 0 = cond-true _ 0 1 (eq-eqb w.id w.id refl) in
    ap (λ (x : FieldLoc). place_of (rs ++ w ∷ []) x.id) (get_or_push rs w none j e) ∙ position_or_len_push (λ r. eqb w.id r.id) rs w ∙ last ∙ omega arith)
    (cases_lt j (length rs))

pub lookup_missing : (rs : List FieldLoc) (s : ℕ) → place_of rs s ≡ length rs → lookup s rs ≡ None
lookup_missing rs s h = ap (lookup s) (sym (take_all (length rs) rs (omega arith))) ∙ lookup_before rs s (length rs) (omega arith)

-- ---- what a search for the slot's record says

abbrev search_for : List FieldLoc → ℕ → Option ℕ
search_for rs s = position (λ r. eqb s r.id) rs

absent : (rs : List FieldLoc) (s : ℕ) → search_for rs s ≡ None → place_of rs s ≡ length rs
absent rs s e =
    let most = prefix_len-le-length (λ (r : FieldLoc). not (eqb s r.id)) rs in
    let least : length rs ≤ place_of rs s = grind (arith, common_steps) in
    omega arith

-- the same where the search lends the record
lookup_find : (rs : List FieldLoc) (s : ℕ) → option_map (λ (r : FieldLoc). r.off) (find (λ r. eqb s r.id) rs) ≡ lookup s rs
lookup_find [] s = refl
lookup_find (r ∷ rs) s = by (eqb s r.id) (lookup_find rs s)
  where
    by : (b : Bool) → option_map (λ (r : FieldLoc). r.off) (find (λ r. eqb s r.id) rs) ≡ lookup s rs
        → option_map (λ (r : FieldLoc). r.off) (cond b (Some r) (find (λ r. eqb s r.id) rs)) ≡ cond b (Some r.off) (lookup s rs)
    by true e = refl
    by false e = e

pub distance_of : (rs : List FieldLoc) (s t d : ℕ) (o : Option (Bor FieldLoc)) (P : Bor FieldLoc → Type 0) → option_map (λ (r : Bor FieldLoc). r.now) o ≡ find (λ r. eqb s r.id) rs
    → MatchOption o (d ≡ 0) P → ((r : Bor FieldLoc) → P r → d ≡ t - r.now.off) → d ≡ distance t (lookup s rs)
distance_of rs s t d o P found m is = by o m ∙ ap (λ x. distance t (option_map (λ (r : FieldLoc). r.off) x)) found ∙ ap (distance t) (lookup_find rs s)
  where
    by : (q : Option (Bor FieldLoc)) → MatchOption q (d ≡ 0) P → d ≡ distance t (option_map (λ (r : FieldLoc). r.off) (option_map (λ (r : Bor FieldLoc). r.now) q))
    by None e = e
    by (Some r) p = is r p

-- a record is found at i; xs are the records as they are lent
module _ (rs xs : List FieldLoc) (s i : ℕ) (same : xs ≡ rs) (found : search_for rs s ≡ Some i) where
  inside : i < length rs
  inside = (position-Some (λ r. eqb s r.id) rs i none found).0

  at : place_of rs s ≡ i
  at = grind (arith, common_steps)

  here : (get_or rs i none).id ≡ s
  here = sym (eqb-true s _ (position-Some (λ r. eqb s r.id) rs i none found).1)

  has : lookup s rs ≡ Some (get_or rs i none).off
  has = let l = inside in let e = at in lookup_found rs s (omega arith) ∙ ap (λ (k : ℕ). Some (get_or rs k none).off) e

  pub allowed_old : slot_stands s ≡ true → true ≡ (slot_stands s && not (not (is_some (lookup s rs)) && no_room (length rs)))
  allowed_old h = sym (ap (λ b. b && not (not (is_some (lookup s rs)) && no_room (length rs))) h ∙ ap (λ o. not (not (is_some o) && no_room (length rs))) has)

  -- its offset is changed
  module _ (o : ℕ) where
    abbrev moved : List FieldLoc
    moved = refill (length rs) rs (set xs i (record { off = o; id = (get_or xs i none).id }))

    set_at : moved ≡ set rs i (record { off = o; id = (get_or rs i none).id })
    set_at =
        let long = length-set rs i (record { off = o; id = (get_or rs i none).id }) in
        ap (λ ys. refill (length rs) rs (set ys i (record { off = o; id = (get_or ys i none).id }))) same
        ∙ take-append-le (length rs) _ _ (omega arith) ∙ take_all (length rs) _ (omega arith)

    pub moved_kept : Once rs → Slots rs → Once moved × Slots moved × (moved ≡ record_slot s o rs) × (length moved ≡ length rs)
    moved_kept once slots =
        let l = inside in
        let e = at in (
          subst Once (sym set_at) (once_set rs i _ refl once),
          subst Slots (sym set_at) (slots_set rs i _ refl slots),
          set_at ∙ ap (λ k. set rs i (record { off = o; id = k })) here ∙ ap (λ k. set rs k (record { off = o; id = s })) (sym e) ∙ sym (recorded_old rs s o (omega arith)),
          ap length set_at ∙ length-set rs i _,
        )

-- no record is found, and one more is pushed where there is room
pub pushed_kept : {A E : Type 0} (v w : ArrayVec FieldLoc) (s o : ℕ) (r : Result A E) → search_for v.items s ≡ None → slot_stands s ≡ true → Once v.items → Slots v.items
    → OnOk r (w.items ≡ v.items ++ record { off = o; id = s } ∷ []) → OnErr r (w ≡ v) → Once w.items × Slots w.items × (w.items ≡ cond (is_ok r) (record_slot s o v.items) v.items)
pushed_kept v w s o (Ok x) missing stands once slots ok err =
    let new = absent v.items s missing in (
      subst Once (sym ok) (once_new v.items _ new once),
      subst Slots (sym ok) (slots_new v.items _ stands slots),
      ok ∙ sym (recorded_new v.items s o new),
    )
pushed_kept v w s o (Err x) missing stands once slots ok err = (
  subst (λ (u : ArrayVec FieldLoc). Once u.items) (sym err) once,
  subst (λ (u : ArrayVec FieldLoc). Slots u.items) (sym err) slots,
  ap (λ (u : ArrayVec FieldLoc). u.items) err,
)

pub pushed_few : {A E : Type 0} (v w : ArrayVec FieldLoc) (x : FieldLoc) (r : Result A E) → length v.items ≤ 256 → IsOk r ↔ (length v.items < 256)
    → OnOk r (w.items ≡ v.items ++ x ∷ []) → OnErr r (w ≡ v) → length w.items ≤ 256
pushed_few v w x (Ok y) few room ok err =
    let l = room.0 refl in omega (arith, ap length ok, length_push v.items x)
pushed_few v w x (Err y) few room ok err = omega (arith, ap (λ (u : ArrayVec FieldLoc). length u.items) err)

pub allowed_new : {A E : Type 0} (rs : List FieldLoc) (s : ℕ) (r : Result A E) → search_for rs s ≡ None → slot_stands s ≡ true → IsOk r ↔ (length rs < 256)
    → is_ok r ≡ (slot_stands s && not (not (is_some (lookup s rs)) && no_room (length rs)))
allowed_new {A} {E} rs s r missing h room =
    by r room ∙ sym (ap (λ b. b && not (not (is_some (lookup s rs)) && no_room (length rs))) h ∙ ap (λ o. not (not (is_some o) && no_room (length rs))) (lookup_missing rs s (absent rs s missing)))
  where
    not_lt : (m n : ℕ) → (m < n → ⊥) → n ≤ m
    not_lt m n h = ⊎_elim (λ l. absurd (h l)) (λ l. l) (cases_lt m n)

    by : (q : Result A E) → IsOk q ↔ (length rs < 256) → is_ok q ≡ not (no_room (length rs))
    by (Ok x) k = sym (ap not (lt-leb 256 (length rs) (k.0 refl)))
    by (Err x) k = sym (ap not (le-leb 256 (length rs) (not_lt (length rs) 256 (λ l. false≢true (k.1 l)))))

-- a full list has no room for another slot
pub full_allows : (rs : List FieldLoc) (s : ℕ) → 256 ≤ length rs → is_some (search_for rs s) ≡ not (not (is_some (lookup s rs)) && no_room (length rs))
full_allows rs s full = by (search_for rs s) refl
  where
    by : (q : Option ℕ) → search_for rs s ≡ q → is_some q ≡ not (not (is_some (lookup s rs)) && no_room (length rs))
    by (Some i) e = sym (ap (λ o. not (not (is_some o) && no_room (length rs))) (has rs rs s i refl e))
    by None e = sym (ap not (le-leb 256 (length rs) full)) ∙ sym (ap (λ o. not (not (is_some o) && no_room (length rs))) (lookup_missing rs s (absent rs s e)))
