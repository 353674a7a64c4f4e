-- What the calls of a table's walk read.
use Rattle.std.proofs.Common.{◌≡◌, ℕ, zero, suc, ◌<◌, Bool, true, false, cond, eqb, ltb, List, get_or, ℤ, Some, None, Ok, Err, Option, Result, sym, refl, ap, ◌∙◌, w32, to_z, arith}
use Rattle.std.specs.Bool.{then_some}
use Rattle.std.specs.Option.{ok_or}
use Rattle.std.proofs.lemmas.Bool.{lt-ltb, eq-eqb, ne_eqb}
use Rattle.verifier.specs.declared.verifier.Verifier.{Verifier}
use Rattle.reading.specs.declared.invalid.InvalidFlatbuffer.{InvalidFlatbuffer}
use Rattle.reading.specs.declared.invalid.InvalidFlatbuffer.TheVariants.{SignedOffsetOutOfBounds}
use Rattle.verifier.specs.declared.verifier.TableVerifier.{TableVerifier}
use Rattle.reading.specs.Input.{saturated, u16_at, u32_at}
use Rattle.reading.specs.Reading.{Walk, aligned, leads, signed, visit_table, then, present, position, accept, refuse, vtable, vtable_len, given, at_vtable, in_buffer, at_field, visit_field_of, at_union, visit_union_of, union_key, lone_key, absent, within}
use Rattle.wire.specs.Places.{led}
use Rattle.reading.specs.declared.invalid.TraceRecord.TheVariants.{TableField}
use Rattle.reading.specs.declared.invalid.InvalidFlatbuffer.TheVariants.{MissingRequiredField, InconsistentUnion}
use Rattle.verifier.specs.Told.{Seen, Told, bytes, done, field_visit, slot_place, slot_visit, table_of, union_visit}
use Rattle.verifier.proofs.Walks.{seen_is, seen_given, seen_then, seen_accept, seen_refuse, seen_answer, seen_got, seen_told, told_is, told_then, told_given, told_got}

-- The vtable's end was computed, and is even.
pub seen_even : {X : Type 0} {k n : ℕ} {x : List ℕ → X} {r : Result X InvalidFlatbuffer} {v v' : Verifier} → k ≡ n → Seen (aligned k 2) x r v v' → Seen (aligned n 2) x r v v'
seen_even e h = seen_is (ap (λ n. aligned n 2) e) h

-- A signed word was read, and where it leads.
led_read : (o : Option ℕ) (f : InvalidFlatbuffer) (x : List ℕ → ℕ) (v : Verifier) → x (bytes v) ≡ position o → Seen (cond (present o) accept (refuse f)) x (ok_or o f) v v
led_read None f x v e = seen_refuse x f v
led_read (Some n) f x v e = seen_answer x n (sym e) (seen_accept done v)

pub leads_read : (p word : ℕ) (z : ℤ) (o : Option ℕ) (r : Result ℕ InvalidFlatbuffer) (v : Verifier) → word ≡ u32_at (bytes v) p → z ≡ to_z w32 word →
    o ≡ led (bytes v) p word → r ≡ ok_or o (SignedOffsetOutOfBounds z p) → Seen (given (leads p)) (λ b. vtable b p) r v v
unfolding leads vtable
leads_read p word z o r v g i k e =
    let f : InvalidFlatbuffer = SignedOffsetOutOfBounds (to_z w32 (u32_at (bytes v) p)) p in
    rw (e, k, i, g) (seen_given (leads p) (led_read (led (bytes v) p (u32_at (bytes v) p)) f (λ b. vtable b p) v refl))

-- The rest of a table's head, at the vtable's position and length as read.
pub at_vtable_read : (p : ℕ) {X : Type 0} {n m : ℕ} {x : List ℕ → X} {r : Result X InvalidFlatbuffer} {u v v' : Verifier} →
    Seen (signed p) (λ b. vtable b p) (Ok n) u v → m ≡ u16_at (bytes v) n → Seen (at_vtable n m) x r v v' → Seen (visit_table p) x r u v'
unfolding visit_table vtable_len
at_vtable_read p {n = n} {v = v} h i k =
    let e : n ≡ vtable (bytes v) p = seen_got h in
    seen_then h
    (seen_given (λ b. at_vtable (vtable b p) (vtable_len b p))
    (seen_is (ap (at_vtable n) (i ∙ ap (u16_at (bytes v)) e) ∙ ap (λ k. at_vtable k (u16_at (bytes v) (vtable (bytes v) p))) e) k))

pub table_read : (p n m : ℕ) (b b' : List ℕ) → n ≡ vtable b p → m ≡ u16_at b n → b' ≡ b →
    ◌≡◌ {A = TableVerifier} (record { pos = p; vtable = n; vtable_len = m }) (table_of b' p)
unfolding vtable_len
table_read p n m b b' e i k =
    let f : ℕ → ℕ → TableVerifier = λ x y. record { pos = p; vtable = x; vtable_len = y } in
    ap (f n) (i ∙ ap (u16_at b) e) ∙ ap (λ x. f x (u16_at b (vtable b p))) e ∙ ap (λ z. table_of z p) (sym k)

-- The slot s is looked up in the table t: what is read where the vtable reaches it, and what a distance read says.
lookup : TableVerifier → ℕ → Bool → Walk
lookup t s h = cond h (in_buffer (saturated t.vtable s) 2 2) accept

stored : TableVerifier → ℕ → Option ℕ
stored t d = cond (eqb d 0) None (Some (saturated t.pos d))

if_stored : (t : TableVerifier) (d : ℕ) → then_some (ltb 0 d) (saturated t.pos d) ≡ stored t d
unfolding stored
if_stored t zero = refl
if_stored t (suc d) =
    let x = saturated t.pos (suc d) in
    ap (λ b. then_some b x) (lt-ltb 0 (suc d) (omega arith)) ∙ sym (ap (λ b. cond b None (Some x)) (ne_eqb (suc d) 0 (λ e. omega (arith, e))))

module _ (t : TableVerifier) (s : ℕ) {v : Verifier} where
  pub slot_within : {X : Type 0} {k : ℕ} {x : List ℕ → X} {r : Result X InvalidFlatbuffer} {v' : Verifier} → s < t.vtable_len → k ≡ saturated t.vtable s →
      Seen (in_buffer k 2 2) x r v v' → Seen (slot_visit t s) x r v v'
  unfolding lookup
  slot_within h i q = seen_is (ap (λ z. in_buffer z 2 2) i ∙ sym (ap (lookup t s) (lt-ltb s t.vtable_len h))) q

  pub slot_found : {k d : ℕ} {z : Option ℕ} {v' : Verifier} → s < t.vtable_len → k ≡ saturated t.vtable s → z ≡ then_some (ltb 0 d) (saturated t.pos d) →
      Seen (in_buffer k 2 2) (λ b. u16_at b k) (Ok d) v v' → Seen (slot_visit t s) (slot_place t s) (Ok z) v v'
  unfolding stored
  slot_found {k = k} {d = d} {z = z} {v' = v'} h i j q =
      let n = u16_at (bytes v') (saturated t.vtable s) in
      let e : stored t d ≡ slot_place t s (bytes v') = ap (stored t) (seen_got q ∙ ap (u16_at (bytes v')) i) ∙ sym (ap (λ y. cond y (stored t n) None) (lt-ltb s t.vtable_len h)) in
      slot_within h i (seen_answer (slot_place t s) z (j ∙ if_stored t d ∙ e) q)

-- A field's slot was looked up.
field_is : (t : TableVerifier) (s : ℕ) (required : Bool) (w : ℕ → Walk) → then (slot_visit t s) (given (λ b. at_field s required w (slot_place t s b))) ≡ field_visit t s required w
unfolding visit_field_of
field_is t s required w = refl

pub field_read : (t : TableVerifier) (s : ℕ) (required : Bool) (w : ℕ → Walk) {q x : Option ℕ} {r : Result (Unit {0}) InvalidFlatbuffer} {u v v' : Verifier} →
    Seen (slot_visit t s) (slot_place t s) (Ok q) u v → q ≡ x → Told (at_field s required w x) done r v v' → Told (field_visit t s required w) done r u v'
field_read t s required w h i k =
    told_is (field_is t s required w) (told_then (seen_told h)
    (told_given (λ b. at_field s required w (slot_place t s b)) (told_is (ap (at_field s required w) (sym i ∙ seen_got h)) k)))

-- Both slots of a union were looked up.
union_is : (t : TableVerifier) (k s : ℕ) (required : Bool) (w : ℕ → ℕ → Walk) →
    then (slot_visit t s) (then (slot_visit t k) (given (λ b. at_union k s required w (slot_place t k b) (slot_place t s b)))) ≡ union_visit t k s required w
unfolding visit_union_of
union_is t k s required w = refl

pub union_read : (t : TableVerifier) (k s : ℕ) (required : Bool) (w : ℕ → ℕ → Walk) {kp vp x y : Option ℕ} {r : Result (Unit {0}) InvalidFlatbuffer} {u v v₂ v' : Verifier} →
    Seen (slot_visit t s) (slot_place t s) (Ok vp) u v → Seen (slot_visit t k) (slot_place t k) (Ok kp) v v₂ → kp ≡ x → vp ≡ y →
    Told (at_union k s required w x y) done r v₂ v' → Told (union_visit t k s required w) done r u v'
union_read t k s required w {y = y} {v₂ = v₂} h₁ h₂ i j h =
    let e = sym i ∙ seen_got h₂ in
    let f = sym j ∙ seen_got h₁ ∙ sym (ap (slot_place t s) h₂.kept.buffer) in
    told_is (union_is t k s required w) (told_then (seen_told h₁) (told_then (seen_told h₂)
    (told_given (λ b. at_union k s required w (slot_place t k b) (slot_place t s b))
    (told_is (ap (λ z. at_union k s required w z y) e ∙ ap (at_union k s required w (slot_place t k (bytes v₂))) f) h))))

pub missing_told : (required : Bool) (s : ℕ) {r : Result (Unit {0}) InvalidFlatbuffer} {v : Verifier} → r ≡ cond required (Err (MissingRequiredField s)) (Ok tt) → Told (absent required s) done r v v
unfolding absent
missing_told true s {v = v} e = rw e (seen_told (seen_refuse done (MissingRequiredField s) v))
missing_told false s {v = v} e = rw e (seen_told (seen_accept done v))

-- The key was read, and no value stands beside it.
module _ (k s q : ℕ) (required : Bool) {d : ℕ} {u v : Verifier} (h : Told (union_key k q) (λ b. get_or b q 0) (Ok d) u v) where
  lone : List ℕ → Walk
  lone b = lone_key k s required (get_or b q 0)

  alone : Bool → Walk
  alone z = cond z (absent required s) (refuse (InconsistentUnion k s))

  lone_read : {r : Result (Unit {0}) InvalidFlatbuffer} (z : Bool) → eqb d 0 ≡ z → Told (alone z) done r v v → Told (then (union_key k q) (given lone)) done r u v
  unfolding lone_key lone alone
  lone_read z e i = told_then h (told_given lone (told_is (sym (ap alone e) ∙ ap (lone_key k s required) (told_got h)) i))

  pub lone_zero : {r : Result (Unit {0}) InvalidFlatbuffer} → d ≡ 0 → r ≡ cond required (Err (MissingRequiredField s)) (Ok tt) →
      Told (then (union_key k q) (given (λ b. lone_key k s required (get_or b q 0)))) done r u v
  unfolding lone alone
  lone_zero e i = lone_read true (eq-eqb d 0 e) (missing_told required s i)

  pub lone_other : (d ≡ 0 → ⊥) → Told (then (union_key k q) (given (λ b. lone_key k s required (get_or b q 0)))) done (Err (InconsistentUnion k s)) u v
  unfolding lone alone
  lone_other e = lone_read false (ne_eqb d 0 e) (seen_told (seen_refuse done (InconsistentUnion k s) v))

-- The key was read, and its variant verified.
pub both_read : (k s q x : ℕ) (w : ℕ → ℕ → Walk) {d : ℕ} {r : Result (Unit {0}) InvalidFlatbuffer} {u v v' : Verifier} →
    Told (union_key k q) (λ b. get_or b q 0) (Ok d) u v → Told (within (TableField s x) (w d x)) done r v v' →
    Told (then (union_key k q) (given (λ b. within (TableField s x) (w (get_or b q 0) x)))) done r u v'
both_read k s q x w h i =
    told_then h (told_given (λ b. within (TableField s x) (w (get_or b q 0) x)) (told_is (ap (λ z. within (TableField s x) (w z x)) (told_got h)) i))
