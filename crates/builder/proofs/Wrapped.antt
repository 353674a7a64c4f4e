-- How a call over the space becomes one of the builder.
use Rattle.std.proofs.Common.{◌≡◌, ℕ, ◌+◌, ◌<◌, ◌≤◌, max, Bool, true, false, cond, not, eqb, ltb, leb, List, [], ◌∷◌, ◌++◌, length, Some, None, Ok, Err, Option, Result, sym, refl, ap, ◌∙◌, subst, arith, length-append}
use lib.ListN.{length-replicate}
use Rattle.space.specs.Taken.{Parts, Prepended, Fronted, Spaced}
use Rattle.store.specs.declared.allocator.Allocator.{Ghosts}
use Rattle.space.proofs.Spaces.{fronted_done, fronted_refused, fronted_spaced, prepended_refused, prepended_used}
use Rattle.std.specs.List.{AllByRecursion}
use Rattle.std.proofs.lemmas.Bool.{eq-eqb, leb-true, ltb-false}
use Rattle.std.proofs.lemmas.Result.{err_from_is_err_and}
use Rattle.vectors.specs.Written.{Roomed, Wrote}
use Rattle.vectors.proofs.Created.{passed}
use Rattle.wire.specs.declared.refusal.Refusal.{Refusal}
use Rattle.wire.specs.declared.refusal.Refusal.TheVariants.{Finished, NotFinished, Nested, NotOpen, Slot, Identifier, Offset, Text, TableTooLarge, MissingSlot, TooLong, Store, Full}
use Rattle.wire.specs.Answers.{Why, Test, Where, decided, erased, number, ◌because◌}
use Rattle.wire.proofs.Decided.{asked_refused, decided_err, decided_err_more, decided_ok, decided_other, decided_pass}
use Rattle.model.specs.Calls.{Call, Reply}
use Rattle.model.specs.declared.field_loc.FieldLoc.{FieldLoc}
use Rattle.model.specs.State.{Nest, State, table, vector}
use Rattle.model.specs.Tables.{record_slot, signed, table_bytes, table_offset, table_space, word_padding}
use Rattle.wire.specs.Bytes.{zeros}
use Rattle.wire.specs.Words.{le}
use Rattle.model.specs.Steps as Steps
use Rattle.model.specs.Steps.{answered, closed, effect, in_table, is_open, kept, needs, opened, record_in, records, returns, tests, with_string, wrote}
use Rattle.builder.specs.declared.inner.Inner.{Inner}
use Rattle.builder.specs.declared.builder.FlatBufferBuilder.{FlatBufferBuilder}
use Rattle.builder.specs.declared.inner.Open.{Open}
use Rattle.builder.specs.declared.inner.Open.TheVariants.{Nothing, Table, Vector}
use Rattle.builder.specs.Inner.{is_nothing, is_table}
use Rattle.tables.specs.Fields.{fields}
use Rattle.std.specs.Prelude.{if◌then◌else◌, IsErrAnd}
use Rattle.wire.specs.Slots.{slot_stands}
use Rattle.builder.specs.View.{nest_of, state_of, view, Did}

-- what is left, by what was told
pub kept_refused : {A : Type 0} (w : Why) (ts : List Test) (x : A) (next s : State) → Err w ≡ decided ts x → kept ts next s ≡ s
kept_refused w [] x next s e = cc
kept_refused w (t ∷ ts) x next s e = grind (arith, kept_refused w ts x next s)

pub kept_done : {A : Type 0} (v x : A) (ts : List Test) (next s : State) → Ok v ≡ decided ts x → kept ts next s ≡ next
kept_done v x [] next s e = refl
kept_done v x (t ∷ ts) next s e = grind (arith, kept_done v x ts next s)

-- the tests before those of the call over the space
module _ (s : State) (t : Test) (ts : List Test) (going : s.finished ≡ false) (pass : t.fails ≡ false) where
  pub pass_two : (y : Reply) → decided (s.finished because Finished ∷ t ∷ ts) y ≡ decided ts y
  pass_two y = decided_pass y (s.finished because Finished) (t ∷ ts) going ∙ decided_pass y t ts pass

module _ (s : State) (t u : Test) (ts : List Test) (going : s.finished ≡ false) (pass : t.fails ≡ false) (more : u.fails ≡ false) where
  pub pass_three : (y : Reply) → decided (s.finished because Finished ∷ t ∷ u ∷ ts) y ≡ decided ts y
  pass_three y = pass_two s t (u ∷ ts) going pass y ∙ decided_pass y u ts more

-- what is known after the checks before a call
pub unfinished : {E : Type 0} (b : Bool) (x : Unit {0}) → ◌≡◌ {A = Result (Unit {0}) (Refusal E)} (Ok x) (if b then Err Finished else Ok tt) → b ≡ false
unfinished b x e = grind arith

pub unnested : {E : Type 0} (b : Bool) (o : Open) (ls : List FieldLoc) (x : Unit {0}) → ◌≡◌ {A = Result (Unit {0}) (Refusal E)} (Ok x) (if b then Err Finished else if is_nothing o then Ok tt else Err Nested)
    → (b ≡ false) × (is_open (nest_of o ls) ≡ false)
unnested false Nothing ls x e = (refl, refl)
unnested false (Table start) ls x e = cc
unnested false (Vector start size count) ls x e = cc
unnested true o ls x e = cc

-- a table is open, with these records, and the slot stands
pub record SlotOf (o : Open) (n : ℕ) (ls : List FieldLoc) : Type 0 where
  pub within : not (in_table (nest_of o ls)) ≡ false
  pub stands : not (slot_stands n) ≡ false
  pub its : records (nest_of o ls) ≡ ls
  pub recorded : (off : ℕ) (ls' : List FieldLoc) → ls' ≡ record_slot n off ls → nest_of o ls' ≡ record_in n off (nest_of o ls)

pub slot_open : {E : Type 0} (b : Bool) (o : Open) (n : ℕ) (ls : List FieldLoc) (x : Unit {0})
    → ◌≡◌ {A = Result (Unit {0}) (Refusal E)} (Ok x) (if b then Err Finished else if is_table o then (if slot_stands n then Ok tt else Err Slot) else Err NotOpen) → (b ≡ false) × SlotOf o n ls
slot_open {E} false (Table start) n ls x e =
    (refl, record { within = refl; stands = by (slot_stands n) e; its = refl; recorded = λ off ls' is. ap (table start) is })
  where
    by : (t : Bool) → ◌≡◌ {A = Result (Unit {0}) (Refusal E)} (Ok x) (if t then Ok tt else Err Slot) → not t ≡ false
    by t e = grind arith
slot_open false Nothing n ls x e = cc
slot_open false (Vector start size count) n ls x e = cc
slot_open true o n ls x e = cc

-- equal parts make equal states
pub same_state : (l l' : ℕ) (u u' : List ℕ) (i : Inner) → l ≡ l' → u ≡ u' → state_of l u i ≡ state_of l' u' i
same_state l l' u u' i el eu = rw (el, eu)

-- a state with bytes put in front of the used ones
pub wrote_is : (s : State) (l m a : ℕ) (u bytes : List ℕ) → l ≡ s.limit → u ≡ bytes ++ s.used → m ≡ max s.met a
    → ◌≡◌ {A = State} (record { limit = l; used = u; nest = s.nest; finished = s.finished; met = m; forced = s.forced; vtables = s.vtables; strings = s.strings }) (wrote bytes a s)
wrote_is s l m a u bytes el eu em = rw (el, eu, em)

-- the same with a vector open
pub vector_is : (s : State) (l m a : ℕ) (u bytes : List ℕ) (n n' k k' : ℕ) {count : ℕ} → l ≡ s.limit → u ≡ bytes ++ s.used → m ≡ max s.met a → n ≡ n' → k ≡ k'
    → ◌≡◌ {A = State} (record { limit = l; used = u; nest = vector n k count; finished = s.finished; met = m; forced = s.forced; vtables = s.vtables; strings = s.strings }) (opened (vector n' k' count) (wrote bytes a s))
vector_is s l m a u bytes n n' k k' el eu em en ek = rw (el, eu, em, en, ek)

-- the same with a slot recorded
pub slotted_is : (s : State) (n off l m a : ℕ) (u bytes : List ℕ) (nest' : Nest) → l ≡ s.limit → u ≡ bytes ++ s.used → m ≡ max s.met a → nest' ≡ record_in n off s.nest
    → ◌≡◌ {A = State} (record { limit = l; used = u; nest = nest'; finished = s.finished; met = m; forced = s.forced; vtables = s.vtables; strings = s.strings }) (opened (record_in n off s.nest) (wrote bytes a s))
slotted_is s n off l m a u bytes nest' el eu em en = rw (el, eu, em, en)

-- the same with a string pooled
pub pooled_is : (s : State) (l m : ℕ) (u bytes os : List ℕ) (o : ℕ) → l ≡ s.limit → u ≡ bytes ++ s.used → m ≡ max s.met 4 → os ≡ s.strings ++ o ∷ []
    → ◌≡◌ {A = State} (record { limit = l; used = u; nest = s.nest; finished = s.finished; met = m; forced = s.forced; vtables = s.vtables; strings = os }) (with_string o (wrote bytes 4 s))
pooled_is s l m u bytes os o el eu em eo = rw (el, eu, em, eo)

-- the same, finished
pub closed_is : (s : State) (l m : ℕ) (u bytes vs : List ℕ) → l ≡ s.limit → u ≡ bytes ++ s.used → m ≡ max s.met 4 → vs ≡ []
    → ◌≡◌ {A = State} (record { limit = l; used = u; nest = s.nest; finished = true; met = m; forced = s.forced; vtables = vs; strings = s.strings }) (closed (wrote bytes 4 s))
closed_is s l m u bytes vs el eu em ev = rw (el, eu, em, ev)

module _ {S E : Type 0} (before after : Parts S) where
  -- a refused call over the space left the used bytes and the limit
  pub refused_used : (e : Refusal E) (bytes : List ℕ) → Where (leb 12 (number e)) (Prepended before after false bytes) (after ≡ before)
      → (after.taken ≡ before.taken) × (after.limit ≡ before.limit)
  refused_used e bytes h = by (leb 12 (number e)) h
    where
      by : (b : Bool) → Where b (Prepended before after false bytes) (after ≡ before) → (after.taken ≡ before.taken) × (after.limit ≡ before.limit)
      by true p = (p.used, p.limited)
      by false e = (ap (λ (s : Parts S). s.taken) e, ap (λ (s : Parts S). s.limit) e)

-- what is known of the store after a refusal, where its front is all that may have changed
module _ {S E : Type 0} (before after : Parts S) (need : ℕ) where
  pub fronted_limit : (e : Refusal E) → Where (leb 12 (number e)) (Fronted before after need 0 (eqb (number e) 12)) (after ≡ before) → after.limit ≡ before.limit
  fronted_limit e h = by (leb 12 (number e)) h
    where
      by : (b : Bool) → Where b (Fronted before after need 0 (eqb (number e) 12)) (after ≡ before) → after.limit ≡ before.limit
      by true p = p.limited
      by false e = ap (λ (s : Parts S). s.limit) e

-- the used space after a table
pub length_table : (used : ℕ) (vt : List ℕ) (found : Option ℕ) → length (table_bytes used vt found) + used ≡ table_space used vt found
length_table used vt None =
    let z = length-replicate {A = ℕ} (word_padding used) 0 in
    let a = length-append vt (le 4 (signed (table_offset used + length vt) (table_offset used)) ++ zeros (word_padding used)) in
    omega arith
length_table used vt (Some v) = let z = length-replicate {A = ℕ} (word_padding used) 0 in omega arith

-- a state whose parts are as they were
pub left_is : (s : State) (l : ℕ) (u vs : List ℕ) → l ≡ s.limit → u ≡ s.used → vs ≡ s.vtables
    → ◌≡◌ {A = State} (record { limit = l; used = u; nest = s.nest; finished = s.finished; met = s.met; forced = s.forced; vtables = vs; strings = s.strings }) s
left_is s l u vs el eu ev = rw (el, eu, ev)

-- a refusal's number, without the store's own words
number_erased : {E : Type 0} (e : Refusal E) → number (erased e) ≡ number e
number_erased Finished = refl
number_erased NotFinished = refl
number_erased Nested = refl
number_erased NotOpen = refl
number_erased Slot = refl
number_erased Identifier = refl
number_erased Offset = refl
number_erased Text = refl
number_erased TableTooLarge = refl
number_erased MissingSlot = refl
number_erased TooLong = refl
number_erased (Store x) = refl
number_erased Full = refl

-- tests of which none tells of a full table
abbrev pub NotFull : List Test → Type 0
NotFull ts = AllByRecursion (λ t. number t.why < 13) ts

pub told_few : {A : Type 0} (w : Why) (ts : List Test) (x : A) → NotFull ts → Err w ≡ decided ts x → number w < 13
told_few w [] x few e = cc
told_few w (t ∷ ts) x few e = by t.fails e (told_few w ts x few.1)
  where
    by : (b : Bool) → Err w ≡ cond b (Err t.why) (decided ts x) → (Err w ≡ decided ts x → number w < 13) → number w < 13
    by true e rest = let same : w ≡ t.why = cc in subst (λ (v : Why). number v < 13) (sym same) few.0
    by false e rest = rest e

-- a slot that is refused before anything else is looked at
slot_told : {E : Type 0} (f : Bool) (o : Open) (t : Bool) (ls : List FieldLoc) (rest : List Test) (y : Reply) (e : Refusal E)
    → ◌≡◌ {A = Result (Unit {0}) (Refusal E)} (Err e) (if f then Err Finished else if is_table o then (if t then Ok tt else Err Slot) else Err NotOpen)
    → (Err (erased e) ≡ decided (f because Finished ∷ (not (in_table (nest_of o ls)) because NotOpen) ∷ (not t because Slot) ∷ rest) y) × (leb 12 (number e) ≡ false)
slot_told true o t ls rest y e is = let same : e ≡ Finished = cc in rw same (refl, refl)
slot_told false Nothing t ls rest y e is = let same : e ≡ NotOpen = cc in rw same (refl, refl)
slot_told false (Vector start size count) t ls rest y e is = let same : e ≡ NotOpen = cc in rw same (refl, refl)
slot_told false (Table start) false ls rest y e is = let same : e ≡ Slot = cc in rw same (refl, refl)
slot_told false (Table start) true ls rest y e is = cc

module _ {S E : Type 0} {G : Ghosts S E} (b : FlatBufferBuilder S E G) (c : Call) where
  pub slot_refused : {A : Type 0} (reply : A → Reply) (n : ℕ) (rest : List Test) (e : Refusal E)
      → tests c (view b) ≡ ((view b).finished because Finished ∷ (not (in_table (view b).nest) because NotOpen) ∷ (not (slot_stands n) because Slot) ∷ rest)
      → ◌≡◌ {A = Result (Unit {0}) (Refusal E)} (Err e) (if b.inner.finished then Err Finished else if is_table b.inner.nest then (if slot_stands n then Ok tt else Err Slot) else Err NotOpen)
      → Did reply c b b (Err e)
  slot_refused reply n rest e they is =
      let s = view b in
      let h = slot_told b.inner.finished b.inner.nest (slot_stands n) (fields b.inner.field_locs) rest (Steps.reply c s) e is in
      let told : Err (erased e) ≡ answered c s = h.0 ∙ ap (λ (ts : List Test). decided ts (Steps.reply c s)) (sym they) in
      record {
        answer = told;
        state = sym (kept_refused (erased e) (tests c s) (Steps.reply c s) (effect c s) s told);
        store = rw h.1 refl;
      }

module _ {S E : Type 0} {G : Ghosts S E} (old new : FlatBufferBuilder S E G) (c : Call) (same : new.inner ≡ old.inner) where
  -- what a call over the space refused, the builder's call refuses
  pub did_refused_by : {A : Type 0} (reply : A → Reply) (e : Refusal E) (bytes : List ℕ)
      → number (erased e) < 13 → Err (erased e) ≡ answered c (view old)
      → length old.space.taken + length bytes ≡ needs c (view old)
      → Where (leb 12 (number e)) (Prepended old.space new.space false bytes) (new.space ≡ old.space)
      → Did reply c old new (Err e)
  did_refused_by reply e bytes few told size space =
      let s = view old in
      let used = refused_used old.space new.space e bytes space in
      let small : number e < 13 = subst (λ (n : ℕ). n < 13) (number_erased e) few in
      record {
        answer = told;
        state =
            same_state _ old.space.limit _ old.space.taken new.inner used.1 used.0
            ∙ ap (state_of old.space.limit old.space.taken) same
            ∙ sym (kept_refused (erased e) (tests c s) (Steps.reply c s) (effect c s) s told);
        store = asked (leb 12 (number e)) refl small space;
      }
    where
      asked : (b : Bool) → b ≡ leb 12 (number e) → number e < 13 → Where b (Prepended old.space new.space false bytes) (new.space ≡ old.space)
          → Where b (Fronted old.space new.space (needs c (view old)) 0 (eqb (number e) 12)) (new.space ≡ old.space)
      asked true is small p =
          let at : number e ≡ 12 = omega (arith, leb-true 12 (number e) (sym is)) in
          subst (λ (r : Bool). Fronted old.space new.space (needs c (view old)) 0 r) (sym (eq-eqb (number e) 12 at))
          (fronted_refused old.space new.space bytes (needs c (view old)) size p)
      asked false is small q = q

  -- the same where the tests of the call over the space are the last ones
  pub did_refused : {A B : Type 0} (reply : A → Reply) {e : Refusal E} {ts : List Test} {x : B} {bytes : List ℕ}
      → NotFull ts → Wrote old.space new.space (Err e) ts x bytes → ((y : Reply) → decided (tests c (view old)) y ≡ decided ts y)
      → length old.space.taken + length bytes ≡ needs c (view old)
      → Did reply c old new (Err e)
  did_refused reply {e} {ts} {x} {bytes} few told pass size =
      did_refused_by reply e bytes (told_few (erased e) ts x few told.answer)
      (decided_err (erased e) ts x (Steps.reply c (view old)) told.answer ∙ sym (pass (Steps.reply c (view old)))) size told.space

  -- the same where other tests follow them
  pub did_refused_more : {A B : Type 0} (reply : A → Reply) {e : Refusal E} {ts : List Test} {x : B} {bytes : List ℕ} (us : List Test)
      → NotFull ts → Wrote old.space new.space (Err e) ts x bytes
      → decided (tests c (view old)) (Steps.reply c (view old)) ≡ decided (ts ++ us) (Steps.reply c (view old))
      → length old.space.taken + length bytes ≡ needs c (view old)
      → Did reply c old new (Err e)
  did_refused_more reply {e} {ts} {x} {bytes} us few told pass size =
      did_refused_by reply e bytes (told_few (erased e) ts x few told.answer)
      (decided_err_more (erased e) ts us _ (decided_err (erased e) ts x (Steps.reply c (view old)) told.answer) ∙ sym pass) size told.space

  -- room was made, and then a table of entries was full
  pub did_full : {A : Type 0} (reply : A → Reply) (want : ℕ) → Err Full ≡ answered c (view old)
      → length old.space.taken + want ≡ needs c (view old) → Spaced old.space new.space true want → Did reply c old new (Err Full)
  did_full reply want told size space =
      let s = view old in
      record {
        answer = told;
        state =
            same_state _ old.space.limit _ old.space.taken new.inner space.limited space.kept
            ∙ ap (state_of old.space.limit old.space.taken) same
            ∙ sym (kept_refused Full (tests c s) (Steps.reply c s) (effect c s) s told);
        store = fronted_spaced old.space new.space true want (needs c s) size space;
      }

module _ {S E : Type 0} {G : Ghosts S E} (old new : FlatBufferBuilder S E G) (c : Call) where
  -- what a call over the space did, the builder's call does
  pub did_done_by : {A : Type 0} (reply : A → Reply) (v : A) (bytes : List ℕ)
      → Ok (reply v) ≡ answered c (view old)
      → view new ≡ effect c (view old)
      → returns c (view old) ≡ 0
      → length old.space.taken + length bytes ≡ needs c (view old)
      → Prepended old.space new.space true bytes
      → Did reply c old new (Ok v)
  did_done_by reply v bytes told state none size space =
      let s = view old in
      record {
        answer = told;
        state = state ∙ sym (kept_done (reply v) (Steps.reply c s) (tests c s) (effect c s) s told);
        store =
            subst (λ (k : ℕ). Fronted old.space new.space (needs c s) k false) (sym none)
            (fronted_done old.space new.space bytes (needs c s) size space);
      }

  -- the same where the tests of the call over the space are the last ones
  pub did_done : {A B : Type 0} (reply : A → Reply) (v : A) {w x : B} {ts : List Test} {bytes : List ℕ}
      → Wrote {E = E} old.space new.space (Ok w) ts x bytes → ((y : Reply) → decided (tests c (view old)) y ≡ decided ts y)
      → reply v ≡ Steps.reply c (view old)
      → view new ≡ effect c (view old)
      → returns c (view old) ≡ 0
      → length old.space.taken + length bytes ≡ needs c (view old)
      → Did reply c old new (Ok v)
  did_done reply v {w} {x} {ts} {bytes} made pass value state none size =
      let s = view old in
      did_done_by reply v bytes (ap Ok value ∙ decided_other w ts x (Steps.reply c s) made.answer ∙ sym (pass (Steps.reply c s))) state none size made.space

-- where room for bytes is refused, so are the bytes
pub roomed_wrote : {S A E : Type 0} {before after : Parts S} {e : Refusal E} {ts : List Test} {x : A} {want : ℕ} (bytes : List ℕ)
    → Roomed {A = A} before after (Err e) ts x want → length before.taken + length bytes ≡ length before.taken + want → Wrote {A = A} before after (Err e) ts x bytes
roomed_wrote {before = before} {after = after} {e = e} {want = want} bytes r long =
    record {
      answer = r.answer;
      space = asked_refused e (Spaced before after false want) (Prepended before after false bytes) (after ≡ before) (λ h. prepended_refused before after want bytes h (omega arith)) r.space;
    }

-- a refusal that is handed on as it is
pub did_handed : {S E A : Type 0} {G : Ghosts S E} {old new : FlatBufferBuilder S E G} {c : Call} {reply : A → Reply} {r : Result A (Refusal E)} {e : Refusal E}
    → IsErrAnd r (λ y. y ≡ e) → Did reply c old new (Err e) → Did reply c old new r
did_handed {r = r} h did = let p = err_from_is_err_and r h in rw (p.1, p.2) did

-- what a call that wrote was told, and how long the used bytes are after it
module _ {S A E : Type 0} {before after : Parts S} {v x : A} {ts : List Test} {bytes : List ℕ} where
  pub wrote_passed : Wrote {E = E} before after (Ok v) ts x bytes → AllByRecursion (λ t. t.fails ≡ false) ts
  wrote_passed made = passed ts v x made.answer

  pub wrote_short : {n : ℕ} → Wrote {E = E} before after (Ok v) ts x bytes → length before.taken + length bytes ≡ n → ltb 2147483647 n ≡ false → length after.taken ≤ 2147483647
  wrote_short {n} made size few = rw (prepended_used before after bytes n size made.space) (ltb-false 2147483647 n few)

  pub wrote_value : Wrote {E = E} before after (Ok v) ts x bytes → v ≡ x
  wrote_value made = decided_ok x v ts made.answer
