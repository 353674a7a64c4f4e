-- Laws of a space: what room there is, and how bytes that are placed one after another add up.
use Rattle.std.proofs.Common.{◌≡◌, ℕ, ◌+◌, ◌-◌, ◌≤◌, min, Bool, true, false, not, leb, List, [], ◌++◌, length, drop, sym, refl, ap, ◌∙◌, subst, append_assoc, append-nil, arith, length-append}
use lib.ListN.{length-replicate, replicate-append-replicate}
use Rattle.std.proofs.lemmas.List.{take_all}
use Rattle.std.proofs.lemmas.Bool.{le-leb, leb-true, true≢false, false≢true}
use Rattle.wire.specs.Bytes.{front, last, unspent, zeros}
use Rattle.space.specs.Taken.{Parts, parts_of, held, Spaced, Placed, Prepended, Released, Fronted}
use Rattle.wire.proofs.Lists.{length_front, length_last, front_front, front_at, last_at, front_unspent, unspent_none, raised_none}

module _ {S : Type 0} where
  -- no bytes at all
  pub placed_none : (s : Parts S) → Placed s s true []
  placed_none s =
      record {
        answer = sym (le-leb _ _ (omega arith));
        used = refl;
        unused = sym (take_all (length s.rest - 0) s.rest (omega arith));
        limited = refl;
      }

  -- bytes that have room are placed
  pub placed_fits : (before after : Parts S) (ok : Bool) (bytes : List ℕ) → length bytes ≤ length before.rest → Placed before after ok bytes → ok ≡ true
  placed_fits before after ok bytes h p = p.answer ∙ le-leb _ _ h

  pub placed_done : (before after : Parts S) (ok : Bool) (bytes : List ℕ) → length bytes ≤ length before.rest → Placed before after ok bytes → Placed before after true bytes
  placed_done before after ok bytes h p =
      subst (λ (b : Bool). Placed before after b bytes) (placed_fits before after ok bytes h p) p

  -- bytes that were placed had room
  pub placed_room : (before after : Parts S) (bytes : List ℕ) → Placed before after true bytes → length bytes ≤ length before.rest
  placed_room before after bytes p = leb-true _ _ (sym p.answer)

  pub placed_rest : (before after : Parts S) (bytes : List ℕ) → Placed before after true bytes → length after.rest + length bytes ≡ length before.rest
  placed_rest before after bytes p =
      omega (arith, placed_room before after bytes p, ap length p.unused, length_front (length bytes) before.rest)

  -- the list stays as long as it was
  pub placed_held : (before after : Parts S) (bytes : List ℕ) → Placed before after true bytes → held after ≡ held before
  placed_held before after bytes p =
      omega (arith, placed_rest before after bytes p, ap length p.used ∙ length-append bytes before.taken)

  -- bytes after bytes
  pub placed_placed : (a b c : Parts S) (xs ys : List ℕ) → Placed a b true xs → Placed b c true ys → Placed a c true (ys ++ xs)
  placed_placed a b c xs ys p q =
      let both : length (ys ++ xs) ≡ length ys + length xs = length-append ys xs in
      record {
        answer = sym (le-leb _ _ (omega (arith, both, placed_room b c ys q, placed_rest a b xs p)));
        used = q.used ∙ ap (λ (us : List ℕ). ys ++ us) p.used ∙ sym (append_assoc ys xs a.taken);
        unused =
            q.unused ∙ ap (front (length ys)) p.unused ∙ front_front (length ys) (length xs) a.rest
            ∙ ap (λ (n : ℕ). front n a.rest) (sym both);
        limited = q.limited ∙ p.limited;
      }

  -- n zero bytes before m of them
  pub placed_zeros : (a b c : Parts S) (ok : Bool) (m n k : ℕ) → k ≡ n + m → k ≤ length a.rest
      → Placed a b true (zeros m) → Placed b c ok (zeros n) → Placed a c true (zeros k)
  placed_zeros a b c ok m n k more room p q =
      let few = length-replicate {A = ℕ} m 0 in
      let last = length-replicate {A = ℕ} n 0 in
      let left = placed_rest a b (zeros m) p in
      let all : zeros n ++ zeros m ≡ zeros k = replicate-append-replicate n m 0 ∙ ap zeros (sym more) in
      subst (λ (us : List ℕ). Placed a c true us) all
      (placed_placed a b c (zeros m) (zeros n) p (placed_done b c ok (zeros n) (omega arith) q))

  -- making room and then placing the bytes there
  pub prepended_of : (before mid after : Parts S) (want : ℕ) (bytes : List ℕ) → Spaced before mid true want → Placed mid after true bytes → length bytes ≡ want
      → Prepended before after true bytes
  prepended_of before mid after want bytes h p size = record {
    answer = h.answer ∙ ap (λ (n : ℕ). leb (length before.taken + n) before.limit) (sym size);
    used = p.used ∙ ap (λ (us : List ℕ). bytes ++ us) h.kept;
    unused =
        front_unspent (length bytes) mid.rest before.rest after.rest (placed_room mid after bytes p) h.unused p.unused;
    limited = p.limited ∙ h.limited;
    full = λ no. absurd (true≢false no);
    still = λ room. (
        let same = ap length (h.enough (omega arith)) in
        omega (arith, placed_held mid after bytes p, ap length h.kept));
  }

  -- nothing is taken where the store refuses
  pub prepended_refused : (before after : Parts S) (want : ℕ) (bytes : List ℕ) → Spaced before after false want → length bytes ≡ want → Prepended before after false bytes
  prepended_refused before after want bytes h size = record {
    answer = h.answer ∙ ap (λ (n : ℕ). leb (length before.taken + n) before.limit) (sym size);
    used = h.kept;
    unused = unspent_none after.rest before.rest h.unused;
    limited = h.limited;
    full = h.full;
    still = λ room. (let same = ap length (h.enough (omega arith)) in omega (arith, ap length h.kept));
  }

  pub prepended_used : (before after : Parts S) (bytes : List ℕ) (n : ℕ) → length before.taken + length bytes ≡ n → Prepended before after true bytes → length after.taken ≡ n
  prepended_used before after bytes n size p =
      ap length p.used ∙ length-append bytes before.taken ∙ omega arith

  -- what only prepends gives nothing back
  front_only : (before after : Parts S) (n : ℕ) → n ≡ length after.taken + 0 - length before.taken → after.rest ≡ unspent (length after.rest) n before.rest
      → after.rest ≡ unspent (length after.rest - 0) (length after.taken + 0 - length before.taken) before.rest ++ zeros 0
  front_only before after n is front =
      let more = length after.taken + 0 - length before.taken in
      let all : length after.rest ≡ length after.rest - 0 = omega arith in
      front ∙ ap (λ (k : ℕ). unspent (length after.rest) k before.rest) is
      ∙ ap (λ (k : ℕ). unspent k more before.rest) all
      ∙ sym (append-nil (unspent (length after.rest - 0) more before.rest))

  pub fronted_done : (before after : Parts S) (bytes : List ℕ) (n : ℕ) → length before.taken + length bytes ≡ n → Prepended before after true bytes → Fronted before after n 0 false
  fronted_done before after bytes n size p =
      let long : length after.taken ≡ n = prepended_used before after bytes n size p in
      let more : length bytes ≡ length after.taken + 0 - length before.taken = omega arith in
      record {
        unused = front_only before after (length bytes) more p.unused;
        still = λ room. p.still (omega arith);
        grown = λ _. omega arith;
        full = λ no. absurd (false≢true no);
        limited = p.limited;
      }

  pub fronted_refused : (before after : Parts S) (bytes : List ℕ) (n : ℕ) → length before.taken + length bytes ≡ n → Prepended before after false bytes → Fronted before after n 0 true
  fronted_refused before after bytes n size p =
      let none : 0 ≡ length after.taken + 0 - length before.taken = omega (arith, ap length p.used) in
      record {
        unused = front_only before after 0 none p.unused;
        still = λ room. p.still (omega arith);
        grown = λ no. absurd (true≢false no);
        full = λ _. p.full refl;
        limited = p.limited;
      }

  -- room was made and nothing taken
  pub fronted_spaced : (before after : Parts S) (ok : Bool) (want n : ℕ) → length before.taken + want ≡ n → Spaced before after ok want → Fronted before after n 0 (not ok)
  fronted_spaced before after ok want n size p =
      let none : 0 ≡ length after.taken + 0 - length before.taken = omega (arith, ap length p.kept) in
      record {
        unused = front_only before after 0 none (unspent_none after.rest before.rest p.unused);
        still = λ room. (let same = ap length (p.enough (omega arith)) in omega (arith, ap length p.kept));
        grown = λ yes. (let r = p.room (not_false ok yes) in omega (arith, ap length p.kept));
        full = λ no. p.full (not_true ok no);
        limited = p.limited;
      }
    where
      not_false : (b : Bool) → not b ≡ false → b ≡ true
      not_false true e = refl
      not_false false e = sym e

      not_true : (b : Bool) → not b ≡ true → b ≡ false
      not_true false e = refl
      not_true true e = sym e

  -- a space that was left alone
  pub fronted_same : (s : Parts S) (n : ℕ) → n ≤ held s → Fronted s s n 0 false
  fronted_same s n room =
      record {
        unused = front_only s s 0 (omega arith) (unspent_none s.rest s.rest (sym (raised_none (length s.rest) s.rest (omega arith))));
        still = λ _. refl;
        grown = λ _. room;
        full = λ no. absurd (false≢true no);
        limited = refl;
      }

  -- zero bytes placed over the first `back` used ones, which are then used no more
  pub released : (before mid zeroed after : Parts S) (count back : ℕ) → back ≡ min count (length before.taken) → mid.taken ≡ drop count before.taken
      → front back mid.rest ≡ before.rest → mid.limit ≡ before.limit → Placed mid zeroed true (zeros back)
      → after.rest ++ after.taken ≡ zeroed.rest ++ zeroed.taken → length after.taken ≡ length mid.taken → after.limit ≡ zeroed.limit
      → Released before after (min count (length before.taken)) (drop count before.taken)
  released before mid zeroed after count back is keeps stays same p whole few limited =
      let left = drop count before.taken in
      let n = length after.taken in
      let long : length left ≡ n = sym (few ∙ ap length keeps) in
      let before-it : zeroed.rest ≡ before.rest =
      p.unused ∙ ap (λ (k : ℕ). front k mid.rest) (length-replicate back 0) ∙ stays in
      let all : after.rest ++ after.taken ≡ (before.rest ++ zeros back) ++ left =
      whole
      ∙ ap (λ (us : List ℕ). us ++ zeroed.taken) before-it
      ∙ ap (λ (us : List ℕ). before.rest ++ us) (p.used ∙ ap (λ (us : List ℕ). zeros back ++ us) keeps)
      ∙ sym (append_assoc before.rest (zeros back) left) in
      record {
        used = sym (last_at after.rest after.taken n refl) ∙ ap (last n) all ∙ last_at (before.rest ++ zeros back) left n long;
        unused =
            sym (front_at after.rest after.taken n refl) ∙ ap (front n) all ∙ front_at (before.rest ++ zeros back) left n long
            ∙ ap (λ (k : ℕ). before.rest ++ zeros k) is;
        limited = limited ∙ p.limited ∙ same;
      }

module _ {S : Type 0} (list : S → List ℕ) (limit : S → ℕ) where
  -- the list of a space's store is the rest and then what is taken
  pub parts_length : (a : S) (used : ℕ) → (let s = parts_of list limit a used in length s.rest + length s.taken ≡ length (list a))
  parts_length a used = omega (arith, length_front used (list a), length_last used (list a))

  -- a put leaves the length of the store's list as it was
  pub placed_length : (a b : S) (m n : ℕ) (bytes : List ℕ) → Placed (parts_of list limit a m) (parts_of list limit b n) true bytes → length (list b) ≡ length (list a)
  placed_length a b m n bytes p =
      sym (parts_length b n) ∙ placed_held (parts_of list limit a m) (parts_of list limit b n) bytes p ∙ parts_length a m
