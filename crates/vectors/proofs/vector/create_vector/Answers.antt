use Rattle.std.proofs.Common.{◌≡◌, ℕ, ◌+◌, ◌*◌, true, List, ◌++◌, map, length, Ok, sym, refl, ap, ◌∙◌, subst, mul-le-mul_left, arith, rules}
use Rattle.std.proofs.lemmas.Grind.{common_steps}
use Rattle.std.proofs.lemmas.List.{length-map}
use Rattle.space.specs.Taken.{Placed, Prepended}
use Rattle.space.proofs.Spaces.{prepended_used}
use Rattle.wire.specs.Answers.{vector_tests}
use Rattle.wire.specs.Bytes.{zeros}
use Rattle.wire.specs.Layouts.{row, vector_bytes, vector_offset, vector_padding}
use Rattle.wire.specs.Pushed.{Pushed, Layout, layout, pushed, all_of}
use Rattle.wire.specs.Words.{le}
use Rattle.wire.proofs.Decided.{decided_other}
use Rattle.wire.proofs.Rows.{length_code, length_vector}
use Rattle.vectors.proofs.Created.{vector_passed}
use Rattle.vectors.proofs.Padded.{prepended_headed}
use Rattle.vectors.proofs.vector.create_vector.Given as given
use Rattle.vectors.proofs.vector.create_vector.Goals as goal

module _ (g : given.Over) (c : goal.After-used g) where
  abbrev used : ℕ
  used = length c.args.space.now.taken

  abbrev kind : Layout
  kind = layout g.T.Kind.meaning g.T.Kind.lawful

  abbrev code : List Pushed
  code = map (pushed g.T.Kind.meaning g.T.Kind.lawful) c.args.items.now

  -- the vector is written
  written : Prepended c.args.space.now c.put_front.new.self true (vector_bytes kind code used)
  written =
      let m = g.T.Kind.meaning in
      let s = c.args.space.now in
      let last = c.put_front.new.self in
      let items = c.args.items.now in
      let pad : ℕ = vector_padding used (length items * m.size) m.alignment in
      let is : c.in_ok-pad.pad ≡ pad = search rules in
      let zeroed = subst (λ (k : ℕ). Placed c.room_for_vector.new.space c.put_zeros.new.self c.put_zeros.result (zeros k)) is c.put_zeros.ensures in
      let headed = subst (λ (l : List ℕ). Placed c.put_row.new.space last c.put_front.result l) c.to_le_bytes.ensures c.put_front.ensures in
      let done = prepended_headed s _ _ _ _ _ pad (length items * m.size) _ (row code) (length_code m g.T.Kind.lawful items) c.in_ok-pad.ensures.space zeroed c.put_row.ensures.placed
      last _ (le 4 (length items)) refl headed in
      subst (λ (n : ℕ). Prepended s last true (le 4 n ++ (row code (vector_padding used (n * m.size) m.alignment + used) ++ zeros (vector_padding used (n * m.size) m.alignment))))
      (sym (length-map items (pushed m g.T.Kind.lawful))) done

  offset : length c.put_front.new.self.taken ≡ vector_offset kind code used
  offset =
      let size = length_vector kind code used (all_of g.T.Kind.meaning g.T.Kind.lawful c.args.items.now) in
      prepended_used c.args.space.now c.put_front.new.self _ _ size written

pub returns-in_err-pad-clause-wrote : goal.returns-in_err-pad-clause-wrote
returns-in_err-pad-clause-wrote g c =
    let m = g.T.Kind.meaning in
    let law = g.T.Kind.lawful in
    let items = c.args.items.now in
    let code = map (pushed m law) items in
    let count = length-map items (pushed m law) in
    let size = length_vector (layout m law) code (length c.args.space.now.taken) (all_of m law items) in
    record { answer = search rules; space = grind (arith, common_steps) }

pub overflow_cast-items : goal.overflow_cast-items
overflow_cast-items g c =
    let m = g.T.Kind.meaning in
    let law = g.T.Kind.lawful in
    let items = c.args.items.now in
    let count = length-map items (pushed m law) in
    let passed = vector_passed (layout m law) (map (pushed m law) items) (length c.args.space.now.taken) _ _ _ c.in_ok-pad.ensures.answer in
    let low = rw count at passed.1 in
    let k = mul-le-mul_left (length items) law.sized in
    omega arith

pub overflow_cast-result : goal.overflow_cast-result
overflow_cast-result g c =
    let passed = vector_passed (kind g c) (code g c) (used g c) _ _ _ c.in_ok-pad.ensures.answer in
    let last = offset g c in
    omega arith

pub returns-clause-wrote : goal.returns-clause-wrote
returns-clause-wrote g c =
    record {
      answer = ap Ok (c.used.ensures ∙ offset g c) ∙ decided_other _ (vector_tests (kind g c) (code g c) (used g c) c.args.space.now.limit) _ _ c.in_ok-pad.ensures.answer;
      space = written g c;
    }
