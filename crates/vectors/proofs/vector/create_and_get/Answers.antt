use Rattle.std.proofs.Common.{ℕ, ◌*◌, ◌≤◌, List, [], map, length, get_or, Some, Ok, sym, refl, ap, ◌∙◌, subst}
use Rattle.std.proofs.lemmas.List.{length-map}
use Rattle.wire.specs.Layouts.{element, vector_space}
use Rattle.wire.specs.Pushed.{layout, pushed}
use Rattle.wire.proofs.Rows.{reads_back}
use Rattle.vectors.proofs.Created.{vector_passed}
use Rattle.vectors.proofs.vector.create_and_get.Goals as goal

pub returns : goal.returns
returns g c d _ h =
    let m = g.T.Kind.meaning in
    let law = g.T.Kind.lawful in
    let used = c.args.space.now.taken in
    let items = c.args.items.now in
    let made = c.in_ok-create_vector.ensures in
    let passed = vector_passed (layout m law) (map (pushed m law) items) (length used) _ _ _ made.wrote.answer in
    let low = subst (λ (n : ℕ). vector_space (length used) (n * m.size) m.alignment ≤ 2147483647) (length-map items (pushed m law)) passed.1 in
    let back = (reads_back m law items [] used (made.fit refl) passed.0 low).1 c.args.i d h in
    let bytes = c.as_slice.ensures ∙ made.wrote.space.used in
    ap Ok (c.get.ensures ∙ ap (λ (b : List ℕ). element m b 4 (length items) c.args.i) bytes ∙ back
    ∙ ap (λ (b : List ℕ). Some (m.shown (get_or items c.args.i d) (length b))) (sym made.wrote.space.used))
