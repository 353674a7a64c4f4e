use Rattle.std.proofs.Common.{rules, tests, ℕ, ◌+◌, List, length, take, eqb, get_or, refl, ap, ◌∙◌, arith}
use Rattle.std.proofs.lemmas.Iterator.{YieldsList-from_range}
use Rattle.std.proofs.lemmas.Iterator.Search.{all_from_yields_List}
use Rattle.std.proofs.lemmas.Bool.{lt-leb}
use Rattle.std.specs.Str.{bytes_eq}
use Rattle.tables.specs.Writing.{vtable_of}
use Rattle.tables.proofs.Objects.{object_at, bytes_short, range_holds}
use Rattle.tables.proofs.VTables.{writer_bounds}
use Rattle.tables.proofs.vtable_writer.VTableWriter.stands_at.Goals as goal

pub returns-else-used-start : goal.returns-else-used-start
returns-else-used-start g c =
    let us = c.args.space.now.taken in
    let vt = vtable_of c.args.self.now in
    let b = writer_bounds c.args.self.now in
    let start = c.saturating_sub-start.result in
    lt-leb _ _ c.if-used-start.false ∙ bytes_short us vt start (omega arith)
    ∙ ap (λ (v : List ℕ). bytes_eq (take (length vt) v) vt) (object_at us c.args.off start (omega arith))

pub returns-then-used-start : goal.returns-then-used-start
returns-then-used-start g c =
    let us = c.args.space.now.taken in
    let vt = vtable_of c.args.self.now in
    let b = writer_bounds c.args.self.now in
    let start = c.saturating_sub-start.result in
    all_from_yields_List (λ i. eqb (get_or us (start + i) 0) (get_or vt i 0)) _ _ c.all.result c.all.ensures.ran
    (YieldsList-from_range 0 c.args.self.now.len (length vt) refl (omega arith)) (λ x b q k. search (rules, tests))
    ∙ range_holds us vt start (omega arith)
    ∙ ap (λ (v : List ℕ). bytes_eq (take (length vt) v) vt) (object_at us c.args.off start (omega arith))
