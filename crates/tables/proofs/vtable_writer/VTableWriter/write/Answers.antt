use Rattle.std.proofs.Common.{◌++◌, List, ℕ, refl, ap, ◌∙◌, arith}
use Rattle.wire.specs.Words.{le}
use Rattle.tables.specs.Writing.{vtable_of}
use Rattle.tables.proofs.Rewrites.{zeroed, rewritten_length, placed_over}
use Rattle.tables.proofs.VTables.{writer_bounds, partial, started, slot_fits, one_more, written_all}
use Rattle.tables.proofs.vtable_writer.VTableWriter.write.Goals as goal

pub write_word-requires : goal.write_word-requires
write_word-requires g c =
    let b = writer_bounds c.args.self.now in
    omega (arith, (zeroed c.args.space.now c.put_zeros.new.self c.put_zeros.result c.args.self.now.len c.requires c.put_zeros.ensures).1)

pub write_word-requires-2 : goal.write_word-requires-2
write_word-requires-2 g c =
    let b = writer_bounds c.args.self.now in
    let long = (zeroed c.args.space.now c.put_zeros.new.self c.put_zeros.result c.args.self.now.len c.requires c.put_zeros.ensures).1 in
    omega (arith, rewritten_length c.put_zeros.new.self c.write_word.new.space 0 (le 2 c.args.self.now.len) (omega arith) c.write_word.ensures)

pub loop-loc-init : goal.loop-loc-init
loop-loc-init g c =
    let put = (zeroed c.args.space.now c.put_zeros.new.self c.put_zeros.result c.args.self.now.len c.requires c.put_zeros.ensures).0 in
    let head = started c.args.self.now _ c.as_slice-loc-items.ensures.value c.args.space.now.taken c.put_zeros.new.self.taken c.write_word.new.space.taken
    c.write_word-2.new.space.taken put.used c.write_word.ensures.taken c.write_word-2.ensures.taken in
    (head.0, refl, refl)

pub write_word-requires-in-loop-loc : goal.write_word-requires-in-loop-loc
write_word-requires-in-loop-loc g c =
    slot_fits c.args.self.now _ c.as_slice-loc-items.ensures.value c.loop-loc.loc-index _ _ c.loop-loc-test.true c.loop-loc.invariant.0

pub loop-loc-preserved : goal.loop-loc-preserved
loop-loc-preserved g c =
    let inv = c.loop-loc.invariant in
    let w = c.write_word-in-loop-loc.ensures in (
      one_more c.args.self.now _ c.as_slice-loc-items.ensures.value c.loop-loc.loc-index c.saturating_sub.result _ _ _ c.loop-loc-test.true c.saturating_sub.ensures inv.0 w.taken,
      w.rest ∙ inv.1,
      w.limited ∙ inv.2,
    )

pub returns : goal.returns
returns g c =
    let s = c.args.space.now in
    let w = c.args.self.now in
    let e = c.as_slice-loc-items.ensures.value in
    let i = c.loop-loc.loc-index in
    let inv = c.loop-loc.invariant in
    let one = c.write_word.ensures in
    let two = c.write_word-2.ensures in
    let put = (zeroed s c.put_zeros.new.self c.put_zeros.result w.len c.requires c.put_zeros.ensures).0 in
    let head = started w _ e s.taken c.put_zeros.new.self.taken c.write_word.new.space.taken c.write_word-2.new.space.taken put.used one.taken two.taken in
    let xs = c.as_slice-loc-items.result.now in
    placed_over s c.put_zeros.new.self c.loop-loc.space w.len (vtable_of w) put ((writer_bounds w).0)
    (inv.0 ∙ ap (λ (us : List ℕ). partial w.table w.size xs i ++ us) head.1 ∙ ap (λ (us : List ℕ). us ++ s.taken) (written_all w xs e i c.loop-loc-test.false))
    (inv.1 ∙ two.rest ∙ one.rest) (inv.2 ∙ two.limited ∙ one.limited)
