use Rattle.std.proofs.Common.{rules, ◌≡◌, ◌+◌, sym, ap, ◌∙◌, length, arith}
use Rattle.model.specs.Tables.{equal_object, signed, table_offset, table_returns, word_padding}
use Rattle.tables.specs.Fields.{offsets}
use Rattle.tables.specs.Ends.{ended_vtable, equal_vtable}
use Rattle.tables.specs.Writing.{vtable_of}
use Rattle.tables.proofs.Ending.{fronted_new, fronted_found, fronted_as, table_size}
use Rattle.tables.proofs.VTables.{writer_bounds}
use Rattle.tables.proofs.end_table.end_table.Goals as goal
use Rattle.tables.proofs.end_table.end_table.Goals.{in-Some, in-None+else-not-push}

pub put_table-requires-clause-room : goal.put_table-requires-clause-room
put_table-requires-clause-room g c =
    let b = writer_bounds c.new-vtable.result in
    let more = c.make_space.ensures.room (sym c.in_ok-map_err.ensures.variant) in
    omega (arith, more, ap length c.make_space.ensures.kept)

pub put_table-requires-in-None-clause-room : goal.put_table-requires-in-None-clause-room
put_table-requires-in-None-clause-room g c =
    let b = writer_bounds c.new-vtable.result in
    let more = c.make_space.ensures.room (sym c.in_ok-map_err.ensures.variant) in
    omega (arith, more, ap length c.make_space.ensures.kept)

pub returns-clause-store : goal.returns-clause-store
returns-clause-store g c =
    let s = c.args.space.now in
    let mid = c.make_space.new.self in
    let t = c.new-vtable.result in
    let at : c.in_ok-table.table ≡ table_offset (length s.taken) = search rules in
    let vt = ended_vtable s c.args.field_locs.now c.args.start in
    let same : vtable_of t ≡ vt = search rules in
    let equal : equal_vtable s c.args.field_locs.now c.args.start c.args.vtables.now ≡ c.find-found.result =
    ap (λ v. equal_object s.taken v (offsets c.args.vtables.now)) (sym same) ∙ sym c.find-found.ensures in
    let kept = ap length c.make_space.ensures.kept in
    let long = ap length same in
    elim c.match-found.branch [
      | in-Some w ↦ fronted_as s w.release.new.self _ _ w.len-in-Some.result _ w.space-is
          (ap (table_returns vt) (equal ∙ w.in-Some.is) ∙ ap length (sym same) ∙ sym w.len-in-Some.ensures.value)
          (fronted_found s mid w.put_table.new.space _ _ _ _ c.in_ok-map_err.ensures.variant c.make_space.ensures w.put_table.ensures
          (omega (arith, table_size (vtable_of t) (signed w.in-Some.to t.table) (word_padding (length mid.taken)), c.len.ensures.value)) (omega (arith, c.len.ensures.value))
          w.release.new.self _ (omega (arith, c.len.ensures.value, w.len-in-Some.ensures.value)) w.release.ensures)
      | in-None+else-not-push w ↦ fronted_as s w.put_table-in-None.new.space _ _ 0 _ w.space-is (ap (table_returns vt) (equal ∙ w.in-None.is))
          (fronted_new s mid w.put_table-in-None.new.space _ _ _ _ c.in_ok-map_err.ensures.variant c.make_space.ensures w.put_table-in-None.ensures
          (omega (arith, table_size (vtable_of t) (signed (c.in_ok-table.table + c.len.result) t.table) (word_padding (length mid.taken)), c.len.ensures.value)) (omega (arith, c.len.ensures.value)))
    ]
