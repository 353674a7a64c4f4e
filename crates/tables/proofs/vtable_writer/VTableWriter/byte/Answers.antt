use Rattle.std.proofs.Common.{◌∙◌, arith}
use Rattle.tables.specs.Fields.{fields}
use Rattle.tables.proofs.VTables.{writer_bounds, part_of, vtable_at}
use Rattle.tables.proofs.vtable_writer.VTableWriter.byte.Goals as goal
use Rattle.tables.proofs.vtable_writer.VTableWriter.byte.Goals.{then-i-lt2, else-i-lt2+then-i-lt4, else-i-lt2+else-i-lt4}

pub overflow_cast-i : goal.overflow_cast-i
overflow_cast-i c = let b = writer_bounds c.args.self.now in omega arith

pub returns : goal.returns
returns c =
    let w = c.args.self.now in
    let f = w.field_locs.now in
    let i = c.args.i in
    let word = c.if-i-lt2.word in
    part_of word i _ _ c.to_le_bytes.ensures
    ∙ elim c.if-i-lt2.branch [
      | then-i-lt2 v ↦ vtable_at w.table w.size (fields f) i word f.slots (omega (arith, w.long)) (λ h. v.word-is ∙ w.long) (λ h k. absurd (omega (arith, v.if-i-lt2.true))) (λ h. absurd (omega (arith, v.if-i-lt2.true)))
      | else-i-lt2+then-i-lt4 v ↦ vtable_at w.table w.size (fields f) i word f.slots (omega (arith, w.long)) (λ h. absurd (omega (arith, v.if-i-lt2.false))) (λ h k. v.word-is) (λ h. absurd (omega (arith, v.if-i-lt4.true)))
      | else-i-lt2+else-i-lt4 v ↦ vtable_at w.table w.size (fields f) i word f.slots (omega (arith, w.long)) (λ h. absurd (omega (arith, v.if-i-lt2.false))) (λ h k. absurd (omega (arith, v.if-i-lt4.false))) (λ h. v.word-is ∙ v.distance.ensures)
    ]
