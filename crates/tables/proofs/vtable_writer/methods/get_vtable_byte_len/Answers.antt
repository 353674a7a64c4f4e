use Rattle.std.proofs.Common.{arith}
use Rattle.tables.proofs.VTables.{length_more}
use Rattle.tables.proofs.vtable_writer.methods.get_vtable_byte_len.Goals as goal

pub loop-loc-preserved : goal.loop-loc-preserved
loop-loc-preserved c =
    omega (arith, length_more c.as_slice-loc-items.result.now c.loop-loc.loc-index (omega arith))
