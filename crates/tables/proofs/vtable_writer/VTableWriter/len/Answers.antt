use Rattle.tables.proofs.VTables.{writer_bounds}
use Rattle.tables.proofs.vtable_writer.VTableWriter.len.Goals as goal

pub returns : goal.returns
returns c = let b = writer_bounds c.args.self.now in record { value = b.0; bound = b.2 }
