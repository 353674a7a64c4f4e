use Rattle.std.proofs.Common.{refl, ap}
use Rattle.reading.specs.Reading.{count_table, with_tables}
use Rattle.reading.specs.declared.invalid.InvalidFlatbuffer.TheVariants.{TooManyTables}
use Rattle.verifier.proofs.Walks.{seen_counted}
use Rattle.verifier.proofs.verifier.Verifier.count_table.Goals as goal

pub returns : goal.returns
unfolding count_table
returns c =
    seen_counted count_table TooManyTables _ c.args.self.now refl c.raise.ensures.answer (ap (with_tables c.args.self.now.counters) c.raise.ensures.value)
