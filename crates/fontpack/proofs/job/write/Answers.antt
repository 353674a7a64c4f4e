use Rattle.std.proofs.Common.{map, length, arith}
use Rattle.std.proofs.lemmas.Grind.{common_steps}
use Rattle.font.specs.Laws.{kern_law}
use Rattle.font.specs.Structs.{kern}
use Rattle.wire.specs.Pushed.{layout, pushed, all_of}
use Rattle.wire.proofs.Rows.{length_string, length_vector}
use Rattle.fontpack.proofs.job.write.Goals as goal

pub returns-clause-places : goal.returns-clause-places
returns-clause-places g c =
    let kerns = c.args.kerns.now in
    let named = c.create_byte_string.new.space in
    let string = length_string c.args.name.now (length c.args.space.now.taken) in
    let vector = length_vector (layout kern kern_law) (map (pushed kern kern_law) kerns) (length named.taken) (all_of kern kern_law kerns) in
    grind (arith, common_steps)
