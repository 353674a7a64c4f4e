use Rattle.std.proofs.Common.{is_some, ap, ◌∙◌, arith}
use Rattle.tables.specs.Fields.{fields}
use Rattle.tables.proofs.Places.{full_allows}
use Rattle.tables.proofs.field_locs.FieldLocs.room_for.Goals as goal

pub returns-else-len-lt-SLOTS : goal.returns-else-len-lt-SLOTS
returns-else-len-lt-SLOTS c =
    c.is_some.ensures ∙ ap is_some c.place.ensures ∙ full_allows (fields c.args.self.now) c.args.slot (omega arith)
