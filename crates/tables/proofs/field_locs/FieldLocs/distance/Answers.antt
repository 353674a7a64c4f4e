use Rattle.std.proofs.Common.{rules, tests, eqb}
use Rattle.std.proofs.lemmas.Iterator.{YieldsList-from_slice}
use Rattle.std.proofs.lemmas.Iterator.Search.{find_from_yields_List}
use Rattle.tables.specs.Fields.{fields}
use Rattle.tables.proofs.Places.{distance_of}
use Rattle.tables.proofs.field_locs.FieldLocs.distance.Goals as goal

pub returns : goal.returns
returns c =
    let rs = fields c.args.self.now in
    let s = c.args.slot in
    distance_of rs s c.args.table _ c.find.result _
    (find_from_yields_List (λ r. eqb s r.id) _ _ c.find.result c.find.ensures.ran (YieldsList-from_slice rs cc) (λ x b q k. search (rules, tests)))
    c.map_or.ensures (λ r p. search (rules, tests))
