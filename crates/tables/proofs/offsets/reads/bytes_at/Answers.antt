use Rattle.std.proofs.Common.{rules, tests, ◌+◌, eqb, get_or, ◌∙◌, arith}
use Rattle.std.proofs.lemmas.Iterator.{YieldsList-from_slice}
use Rattle.std.proofs.lemmas.Iterator.Consumers.{YieldsList-from_enumerate}
use Rattle.std.proofs.lemmas.Iterator.Search.{all_from_yields_List}
use Rattle.tables.proofs.Objects.{bytes_hold}
use Rattle.tables.proofs.offsets.reads.bytes_at.Goals as goal

pub returns-then-saturating_sub-bytes : goal.returns-then-saturating_sub-bytes
returns-then-saturating_sub-bytes g c =
    let us = c.args.space.now.taken in
    let bs = c.args.bytes.now in
    all_from_yields_List (λ p. eqb (get_or us (c.args.start + p.0) 0) p.1) _ _ c.all.result c.all.ensures.ran
    (YieldsList-from_enumerate (YieldsList-from_slice bs cc) cc) (λ x b q k. search (rules, tests))
    ∙ bytes_hold us bs c.args.start (omega arith)
