use Rattle.std.proofs.Common.{◌<◌, ◌++◌, length, ap, ◌∙◌, arith}
use Rattle.wire.specs.Words.{le}
use Rattle.model.specs.Tables.{equal_object}
use Rattle.tables.proofs.Objects.{found_some, found_none}
use Rattle.tables.proofs.offsets.Offsets.find_string.Goals as goal

pub returns-then-is_string : goal.returns-then-is_string
returns-then-is_string g c =
    let us = c.args.space.now.taken in
    let bs = le 4 (length c.args.text.now) ++ c.args.text.now in
    found_some us bs _ c.loop-off.off-index (omega arith) c.loop-off.invariant c.if-is_string.ensures
    ∙ ap (equal_object us bs) c.as_slice-off-items.ensures.value

pub returns : goal.returns
returns g c =
    let us = c.args.space.now.taken in
    let bs = le 4 (length c.args.text.now) ++ c.args.text.now in
    found_none us bs _ (λ k h. let l : k < c.loop-off.off-index = omega arith in c.loop-off.invariant k l)
    ∙ ap (equal_object us bs) c.as_slice-off-items.ensures.value
