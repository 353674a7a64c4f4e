use Rattle.std.proofs.Common.{◌<◌, ap, ◌∙◌, arith}
use Rattle.model.specs.Tables.{equal_object}
use Rattle.tables.specs.Writing.{vtable_of}
use Rattle.tables.proofs.Objects.{found_some, found_none}
use Rattle.tables.proofs.vtable_writer.VTableWriter.find.Goals as goal

pub returns-then-stands_at : goal.returns-then-stands_at
returns-then-stands_at g c =
    let us = c.args.space.now.taken in
    let vt = vtable_of c.args.self.now in
    found_some us vt _ c.loop-vtable.vtable-index (omega arith) c.loop-vtable.invariant c.if-stands_at.ensures
    ∙ ap (equal_object us vt) c.as_slice-vtable-items.ensures.value

pub returns : goal.returns
returns g c =
    let us = c.args.space.now.taken in
    let vt = vtable_of c.args.self.now in
    found_none us vt _ (λ k h. let l : k < c.loop-vtable.vtable-index = omega arith in c.loop-vtable.invariant k l)
    ∙ ap (equal_object us vt) c.as_slice-vtable-items.ensures.value
