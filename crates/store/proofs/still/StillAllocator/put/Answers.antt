use Rattle.std.proofs.Common.{sym, arith}
use Rattle.std.proofs.lemmas.Bool.{leb-true}
use Rattle.wire.proofs.Lists.{length_last_le, last_put_mid}
use Rattle.store.proofs.still.StillAllocator.put.Goals as goal

pub returns-clause-list : goal.returns-clause-list
returns-clause-list c =
    let s = c.args.self.now in
    let fits = leb-true _ _ (sym c.if-not-inside.ensures) in
    let long = length_last_le s.len s.bytes (omega arith) in
    last_put_mid s.len s.bytes c.args.start c.args.bytes.now _ _ c.copy_from_slice.new.self c.copy_from_slice.ensures.after (omega arith) (omega arith) (omega arith)
