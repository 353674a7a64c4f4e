use Rattle.std.proofs.Common.{◌≡◌, length, take, sym, refl, arith, length-take}
use Rattle.std.proofs.lemmas.Bool.{leb-true}
use Rattle.wire.proofs.Lists.{take_put_mid}
use Rattle.store.proofs.doubling.DoublingAllocator.put.Goals as goal

pub returns-clause-list : goal.returns-clause-list
returns-clause-list c =
    let s = c.args.self.now in
    let fits = leb-true _ _ (sym c.if-not-inside.ensures) in
    take_put_mid s.len s.bytes.now c.args.start c.args.bytes.now _ _ c.copy_from_slice.new.self c.copy_from_slice.ensures.after (omega arith) refl (omega (arith, length-take s.len s.bytes.now))
