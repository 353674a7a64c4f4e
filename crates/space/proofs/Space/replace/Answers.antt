use Rattle.std.proofs.Common.{◌≡◌, ◌+◌, ◌≤◌, true, length, sym, ap, ◌∙◌, arith, cond}
use Rattle.std.proofs.lemmas.Bool.{le-leb, leb-true}
use Rattle.wire.specs.Bytes.{last, written}
use Rattle.wire.proofs.Lists.{length_last, last_put}
use Rattle.space.specs.Taken.{Parts}
use Rattle.space.proofs.Space.replace.Goals as goal

pub returns-clause-taken : goal.returns-clause-taken
returns-clause-taken g c =
    let s = c.self.inside in
    let xs = g.S.Allocator.list s.allocator in
    let bytes = c.args.bytes.now in
    let i = c.args.i in
    let fits : i + length bytes ≤ length (last s.used xs) = omega (arith, length_last s.used xs, leb-true _ _ (sym c.if-not-inside.ensures)) in
    let done : c.put.result ≡ true = c.put.ensures.value ∙ le-leb _ _ (omega (arith, length_last s.used xs)) in
    last_put c.put.result s.used xs _ i bytes _ done c.put.ensures.list (omega arith) fits
    ∙ ap (λ (p : Parts g.row.S.Denot). cond c.put.result (written p.taken i bytes) p.taken) c.self.view_is
