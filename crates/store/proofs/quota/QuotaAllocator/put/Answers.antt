use Rattle.std.proofs.Common.{◌≡◌, true, sym, ◌∙◌, arith}
use Rattle.std.proofs.lemmas.Bool.{leb-true, le-leb}
use Rattle.wire.proofs.Lists.{length_last, last_put}
use Rattle.store.proofs.quota.QuotaAllocator.put.Goals as goal

pub returns-clause-list : goal.returns-clause-list
returns-clause-list g c =
    let s = c.args.self.now in
    let below = g.S.Allocator.list s.store in
    let fits = leb-true _ _ (sym c.if-not-inside.ensures) in
    let long = length_last s.quota below in
    let done : c.put.result ≡ true = c.put.ensures.value ∙ le-leb _ _ (omega arith) in
    last_put c.put.result s.quota below _ c.args.start c.args.bytes.now _ done c.put.ensures.list (omega arith) (omega arith)
