use Rattle.std.proofs.Common.{arith}
use Rattle.store.proofs.Quotas.{grown_under}
use Rattle.store.proofs.quota.QuotaAllocator.grow_downwards.Goals as goal

pub returns-clause-grown : goal.returns-clause-grown
returns-clause-grown g c =
    rw c.map_err.ensures.variant (grown_under _ _ _ _ _ _ (omega arith) (g.S.Allocator.within c.grow_downwards.new.self) c.grow_downwards.ensures)
