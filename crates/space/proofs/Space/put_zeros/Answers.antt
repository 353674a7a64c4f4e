use Rattle.std.proofs.Common.{◌≡◌, ◌*◌, ◌%◌, true, List, ℕ, subst, arith}
use lib.ListN.{length-replicate}
use Rattle.wire.specs.Bytes.{zeros}
use Rattle.wire.proofs.Lists.{part_zeros}
use Rattle.space.specs.Taken.{Placed}
use Rattle.space.proofs.Spaces.{placed_fits, placed_rest, placed_zeros}
use Rattle.space.proofs.Space.put_zeros.Goals as goal

pub loop-preserved : goal.loop-preserved
loop-preserved g c =
    placed_zeros _ c.loop.self c.put_front.new.self c.put_front.result (64 * c.loop.counter) 64 _
    (omega arith) (omega arith) c.loop.invariant c.put_front.ensures

pub returns : goal.returns
returns g c =
    let s = c.args.self.now in
    let done = 64 * c.loop.counter in
    let more = c.args.count % 64 in
    let ok = c.put_front-2.result in
    let rest = placed_rest s c.loop.self (zeros done) c.loop.invariant in
    let many = length-replicate {A = ℕ} done 0 in
    let few = length-replicate {A = ℕ} more 0 in
    let put : Placed c.loop.self c.put_front-2.new.self ok (zeros more) =
    subst (λ (us : List ℕ). Placed c.loop.self c.put_front-2.new.self ok us) (part_zeros 0 more 64 more (omega arith) (omega arith)) c.put_front-2.ensures in
    let fits : ok ≡ true = placed_fits c.loop.self c.put_front-2.new.self ok (zeros more) (omega arith) put in
    rw fits (placed_zeros s c.loop.self c.put_front-2.new.self ok done more _ (omega arith) (omega arith) c.loop.invariant put)
