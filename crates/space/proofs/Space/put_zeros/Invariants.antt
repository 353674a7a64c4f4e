use Rattle.std.proofs.Common.{◌*◌, true}
use Rattle.wire.specs.Bytes.{zeros}
use Rattle.space.specs.Taken.{Placed}
use Rattle.space.proofs.Space.put_zeros.Given as goal

abbrev pub invariant-loop : goal.invariant-loop
invariant-loop g l = Placed l.initial.self l.self true (zeros (64 * l.counter))
