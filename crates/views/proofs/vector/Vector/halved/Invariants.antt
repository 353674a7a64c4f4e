use Rattle.std.proofs.Common.{◌+◌, ◌-◌, ◌<◌}
use Rattle.views.specs.Lookup.{HalvedTo, count_of}
use Rattle.views.proofs.vector.Vector.halved.Given as goal

abbrev pub invariant-loop-left : goal.invariant-loop-left
invariant-loop-left g l =
    record {
      inside : l.right < count_of l.self;
      reached : HalvedTo g.T.Follow g.K.KeyOrder l.self l.key l.left l.right;
    }

abbrev pub decreases-loop-left : goal.decreases-loop-left
decreases-loop-left g l = l.right + 1 - l.left
