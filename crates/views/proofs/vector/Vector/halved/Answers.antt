use Rattle.std.proofs.Common.{arith}
use Rattle.views.proofs.Halving.{none_met, found_equal, reached_less, none_below, reached_greater}
use Rattle.views.proofs.vector.Vector.halved.Goals as goal

pub returns-in_err-value-clause-value : goal.returns-in_err-value-clause-value
returns-in_err-value-clause-value g c =
    rw c.from_residual-in_err-value.ensures (none_met c.loop-left.invariant.reached c.loop-left-test.true c.in_err-value.ensures.value)

pub returns-in-Equal-clause-value : goal.returns-in-Equal-clause-value
returns-in-Equal-clause-value g c =
    let v = c.in_ok-value in
    found_equal c.loop-left.invariant.reached c.loop-left-test.true v.value v.ensures.borrowed v.ensures.value c.in-Equal.ensures

pub loop-left-preserved-in-Less : goal.loop-left-preserved-in-Less
loop-left-preserved-in-Less g c =
    let v = c.in_ok-value in
    record {
      inside = c.loop-left.invariant.inside;
      reached = reached_less c.loop-left.invariant.reached c.loop-left-test.true v.value v.ensures.borrowed v.ensures.value c.in-Less.ensures;
    }

pub returns-in_err-right-in-Greater-clause-value : goal.returns-in_err-right-in-Greater-clause-value
returns-in_err-right-in-Greater-clause-value g c =
    let v = c.in_ok-value in
    rw c.from_residual-in_err-right-in-Greater.ensures
    (none_below c.loop-left.invariant.reached c.loop-left-test.true v.value v.ensures.borrowed v.ensures.value c.in-Greater.ensures c.in_err-right-in-Greater.ensures)

pub loop-left-preserved : goal.loop-left-preserved
loop-left-preserved g c =
    let v = c.in_ok-value in
    let below = c.in_ok-right-in-Greater in
    record {
      inside = omega (arith, c.loop-left.invariant.inside, below.ensures.1);
      reached = reached_greater c.loop-left.invariant.reached c.loop-left-test.true v.value v.ensures.borrowed v.ensures.value c.in-Greater.ensures below.right below.ensures.0 below.ensures.1;
    }
