use Rattle.std.proofs.Common.{max, length, refl, ap, lit<}
use Rattle.model.specs.Calls.{Call, at}
use Rattle.wire.specs.Answers.{push_tests}
use Rattle.wire.specs.Layouts.{pushed_bytes}
use Rattle.wire.proofs.Decided.{decided_pass}
use Rattle.wire.proofs.Rows.{length_pushed}
use Rattle.vectors.specs.Items.{item}
use Rattle.builder.specs.View.{view}
use Rattle.builder.proofs.Wrapped.{did_done, did_handed, did_refused, unfinished, wrote_is, wrote_passed, wrote_short, wrote_value}
use Rattle.builder.proofs.builder.FlatBufferBuilder.push.Goals as goal

pub returns-in_err-off : goal.returns-in_err-off
returns-in_err-off g c =
    let b = c.args.self.now in
    let x = item g.T.Kind c.args.x.now in
    let ts = push_tests x (length b.space.taken) b.space.limit in
    did_handed c.from_residual-in_err-off.ensures.1
    (did_refused b _ (Call.push x) refl at (lit< tt, (lit< tt, (lit< tt, tt))) c.in_err-off.ensures.wrote
    (λ y. decided_pass y _ ts (unfinished _ _ c.in_ok-assert_not_finished.ensures)) (length_pushed x (length b.space.taken)))

pub invariant_of-self-2 : goal.invariant_of-self-2
invariant_of-self-2 g c =
    let made = c.in_ok-off.ensures.wrote in
    record { short = wrote_short made (length_pushed (item g.T.Kind c.args.x.now) (length c.args.self.now.space.taken)) (wrote_passed made).1.0 }

pub returns : goal.returns
returns g c =
    let b = c.args.self.now in
    let x = item g.T.Kind c.args.x.now in
    let ts = push_tests x (length b.space.taken) b.space.limit in
    let used = length b.space.taken in
    let made = c.in_ok-off.ensures.wrote in
    rw c.track_min_align.ensures (did_done b _ (Call.push x) at c.in_ok-off.off made
    (λ y. decided_pass y _ ts (unfinished _ _ c.in_ok-assert_not_finished.ensures))
    (ap at (wrote_value made))
    (wrote_is (view b) _ _ x.alignment _ (pushed_bytes x used) made.space.limited made.space.used (ap (max b.inner.min_align) c.alignment.ensures))
    refl (length_pushed x used))
