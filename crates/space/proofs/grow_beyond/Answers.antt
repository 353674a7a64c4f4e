use Rattle.std.proofs.Common.{◌≡◌, ◌<◌, length, sym, refl, ap, ◌∙◌, arith}
use Rattle.std.proofs.lemmas.Result.{err_from_is_err_and}
use Rattle.std.proofs.lemmas.Bool.{le-leb, lt-leb, true≢false, false≢true}
use Rattle.wire.proofs.Lists.{raised_none, grown_grown}
use Rattle.space.proofs.grow_beyond.Goals as goal

pub loop-store-init : goal.loop-store-init
loop-store-init g c = (omega arith, sym (raised_none _ _ (omega arith)), refl, λ _. refl)

pub overflow_sub-len : goal.overflow_sub-len
overflow_sub-len g c = omega arith

pub loop-store-smaller : goal.loop-store-smaller
loop-store-smaller g c =
    let more = c.in_ok-grow_downwards.ensures in
    let longer = more.more refl in
    let limit = more.limit in
    let within = g.S.Allocator.within c.grow_downwards.new.self in
    omega arith

pub loop-store-preserved : goal.loop-store-preserved
loop-store-preserved g c =
    let more = c.in_ok-grow_downwards.ensures in
    let inv = c.loop-store.invariant in
    let longer : length (g.S.Allocator.list c.loop-store.store) < length (g.S.Allocator.list c.grow_downwards.new.self) = more.more refl in
    (omega arith, grown_grown _ _ _ inv.0 inv.1 (omega arith) more.list, more.limit ∙ inv.2, λ h. absurd (omega arith))

pub returns-in_err-grow_downwards : goal.returns-in_err-grow_downwards
returns-in_err-grow_downwards g c =
    let inv = c.loop-store.invariant in
    let same = c.in_err-grow_downwards.ensures in
    let p = err_from_is_err_and c.from_residual.result c.from_residual.ensures.1 in
    let list = (same.full refl).0 in
    let at : length (g.S.Allocator.list c.loop-store.store) ≡ g.S.Allocator.limit c.loop-store.store = (same.full refl).1 in
    rw p.1 record {
      value = sym (lt-leb _ _ (omega arith));
      list = grown_grown _ _ _ inv.0 inv.1 (omega (arith, ap length list)) same.list;
      limit = same.limit ∙ inv.2;
      room = λ no. absurd (false≢true no);
      full = λ _. ap length list ∙ at ∙ inv.2;
      enough = λ h. list ∙ inv.3 h;
    }

pub returns : goal.returns
returns g c =
    let inv = c.loop-store.invariant in
    let within = g.S.Allocator.within c.loop-store.store in
    record {
      value = sym (le-leb _ _ (omega arith));
      list = inv.1;
      limit = inv.2;
      room = λ _. omega arith;
      full = λ no. absurd (true≢false no);
      enough = inv.3;
    }
