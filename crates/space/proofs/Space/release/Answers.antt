use Rattle.std.proofs.Common.{◌≡◌, ◌+◌, ◌-◌, ℕ, ◌++◌, length, refl, sym, ap, ◌∙◌, arith, length-append}
use lib.ListN.{length-replicate}
use Rattle.wire.specs.Bytes.{front, last, zeros}
use Rattle.wire.proofs.Lists.{length_last, length_front, front_last, front_front, drop_last}
use Rattle.space.specs.Taken.{Parts}
use Rattle.space.proofs.Spaces.{placed_done, released}
use Rattle.space.proofs.Space.release.Goals as goal

pub overflow_sub-self-2 : goal.overflow_sub-self-2
overflow_sub-self-2 g c =
    let s = c.self.inside in
    let xs = g.S.Allocator.list s.allocator in
    let t = c.self-2.inside in
    let back = c.min-back.result in
    let zeroed = c.put_zeros.new.self in
    let many = length-replicate {A = ℕ} back 0 in
    let put = placed_done _ zeroed c.put_zeros.result (zeros back) (omega (arith, length_front (s.used - back) xs)) c.put_zeros.ensures in
    let long : length zeroed.taken ≡ t.used = sym (ap (λ (p : Parts g.row.S.Denot). length p.taken) c.self-2.view_is) ∙ omega (arith, length_last t.used (g.S.Allocator.list t.allocator)) in
    omega (arith, ap length put.used, length-append (zeros back) (last (s.used - back) xs))

pub returns : goal.returns
returns g c =
    let s = c.self.inside in
    let xs = g.S.Allocator.list s.allocator in
    let t = c.self-2.inside in
    let ys = g.S.Allocator.list t.allocator in
    let back = c.min-back.result in
    let left = s.used - back in
    let zeroed = c.put_zeros.new.self in
    let many = length-replicate {A = ℕ} back 0 in
    let before = length_last s.used xs in
    let put = placed_done _ zeroed c.put_zeros.result (zeros back) (omega (arith, length_front left xs)) c.put_zeros.ensures in
    let long : length zeroed.taken ≡ t.used = sym (ap (λ (p : Parts g.row.S.Denot). length p.taken) c.self-2.view_is) ∙ omega (arith, length_last t.used ys) in
    let more = ap length put.used ∙ length-append (zeros back) (last left xs) in
    let all : back + left ≡ s.used = omega arith in
    let is : c.args.self.now ≡ _ = sym c.self.view_is in
    rw is (released _ _ zeroed _ c.args.count back (omega arith) (drop_last s.used c.args.count left xs (omega arith))
    (front_front back left xs ∙ ap (λ (k : ℕ). front k xs) all) refl put
    (front_last (t.used - back) ys ∙ sym (front_last t.used ys) ∙ ap (λ (p : Parts g.row.S.Denot). p.rest ++ p.taken) c.self-2.view_is)
    (omega (arith, length_last (t.used - back) ys, length_last left xs))
    (ap (λ (p : Parts g.row.S.Denot). p.limit) c.self-2.view_is))
