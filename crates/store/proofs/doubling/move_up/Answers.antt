use Rattle.std.proofs.Common.{◌≡◌, length, ◌∙◌, arith, length-append, length-take}
use Rattle.wire.proofs.Lists.{moved_up}
use Rattle.store.proofs.doubling.move_up.Goals as goal

pub returns : goal.returns
returns c =
    let xs = c.args.bytes.now in
    let turned : length c.rotate_right.new.self ≡ c.args.next =
    c.rotate_right.ensures.len ∙ simp length-take (omega arith) in
    moved_up c.args.len c.args.next xs c.rotate_right.new.self c.fill.new.self _ _ _ _
    (omega arith) (omega arith) (omega arith) (omega arith) (simp length-take (omega arith))
    c.rotate_right.ensures.after (c.fill.ensures.after (λ y h. h)) (simp (length-take, length-append) (omega arith))
