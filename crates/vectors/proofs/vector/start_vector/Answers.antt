use Rattle.std.proofs.Common.{◌≡◌, ◌*◌, ◌≤◌, length, arith, rules}
use Rattle.std.proofs.lemmas.Grind.{common_steps}
use Rattle.wire.specs.Layouts.{vector_padding, vector_space}
use Rattle.vectors.proofs.vector.start_vector.Goals as goal

pub returns : goal.returns
returns g c =
    let m = g.T.Kind.meaning in
    let used = length c.args.space.now.taken in
    let size : c.saturating_mul-size.result ≡ c.args.count * m.size = search rules in
    let low : vector_space used (c.args.count * m.size) m.alignment ≤ 2147483647 = search rules in
    let pad : c.in_ok-pad.pad ≡ vector_padding used (c.args.count * m.size) m.alignment = search rules in
    record { answer = grind (arith, common_steps); space = search rules }
