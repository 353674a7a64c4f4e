use Rattle.std.proofs.Common.{◌^◌, ◌<◌, length, ◌∙◌, sym, arith, rules}
use Rattle.verifier.proofs.Whole.{whole}
use Rattle.verifier.proofs.verifier.verify_at.Goals as goal

pub returns : goal.returns
returns g c =
    let l : length c.args.input.now < 2 ^ 63 = omega arith in
    let same = sym (c.run_verifier-result.ensures.kept.lent ∙ c.new-v.ensures.lent) in
    record { verified = whole g.T.Verifiable.shape c.args.pos c.args.input.now c.args.opts.now l _ _ _ _ _ _ _ c.new-v.ensures c.run_verifier-result.ensures c.counters.ensures c.traced.ensures (search (rules, same)) }
