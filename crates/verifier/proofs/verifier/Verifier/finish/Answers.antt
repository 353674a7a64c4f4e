use Rattle.std.proofs.Common.{refl, ap}
use Rattle.reading.specs.Reading.{ascend, with_depth}
use Rattle.verifier.proofs.verifier.Verifier.finish.Goals as goal

pub returns : goal.returns
unfolding ascend
returns c = record {
  result = refl;
  counters = ap (with_depth c.args.self.now.counters) c.saturating_sub-self.ensures;
  trace = refl;
  traced = refl;
  quiet = refl;
  kept = record { buffer = refl; opts = refl; lent = refl };
}
