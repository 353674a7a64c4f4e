use Rattle.std.proofs.Common.{refl, ap}
use Rattle.reading.specs.Reading.{descend, with_depth}
use Rattle.reading.specs.declared.invalid.InvalidFlatbuffer.TheVariants.{DepthLimitReached}
use Rattle.verifier.proofs.Walks.{seen_counted}
use Rattle.verifier.proofs.verifier.Verifier.descend.Goals as goal

pub returns : goal.returns
unfolding descend
returns c =
    seen_counted descend DepthLimitReached _ c.args.self.now refl c.raise.ensures.answer (ap (with_depth c.args.self.now.counters) c.raise.ensures.value)
