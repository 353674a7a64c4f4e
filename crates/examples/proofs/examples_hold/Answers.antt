use Rattle.std.proofs.Common.{refl}
use lib.Ieee.{eq}
use Rattle.wire.specs.Utf8.{longest_prefix, well_formed}
use Rattle.examples.proofs.examples_hold.Goals as goal

pub returns : goal.returns
unfolding longest_prefix well_formed eq
returns c =
    record {
      buffers = (refl, refl, refl, refl);
      fields = ((refl, refl, refl, refl), refl, refl, refl);
      strings = (refl, refl, refl);
      told = (refl, refl, refl, refl, refl, refl, refl, refl, refl, refl);
      answer = refl;
    }
