use Rattle.std.proofs.Common.{refl}
use lib.Ieee.{to_bits, eq}
use Rattle.wire.specs.Utf8.{longest_prefix, well_formed}
use Rattle.wire.proofs.examples.examples_hold.Goals as goal

pub returns : goal.returns
unfolding longest_prefix well_formed to_bits eq
returns c =
    record {
      lists = (refl, refl, refl, refl, refl, refl, refl, refl);
      words = (refl, refl, refl, refl, refl, refl, refl, refl, refl, refl, refl, refl, refl);
      layouts = (refl, refl, refl, refl, refl, refl, refl);
      text = (refl, refl, refl, refl, refl, refl, refl, refl);
      answer = refl;
    }
