use Rattle.std.proofs.Common.{cond, sym, refl, ap}
use Rattle.std.proofs.cmp.Tests.{iff_false}
use Rattle.std.proofs.lemmas.Bool.{eq-eqb, ne_eqb}
use Rattle.reading.specs.declared.invalid.InvalidFlatbuffer.TheVariants.{Unaligned}
use Rattle.reading.specs.Reading.{aligned, accept, refuse}
use Rattle.verifier.specs.Told.{done}
use Rattle.verifier.proofs.Walks.{seen_is, seen_accept, seen_refuse}
use Rattle.verifier.proofs.verifier.Verifier.is_aligned.Goals as goal

pub returns-then-is_multiple_of : goal.returns-then-is_multiple_of
unfolding aligned
returns-then-is_multiple_of c =
    seen_is (ap (λ t. cond t accept (refuse (Unaligned c.args.pos c.args.alignment))) (sym (eq-eqb _ _ (c.if-is_multiple_of.ensures.0 refl)))) (seen_accept done c.args.self.now)

pub returns-else-is_multiple_of : goal.returns-else-is_multiple_of
unfolding aligned
returns-else-is_multiple_of c =
    seen_is (ap (λ t. cond t accept (refuse (Unaligned c.args.pos c.args.alignment))) (sym (ne_eqb _ _ (iff_false c.if-is_multiple_of.ensures refl)))) (seen_refuse done (Unaligned c.args.pos c.args.alignment) c.args.self.now)
