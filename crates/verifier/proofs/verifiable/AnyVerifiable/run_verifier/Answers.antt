use Rattle.std.proofs.Common.{ap, ◌∙◌}
use Rattle.reading.specs.Reading.{reading, in_buffer}
use Rattle.verifier.proofs.Walks.{seen_told, seen_is}
use Rattle.verifier.proofs.verifiable.AnyVerifiable.run_verifier.Goals as goal

pub returns : goal.returns
unfolding reading
returns g c =
    seen_told
    (seen_is (ap (λ n. in_buffer c.args.pos n c.alignment.result) c.size.ensures ∙ ap (in_buffer c.args.pos g.T.Kind.meaning.size) c.alignment.ensures) c.in_buffer.ensures)
