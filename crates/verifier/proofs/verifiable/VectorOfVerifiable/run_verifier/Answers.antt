use Rattle.std.proofs.Common.{refl, ap, ◌∙◌}
use Rattle.reading.specs.Reading.{reading, vector_range}
use Rattle.verifier.proofs.Walks.{seen_told, seen_err, seen_answer, seen_is}
use Rattle.verifier.proofs.verifiable.VectorOfVerifiable.run_verifier.Goals as goal

pub returns-in_err-vector_range : goal.returns-in_err-vector_range
unfolding reading
returns-in_err-vector_range g c =
    seen_told
    (seen_is (ap (λ n. vector_range c.args.pos n c.alignment.result) c.size.ensures ∙ ap (vector_range c.args.pos g.T.Kind.meaning.size) c.alignment.ensures)
    (seen_err _ _ c.from_residual.ensures.1 c.in_err-vector_range.ensures.seen))

pub returns : goal.returns
unfolding reading
returns g c =
    seen_told
    (seen_is (ap (λ n. vector_range c.args.pos n c.alignment.result) c.size.ensures ∙ ap (vector_range c.args.pos g.T.Kind.meaning.size) c.alignment.ensures)
    (seen_answer _ _ refl c.in_ok-vector_range.ensures.seen))
