use Rattle.std.proofs.Common.{ap, ◌∙◌}
use Rattle.reading.specs.Input.{saturated, u32_at}
use Rattle.reading.specs.Reading.{reading, follow}
use Rattle.verifier.proofs.Walks.{seen_told, seen_got, told_exit, told_then, told_given, told_is}
use Rattle.verifier.proofs.verifiable.ForwardsUOffsetVerifiable.run_verifier.Goals as goal

pub returns-in_err-distance : goal.returns-in_err-distance
unfolding reading follow
returns-in_err-distance g c =
    told_exit _ _ _ c.from_residual.ensures.1
    (seen_told c.in_err-distance.ensures)

pub returns : goal.returns
unfolding reading follow saturated
returns g c =
    told_then (seen_told c.in_ok-distance.ensures)
    (told_given (λ b. reading g.T.Verifiable.shape (saturated (u32_at b c.args.pos) c.args.pos))
    (told_is (ap (reading g.T.Verifiable.shape) (c.saturating_add.ensures ∙ ap (λ d. saturated d c.args.pos) (seen_got c.in_ok-distance.ensures)))
    c.run_verifier.ensures))
