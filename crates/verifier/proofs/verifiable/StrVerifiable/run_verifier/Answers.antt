use Rattle.std.proofs.Common.{ap, ◌∙◌, arith}
use Rattle.reading.specs.Input.{saturated, u32_at}
use Rattle.reading.specs.Reading.{reading, visit_string, text_of}
use Rattle.verifier.specs.Told.{bytes}
use Rattle.verifier.proofs.Walks.{seen_told, seen_exit, seen_then, seen_given, seen_is, seen_got}
use Rattle.verifier.proofs.verifiable.StrVerifiable.run_verifier.Goals as goal

pub text-requires : goal.text-requires
unfolding saturated
text-requires c = let h = c.in_ok-len.ensures.lies in let s = c.saturating_add.ensures in omega (arith, h, s)

pub returns-in_err-len : goal.returns-in_err-len
unfolding reading visit_string
returns-in_err-len c =
    seen_told
    (seen_exit _ _ _ c.from_residual.ensures.1 c.in_err-len.ensures.seen)

pub returns : goal.returns
unfolding reading visit_string saturated
returns c =
    let h = c.in_ok-len.ensures.seen in
    let b = bytes c.vector_range.new.self in
    seen_told
    (seen_then h (seen_given (λ b. text_of (saturated c.args.pos 4) (u32_at b c.args.pos) b)
    (seen_is (ap (λ s. text_of s c.in_ok-len.field-0 b) c.saturating_add.ensures ∙ ap (λ n. text_of (saturated c.args.pos 4) n b) (seen_got h)) c.text.ensures)))
