use Rattle.std.proofs.Common.{◌∙◌, rules, w32, SFits}
use Rattle.std.proofs.lemmas.Int.{to_z-of_z}
use Rattle.reading.specs.Reading.{signed}
use Rattle.verifier.proofs.Walks.{seen_then, seen_exit, seen_got}
use Rattle.verifier.proofs.Tables.{leads_read}
use Rattle.verifier.proofs.verifier.Verifier.deref_soffset.Goals as goal

pub returns-in_err-word : goal.returns-in_err-word
unfolding signed
returns-in_err-word c = seen_exit _ _ _ c.from_residual.ensures.1 c.in_err-word.ensures

pub returns : goal.returns
unfolding signed
returns c =
    let f : SFits w32 c.cast_signed.result = search rules in
    seen_then c.in_ok-word.ensures
    (leads_read c.args.pos c.in_ok-word.word _ _ c.ok_or.result c.get_uoffset.new.self (seen_got c.in_ok-word.ensures) (to_z-of_z w32 c.cast_signed.result f ∙ c.cast_signed.ensures)
    c.led_to.ensures c.ok_or.ensures.value)
