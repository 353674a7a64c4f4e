use Rattle.std.proofs.Common.{refl}
use Rattle.verifier.proofs.Texts.{text_refused, text_valid}
use Rattle.verifier.proofs.verifier.Verifier.text.Goals as goal

pub returns-then-valid_up_to-len : goal.returns-then-valid_up_to-len
returns-then-valid_up_to-len c = text_refused _ _ _ _ c.valid_up_to-valid_up_to.ensures.value c.if-valid_up_to-len.true

pub returns-then-terminated : goal.returns-then-terminated
returns-then-terminated c = text_valid _ _ _ _ c.valid_up_to-valid_up_to.ensures.value _ _ c.if-valid_up_to-len.false c.if-terminated.ensures refl

pub returns-else-terminated : goal.returns-else-terminated
returns-else-terminated c = text_valid _ _ _ _ c.valid_up_to-valid_up_to.ensures.value _ _ c.if-valid_up_to-len.false c.if-terminated.ensures refl
