use Rattle.std.proofs.Common.{length, ap, ◌∙◌}
use Rattle.wire.proofs.Longest.{at_error, longest_at_error, longest_whole}
use Rattle.wire.proofs.utf8.valid_up_to.Goals as goal

pub returns-in-Ok-clause-value : goal.returns-in-Ok-clause-value
returns-in-Ok-clause-value c = ap length c.in-Ok.ensures.cases.0 ∙ longest_whole c.args.bytes.now c.in-Ok.ensures.cases.1

pub returns-in-Err-clause-longest : goal.returns-in-Err-clause-longest
returns-in-Err-clause-longest c = λ m h u. rw c.valid_up_to.ensures (at_error c.args.bytes.now _ m c.in-Err.ensures.cases.1 h u)

pub returns-in-Err-clause-value : goal.returns-in-Err-clause-value
returns-in-Err-clause-value c = c.valid_up_to.ensures ∙ longest_at_error c.args.bytes.now _ c.in-Err.ensures.cases.1
