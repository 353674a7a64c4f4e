use Rattle.std.proofs.Common.{ltb, ap, ◌∙◌}
use Rattle.std.specs.Bool.{then_some}
use Rattle.reading.specs.Input.{saturated}
use Rattle.verifier.proofs.Walks.{seen_err}
use Rattle.verifier.proofs.Tables.{slot_within, slot_found}
use Rattle.verifier.proofs.verifier.TableVerifier.deref.Goals as goal

pub returns-in_err-distance : goal.returns-in_err-distance
unfolding saturated
returns-in_err-distance c =
    slot_within c.args.self c.args.slot c.if-slot-self.true c.saturating_add.ensures (seen_err _ _ c.from_residual.ensures.1 c.in_err-distance.ensures)

pub returns-in_ok-distance : goal.returns-in_ok-distance
unfolding saturated
returns-in_ok-distance c =
    slot_found c.args.self c.args.slot c.if-slot-self.true c.saturating_add.ensures (c.then_some.ensures ∙ ap (then_some (ltb 0 c.in_ok-distance.distance)) c.saturating_add-then-slot-self.ensures)
    c.in_ok-distance.ensures
