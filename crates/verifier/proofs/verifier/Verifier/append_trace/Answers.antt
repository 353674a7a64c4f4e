use Rattle.std.proofs.Common.{cond, rules, [], ◌∷◌, sym, refl, ap, ◌∙◌}
use Rattle.reading.specs.Input.{saturated}
use Rattle.reading.specs.Outcomes.{layer}
use Rattle.verifier.proofs.Walks.{wrote_nothing, wrote_layer}
use Rattle.verifier.proofs.verifier.Verifier.append_trace.Goals.{in_default-via-in-Ok-1, in_default-via-in-Err+else-not-is_limit}
use Rattle.verifier.proofs.verifier.Verifier.append_trace.Goals as goal

pub returns-then-not-is_limit-clause-wrote : goal.returns-then-not-is_limit-clause-wrote
unfolding saturated
returns-then-not-is_limit-clause-wrote g c =
    wrote_layer c.args.res c.in-Err.fault c.args.layer c.args.self.now _ c.in-Err.is (sym c.if-not-is_limit.ensures) refl c.«record».ensures c.saturating_add-self.ensures (record { buffer = refl; opts = refl; lent = refl })

pub returns-in_default-clause-wrote : goal.returns-in_default-clause-wrote
returns-in_default-clause-wrote g c =
    wrote_nothing _ c.args.self.now
    (elim c.in_default.branch [
      | in_default-via-in-Ok-1 w ↦ search rules
      | in_default-via-in-Err+else-not-is_limit w ↦ ap (λ z. layer z c.args.layer) w.in-Err.is ∙ ap (λ z. cond z [] (c.args.layer ∷ [])) (sym w.if-not-is_limit.ensures)
    ])
