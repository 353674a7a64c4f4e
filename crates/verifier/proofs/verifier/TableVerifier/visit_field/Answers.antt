use Rattle.reading.specs.Reading.{visit_field_of}
use Rattle.verifier.proofs.Walks.{told_exit, seen_told}
use Rattle.verifier.proofs.Tables.{field_read, missing_told}
use Rattle.verifier.proofs.verifier.TableVerifier.visit_field.Goals as goal

pub returns-in_err-position : goal.returns-in_err-position
unfolding visit_field_of
returns-in_err-position g c =
    told_exit _ _ _ c.from_residual.ensures.1
    (seen_told c.in_err-position.ensures)

pub returns-in-Some : goal.returns-in-Some
returns-in-Some g c = field_read _ _ _ _ c.in_ok-position.ensures c.in-Some.is c.visit.ensures

pub returns-in-None : goal.returns-in-None
returns-in-None g c =
    field_read _ _ _ _ c.in_ok-position.ensures c.in-None.is
    (missing_told _ _ c.missing.ensures)
