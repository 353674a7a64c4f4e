use Rattle.reading.specs.declared.invalid.TraceRecord.TheVariants.{TableField}
use Rattle.reading.specs.declared.invalid.InvalidFlatbuffer.TheVariants.{InconsistentUnion}
use Rattle.reading.specs.Reading.{visit_union_of, variants}
use Rattle.verifier.specs.Told.{done}
use Rattle.verifier.proofs.Walks.{told_exit, told_then, told_within, told_result, seen_told, seen_refuse}
use Rattle.verifier.proofs.Tables.{union_read, missing_told, lone_zero, lone_other, both_read}
use Rattle.verifier.proofs.verifier.TableVerifier.visit_union.Goals as goal

pub returns-in_err-value_pos : goal.returns-in_err-value_pos
unfolding visit_union_of
returns-in_err-value_pos g c =
    told_exit _ _ _ c.from_residual.ensures.1 (seen_told c.in_err-value_pos.ensures)

pub returns-in_err-key_pos : goal.returns-in_err-key_pos
unfolding visit_union_of
returns-in_err-key_pos g c =
    told_then (seen_told c.in_ok-value_pos.ensures)
    (told_exit _ _ _ c.from_residual-in_err-key_pos.ensures.1 (seen_told c.in_err-key_pos.ensures))

pub returns-in_err-union_key-in-Some-None : goal.returns-in_err-union_key-in-Some-None
returns-in_err-union_key-in-Some-None g c =
    union_read _ _ _ _ _ c.in_ok-value_pos.ensures c.in_ok-key_pos.ensures c.in-Some-None.is-0 c.in-Some-None.is-1
    (told_exit _ _ _ c.from_residual-in_err-union_key-in-Some-None.ensures.1 c.in_err-union_key-in-Some-None.ensures)

pub returns-in_err-discriminant-in-Some-Some : goal.returns-in_err-discriminant-in-Some-Some
returns-in_err-discriminant-in-Some-Some g c =
    union_read _ _ _ _ _ c.in_ok-value_pos.ensures c.in_ok-key_pos.ensures c.in-Some-Some.is-0 c.in-Some-Some.is-1
    (told_exit _ _ _ c.from_residual-in_err-discriminant-in-Some-Some.ensures.1 c.in_err-discriminant-in-Some-Some.ensures)

pub returns-in-None-None : goal.returns-in-None-None
returns-in-None-None g c =
    union_read _ _ _ _ _ c.in_ok-value_pos.ensures c.in_ok-key_pos.ensures c.in-None-None.is-0 c.in-None-None.is-1
    (missing_told _ _ c.missing.ensures)

pub returns-in-None-Some : goal.returns-in-None-Some
returns-in-None-Some g c =
    union_read _ _ _ _ _ c.in_ok-value_pos.ensures c.in_ok-key_pos.ensures c.in-None-Some.is-0 c.in-None-Some.is-1
    (seen_told (seen_refuse done (InconsistentUnion c.args.key c.args.value) c.deref-2.new.v))

pub returns-then-branch-eq0 : goal.returns-then-branch-eq0
returns-then-branch-eq0 g c =
    union_read _ _ _ _ _ c.in_ok-value_pos.ensures c.in_ok-key_pos.ensures c.in-Some-None.is-0 c.in-Some-None.is-1
    (lone_zero _ _ _ _ c.in_ok-union_key-in-Some-None.ensures c.if-branch-eq0.true c.missing-then-branch-eq0.ensures)

pub returns-else-branch-eq0 : goal.returns-else-branch-eq0
returns-else-branch-eq0 g c =
    union_read _ _ _ _ _ c.in_ok-value_pos.ensures c.in_ok-key_pos.ensures c.in-Some-None.is-0 c.in-Some-None.is-1
    (lone_other _ _ _ _ c.in_ok-union_key-in-Some-None.ensures c.if-branch-eq0.false)

pub returns-in_ok-discriminant-in-Some-Some : goal.returns-in_ok-discriminant-in-Some-Some
returns-in_ok-discriminant-in-Some-Some g c =
    union_read _ _ _ _ _ c.in_ok-value_pos.ensures c.in_ok-key_pos.ensures c.in-Some-Some.is-0 c.in-Some-Some.is-1
    (both_read _ _ _ _ (variants g.U.UnionVerifier.choices) c.in_ok-discriminant-in-Some-Some.ensures
    (told_result c.append_trace.ensures.result (told_within (TableField c.args.value c.in-Some-Some.position) c.verify_union-res.ensures c.append_trace.ensures.wrote)))
