use Rattle.std.proofs.Common.{refl, ◌∙◌}
use Rattle.reading.specs.Reading.{visit_table, at_vtable}
use Rattle.verifier.proofs.Walks.{seen_then, seen_exit, seen_got, seen_value, seen_answer, seen_err}
use Rattle.verifier.proofs.Tables.{at_vtable_read, table_read}
use Rattle.verifier.proofs.verifier.Verifier.visit_table.Goals as goal

pub returns-in_err-vtable : goal.returns-in_err-vtable
unfolding visit_table
returns-in_err-vtable c = seen_exit _ _ _ c.from_residual.ensures.1 c.in_err-vtable.ensures

pub returns-in_err-vtable_len : goal.returns-in_err-vtable_len
unfolding at_vtable
returns-in_err-vtable_len c =
    at_vtable_read _ c.in_ok-vtable.ensures refl (seen_exit _ _ _ c.from_residual-in_err-vtable_len.ensures.1 c.in_err-vtable_len.ensures)

pub returns-in_err-enter : goal.returns-in_err-enter
unfolding at_vtable
returns-in_err-enter c =
    let f = c.in_ok-vtable_len.ensures in
    at_vtable_read _ c.in_ok-vtable.ensures (seen_value f) (seen_then f (seen_err _ _ c.from_residual-in_err-enter.ensures.1 c.in_err-enter.ensures))

pub returns : goal.returns
unfolding at_vtable
returns c =
    let f = c.in_ok-vtable_len.ensures in
    seen_answer _ _ (table_read c.args.pos _ _ _ _ (seen_got c.in_ok-vtable.ensures) (seen_value f) (c.in_ok-enter.ensures.kept.buffer ∙ f.kept.buffer))
    (at_vtable_read _ c.in_ok-vtable.ensures (seen_value f) (seen_then f c.in_ok-enter.ensures))
