use Rattle.std.proofs.Common.{◌∙◌, refl, sym, cond, ap, arith}
use Rattle.model.specs.Tables.{record_slot}
use Rattle.tables.specs.Fields.{fields}
use Rattle.tables.proofs.Places.{moved_kept, allowed_old, pushed_few, pushed_kept, allowed_new}
use Rattle.tables.proofs.field_locs.FieldLocs.record.Goals as goal

pub invariant_of-self : goal.invariant_of-self
invariant_of-self c =
    let s = c.args.self.now in
    let kept = moved_kept (fields s) _ c.args.slot c.in-Some.i c.deref_mut.ensures.value (sym c.place.ensures ∙ c.in-Some.is) c.args.off s.once s.slots in
    record { few = omega (arith, s.few, kept.3); once = kept.0; slots = kept.1 }

pub returns-in-Some-clause-value : goal.returns-in-Some-clause-value
returns-in-Some-clause-value c =
    let rs = fields c.args.self.now in
    allowed_old rs rs c.args.slot c.in-Some.i refl (sym c.place.ensures ∙ c.in-Some.is) (sym c.if-not-valid_slot.ensures)

pub returns-in-Some-clause-fields : goal.returns-in-Some-clause-fields
returns-in-Some-clause-fields c =
    let s = c.args.self.now in
    (moved_kept (fields s) _ c.args.slot c.in-Some.i c.deref_mut.ensures.value (sym c.place.ensures ∙ c.in-Some.is) c.args.off s.once s.slots).2

pub invariant_of-self-in-None : goal.invariant_of-self-in-None
invariant_of-self-in-None c =
    let s = c.args.self.now in
    let p = c.try_push.ensures in
    let kept = pushed_kept s.items c.try_push.new.self c.args.slot c.args.off c.try_push.result (sym c.place.ensures ∙ c.in-None.is) (sym c.if-not-valid_slot.ensures) s.once s.slots p.ok p.err in
    record { few = pushed_few s.items c.try_push.new.self _ c.try_push.result s.few p.variant p.ok p.err; once = kept.0; slots = kept.1 }

pub returns-in-None-clause-value : goal.returns-in-None-clause-value
returns-in-None-clause-value c =
    c.is_ok.ensures.value
    ∙ allowed_new (fields c.args.self.now) c.args.slot c.try_push.result (sym c.place.ensures ∙ c.in-None.is) (sym c.if-not-valid_slot.ensures) c.try_push.ensures.variant

pub returns-in-None-clause-fields : goal.returns-in-None-clause-fields
returns-in-None-clause-fields c =
    let s = c.args.self.now in
    let p = c.try_push.ensures in
    (pushed_kept s.items c.try_push.new.self c.args.slot c.args.off c.try_push.result (sym c.place.ensures ∙ c.in-None.is) (sym c.if-not-valid_slot.ensures) s.once s.slots p.ok p.err).2
    ∙ ap (λ b. cond b (record_slot c.args.slot c.args.off (fields s)) (fields s)) (sym c.is_ok.ensures.value)
