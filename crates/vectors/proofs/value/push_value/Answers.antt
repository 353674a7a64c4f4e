use Rattle.std.proofs.Common.{◌≡◌, ℕ, true, length, Ok, refl, ap, ◌∙◌, subst, arith, rules}
use Rattle.std.proofs.lemmas.Grind.{common_steps}
use Rattle.space.specs.Taken.{Placed, Prepended}
use Rattle.space.proofs.Spaces.{prepended_used}
use Rattle.wire.specs.Answers.{push_tests}
use Rattle.wire.specs.Bytes.{zeros}
use Rattle.wire.specs.Layouts.{push_padding, pushed_bytes}
use Rattle.wire.specs.Pushed.{Pushed, pushed}
use Rattle.wire.proofs.Decided.{decided_other}
use Rattle.wire.proofs.Rows.{length_pushed}
use Rattle.vectors.proofs.Padded.{prepended_padded}
use Rattle.vectors.proofs.value.push_value.Given as given
use Rattle.vectors.proofs.value.push_value.Goals as goal

-- the value is written
module _ (g : given.Over) (c : goal.After-used g) where
  abbrev x : Pushed
  x = pushed g.T.Kind.meaning g.T.Kind.lawful c.args.x.now

  abbrev used : ℕ
  used = length c.args.space.now.taken

  written : Prepended c.args.space.now c.put_value.new.space true (pushed_bytes x used)
  written =
      let is : c.in_ok-pad.pad ≡ push_padding x used = search rules in
      let zeroed = subst (λ (k : ℕ). Placed c.room_for_value.new.space c.put_zeros.new.self c.put_zeros.result (zeros k)) is c.put_zeros.ensures in
      prepended_padded c.args.space.now _ _ _ _ _ (push_padding x used) x.size _ x.bytes x.long c.in_ok-pad.ensures.space zeroed c.put_value.ensures.placed refl

pub returns-clause-wrote : goal.returns-clause-wrote
returns-clause-wrote g c =
    let offset = prepended_used c.args.space.now c.put_value.new.space _ _ (length_pushed (x g c) (used g c)) (written g c) in
    record {
      answer = ap Ok (c.used.ensures ∙ offset) ∙ decided_other _ (push_tests (x g c) (used g c) c.args.space.now.limit) _ _ c.in_ok-pad.ensures.answer;
      space = written g c;
    }

pub returns-clause-fits : goal.returns-clause-fits
returns-clause-fits g c =
    let long = g.T.Kind.lawful.long c.args.x.now (length c.put_zeros.new.self.taken) in
    grind (arith, common_steps)
