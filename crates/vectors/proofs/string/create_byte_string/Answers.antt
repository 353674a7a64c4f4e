use Rattle.std.proofs.Common.{◌≡◌, ℕ, ◌+◌, true, List, ◌++◌, length, refl, ap, subst, add-one, arith, rules}
use Rattle.std.proofs.lemmas.Grind.{common_steps}
use Rattle.space.specs.Taken.{Placed, Prepended}
use Rattle.wire.specs.Bytes.{zeros}
use Rattle.wire.specs.Layouts.{string_padding}
use Rattle.wire.specs.Words.{le}
use Rattle.vectors.proofs.Padded.{prepended_headed}
use Rattle.vectors.proofs.string.create_byte_string.Goals as goal

pub returns : goal.returns
returns g c =
    let s = c.args.space.now in
    let text = c.args.text.now in
    let last = c.put_front-2.new.self in
    let pad : ℕ = string_padding (length s.taken) (length text) in
    let is : c.in_ok-pad.pad ≡ pad = search rules in
    let zeroed = subst (λ (k : ℕ). Placed c.room_for_string.new.space c.put_zeros.new.self c.put_zeros.result (zeros (k + 1))) is c.put_zeros.ensures in
    let headed = subst (λ (l : List ℕ). Placed c.put_front.new.self last c.put_front-2.result l) c.to_le_bytes.ensures c.put_front-2.ensures in
    let done = prepended_headed s _ _ _ _ _ (pad + 1) (length text) _ (λ _. text) (λ _. refl) c.in_ok-pad.ensures.space zeroed c.put_front.ensures
    last _ (le 4 (length text)) (omega arith) headed in
    record { answer = grind (arith, common_steps); space = subst (λ (zs : List ℕ). Prepended s last true (le 4 (length text) ++ (text ++ zs))) (ap zeros (add-one pad)) done }
