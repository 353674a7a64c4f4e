use Rattle.std.proofs.Common.{◌≡◌, ℕ, ◌+◌, true, cond, List, length, Option, ap, ◌∙◌, subst, arith, rules, length-append}
use Rattle.std.proofs.lemmas.Grind.{common_steps}
use Rattle.finish.specs.Given.{given}
use Rattle.space.specs.Taken.{Placed}
use Rattle.space.proofs.Spaces.{placed_placed, prepended_of}
use Rattle.wire.specs.Layouts.{padding}
use Rattle.model.specs.Finish.{finish_bytes, finish_head, finish_padding, identifier_bytes, prefix_bytes, rooted}
use Rattle.finish.proofs.Heads.{length_finish}
use Rattle.finish.proofs.finish.Goals as goal

pub returns-in_err-pad : goal.returns-in_err-pad
returns-in_err-pad g c =
    let id : Option (List ℕ) = given c.args.identifier in
    let prefixed = c.args.size_prefixed in
    let used = length c.args.space.now.taken in
    let named : c.in_ok-id.id.now ≡ identifier_bytes id = search rules in
    let prefix : c.if-size_prefixed.prefix ≡ cond prefixed 4 0 = search rules in
    let head : 4 + length c.in_ok-id.id.now + c.if-size_prefixed.prefix ≡ finish_head id prefixed = omega (arith, ap length named, prefix) in
    let size = length_finish c.args.root id prefixed used c.args.min_align in
    record { answer = search rules; space = grind (arith, common_steps) }

pub returns : goal.returns
returns g c =
    let s = c.args.space.now in
    let id : Option (List ℕ) = given c.args.identifier in
    let prefixed = c.args.size_prefixed in
    let met = c.args.min_align in
    let used = length s.taken in
    let mid = c.room_for.new.space in
    let headed = c.put_root.new.space in
    let after = c.put_prefix.new.space in
    let named : c.in_ok-id.id.now ≡ identifier_bytes id = search rules in
    let prefix : c.if-size_prefixed.prefix ≡ cond prefixed 4 0 = search rules in
    let pad : c.in_ok-pad.pad ≡ finish_padding id prefixed used met = search rules in
    let front = 4 + length c.in_ok-id.id.now + c.if-size_prefixed.prefix in
    let head : front ≡ finish_head id prefixed = omega (arith, ap length named, prefix) in
    let same : padding (used + front) c.max.result ≡ finish_padding id prefixed used met = search rules in
    let spaced = c.in_ok-pad.ensures.space in
    let body : List ℕ = rooted c.args.root (identifier_bytes id) (finish_padding id prefixed used met) used in
    let bytes : rooted c.args.root c.in_ok-id.id.now c.in_ok-pad.pad (length mid.taken) ≡ body =
    let kept = ap length spaced.kept in rw (named, pad, kept) in
    let first = subst (λ (l : List ℕ). Placed mid headed true l) bytes c.put_root.ensures in
    let count : length headed.taken ≡ length body + used = ap length first.used ∙ length-append body mid.taken ∙ ap (λ (l : List ℕ). length body + length l) spaced.kept in
    let second = subst (λ (n : ℕ). Placed headed after true (prefix_bytes prefixed n)) count c.put_prefix.ensures in
    record {
      answer = search rules;
      space =
          prepended_of s mid after _ (finish_bytes c.args.root id prefixed used met) spaced (placed_placed mid headed after body _ first second)
          (omega (arith, length_finish c.args.root id prefixed used met, same, head));
    }
