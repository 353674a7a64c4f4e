use Rattle.std.proofs.Common.{◌≡◌, ℕ, List, ◌+◌, ◌++◌, get_or, ap, ◌∙◌, arith}
use Rattle.std.proofs.Math.ListN.{replicate}
use Rattle.std.proofs.lemmas.Grind.{common_steps}
use Rattle.std.proofs.lemmas.List.{drop-replicate}
use Rattle.wire.proofs.words.bytes_at.Goals as goal

-- zero bytes behind a list read as nothing does
padded : (xs : List ℕ) (n i : ℕ) → get_or (xs ++ replicate n 0) i 0 ≡ get_or xs i 0
padded xs n i = grind (arith, common_steps)

pub returns-in-None : goal.returns-in-None
returns-in-None g c = λ i l.
    let rest = c.unwrap_or-rest.result.now in
    let part : get_or rest i 0 ≡ get_or c.args.buf.now (c.args.at + i) 0 = grind (arith, common_steps) in
    rw (drop-replicate, padded) (ap (λ (ys : List ℕ). get_or ys i 0) c.copy_from_slice.ensures.after ∙ part)
