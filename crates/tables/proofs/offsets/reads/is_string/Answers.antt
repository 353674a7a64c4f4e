use Rattle.std.proofs.Common.{◌≡◌, ℕ, true, List, length, take, drop, ap, ◌∙◌, arith}
use Rattle.std.specs.Str.{bytes_eq}
use Rattle.wire.specs.Words.{le}
use Rattle.tables.proofs.Objects.{string_parts}
use Rattle.tables.proofs.offsets.reads.is_string.Goals as goal

pub returns-then-bytes_at : goal.returns-then-bytes_at
returns-then-bytes_at g c =
    let us = c.args.space.now.taken in
    let text = c.args.text.now in
    let start = c.saturating_sub-start.result in
    let word : take 4 c.to_le_bytes-count.result ≡ le 4 (length text) = ap (take 4) c.to_le_bytes-count.ensures in
    string_parts us (le 4 (length text)) text c.args.off start (omega arith) true c.bytes_at-then-bytes_at.result
    (c.if-bytes_at.ensures ∙ ap (λ (h : List ℕ). bytes_eq (take (length h) (drop start us)) h) word) c.bytes_at-then-bytes_at.ensures
