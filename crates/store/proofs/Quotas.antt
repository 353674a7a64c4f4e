-- A store that grows, seen under a quota.
use Rattle.std.proofs.Common.{◌≡◌, ℕ, ◌<◌, ◌≤◌, min, Bool, true, false, List, length, refl, ap, arith}
use Rattle.std.proofs.lemmas.Bool.{true≢false, false≢true}
use Rattle.wire.specs.Bytes.{last}
use Rattle.wire.proofs.Lists.{length_last, grown_below}
use Rattle.store.specs.Growth.{Grown}

pub grown_under : (quota : ℕ) (below after : List ℕ) (low high : ℕ) (ok : Bool) → length below < quota → length after ≤ high → Grown below low after high ok
    → Grown (last quota below) (min quota low) (last quota after) (min quota high) ok
grown_under quota below after low high true short within g =
    let longer : length below < length after = g.more refl in
    record {
      list = grown_below quota below after (omega arith) (omega arith) g.list;
      limit = ap (min quota) g.limit;
      more = λ _. omega (arith, length_last quota below, length_last quota after);
      full = λ no. absurd (true≢false no);
    }
grown_under quota below after low high false short within g =
    let list : after ≡ below = (g.full refl).0 in
    let at : length below ≡ low = (g.full refl).1 in
    record {
      list = grown_below quota below after (omega arith) (omega (arith, ap length list)) g.list;
      limit = ap (min quota) g.limit;
      more = λ no. absurd (false≢true no);
      full = λ _. (ap (last quota) list, omega (arith, length_last quota below));
    }
