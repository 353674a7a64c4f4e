-- Where a signed word leads.
use Rattle.std.specs.Prelude.{ℕ, ◌+◌, ◌-◌, cond, List, None, Option, nat_le, nat_lt}
use Rattle.wire.specs.Offsets.{position}

-- The position p minus the signed word of 32 bits w, where that lies inside the input b.
-- The bits w stand for w itself below 2^31, and else for w - 2^32.
abbrev pub led : List ℕ → (p w : ℕ) → Option ℕ
led b p w = cond (nat_lt w 2147483648) (cond (nat_le w p) (position b (p - w)) None) (position b (p + (4294967296 - w)))
