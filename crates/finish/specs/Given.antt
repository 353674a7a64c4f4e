-- What an argument that may be left out gives, where it is borrowed.
use Rattle.std.specs.Prelude.{Option}
use Rattle.std.specs.Option.{option_map}
use Rattle.std.specs.Borrow.{Bor}

abbrev pub given : {A : Type 0} → Option (Bor A) → Option A
given = option_map (λ x. x.now)
