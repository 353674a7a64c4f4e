-- A pushed value without its type, with what its kind's law says of it.
use Rattle.std.specs.Prelude.{◌≡◌, ℕ, ◌%◌, ◌<◌, List, [], ◌∷◌, map, length, Option, refl}
use Rattle.std.specs.List.{AllByRecursion}
use Rattle.wire.specs.Bytes.{Octets}
use Rattle.wire.specs.Kind.{Meaning, Law, Alignment, Leads}

pub record Pushed : Type 0 where
  pub size : ℕ
  pub alignment : ℕ
  -- the offset that the value is, if it is one
  pub offset : Option ℕ
  -- its bytes in front of so much used space
  pub bytes : ℕ → List ℕ
  pub sized : 0 < size
  pub aligned : Alignment alignment
  pub divides : size % alignment ≡ 0
  pub long : (used : ℕ) → length (bytes used) ≡ size
  pub octets : (used : ℕ) → Octets (bytes used)
  pub leads : Leads size alignment bytes offset

-- what a vector knows of its elements
pub record Layout : Type 0 where
  pub size : ℕ
  pub alignment : ℕ
  pub sized : 0 < size
  pub aligned : Alignment alignment
  pub divides : size % alignment ≡ 0

-- a value of the layout
abbrev pub Of : Layout → Pushed → Type 0
Of k x = (x.size ≡ k.size) × (x.alignment ≡ k.alignment)

module _ {V S : Type 0} (m : Meaning V S) (law : Law m) where
  abbrev pub layout : Layout
  layout = record { size = m.size; alignment = m.alignment; sized = law.sized; aligned = law.aligned; divides = law.divides }

  -- a value of the kind as it is pushed
  abbrev pub pushed : V → Pushed
  pushed v =
      record {
        size = m.size;
        alignment = m.alignment;
        offset = m.offset v;
        bytes = m.bytes v;
        sized = law.sized;
        aligned = law.aligned;
        divides = law.divides;
        long = law.long v;
        octets = law.octets v;
        leads = law.leads v;
      }

  -- values of the kind have its layout
  abbrev pub all_of : (vs : List V) → AllByRecursion (Of layout) (map pushed vs)
  all_of [] = tt
  all_of (v ∷ vs) = ((refl, refl), all_of vs)
