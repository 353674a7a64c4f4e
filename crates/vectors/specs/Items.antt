-- The values of a kind as they are pushed, by what their trait says: its meaning and its law.
use Rattle.std.specs.Prelude.{List, map}
use Rattle.std.specs.List.{AllByRecursion}
use Rattle.kinds.specs.declared.Kind.{Ghosts}
use Rattle.wire.specs.Pushed.{Pushed, Layout, Of, all_of, layout, pushed}
use Rattle.wire.specs.ReadBack.{Fit, ReadsBack}

module _ {V S : Type 0} (kind : Ghosts V S) where
  abbrev pub item : V → Pushed
  item = pushed kind.meaning kind.lawful

  -- what a vector knows of its elements
  abbrev pub item_layout : Layout
  item_layout = layout kind.meaning kind.lawful

  -- values have that layout
  abbrev pub items_of : (vs : List V) → AllByRecursion (Of item_layout) (map item vs)
  items_of = all_of kind.meaning kind.lawful

  -- the machine holds each value
  abbrev pub ItemsFit : List V → Type 0
  ItemsFit = Fit kind.meaning kind.lawful

  -- a vector reads back as it was written
  abbrev pub ItemsReadBack : Type 0
  ItemsReadBack = ReadsBack kind.meaning kind.lawful
