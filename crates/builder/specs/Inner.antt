-- What a builder knows, by its parts.
use Rattle.std.specs.Prelude.{ℕ, max, Bool, true, false}
use Rattle.builder.specs.declared.inner.Inner.{Inner}
use Rattle.builder.specs.declared.inner.Open.{Open}
use Rattle.builder.specs.declared.inner.Open.TheVariants.{Nothing, Table, Vector}

abbrev pub is_nothing : Open → Bool
is_nothing Nothing = true
is_nothing (Table start) = false
is_nothing (Vector start size count) = false

abbrev pub is_table : Open → Bool
is_table Nothing = false
is_table (Table start) = true
is_table (Vector start size count) = false

-- the largest alignment met is at least a
abbrev pub met_at_least : ℕ → Inner → Inner
met_at_least a i =
    record {
      field_locs = i.field_locs;
      written_vtable_revpos = i.written_vtable_revpos;
      strings_pool = i.strings_pool;
      nest = i.nest;
      finished = i.finished;
      min_align = max i.min_align a;
      force_defaults = i.force_defaults;
    }
