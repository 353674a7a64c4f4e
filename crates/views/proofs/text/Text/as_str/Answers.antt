use Rattle.std.proofs.Common.{IsUtf8, sym, subst}
use Rattle.wire.proofs.WellFormed.{utf8_from_well_formed}
use Rattle.views.proofs.text.Text.as_str.Goals as goal

pub from_utf8_unchecked-requires : goal.from_utf8_unchecked-requires
from_utf8_unchecked-requires c = subst IsUtf8 (sym c.as_bytes-bytes.ensures.value) (utf8_from_well_formed _ c.args.self.now.utf8)
