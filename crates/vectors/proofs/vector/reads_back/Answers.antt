use Rattle.wire.proofs.Rows as rows
use Rattle.vectors.proofs.vector.reads_back.Goals as goal

pub returns : goal.returns
returns g c = rows.reads_back g.T.Kind.meaning g.T.Kind.lawful
