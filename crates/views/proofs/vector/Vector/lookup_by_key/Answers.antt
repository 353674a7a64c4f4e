use Rattle.views.proofs.Halving.{finds_it}
use Rattle.views.proofs.vector.Vector.lookup_by_key.Goals as goal

pub returns-clause-finds : goal.returns-clause-finds
returns-clause-finds g c = finds_it g.T.Follow g.K.KeyOrder c.args.self.now c.args.key.now c.halved.result c.halved.ensures.value
