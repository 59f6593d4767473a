use Rattle.object_tables.proofs.OrderLemmas.{order_laws}
use Rattle.object_tables.proofs.laws.order_law.Goals as goal

pub returns : goal.returns
returns c = order_laws
