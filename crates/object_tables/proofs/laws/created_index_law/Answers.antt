use Rattle.object_tables.proofs.SlotLemmas.{created_index_is_below_bound}
use Rattle.object_tables.proofs.laws.created_index_law.Goals as goal

pub returns : goal.returns
returns c = created_index_is_below_bound
