use Rattle.object_tables.proofs.SlotLemmas.{lowest_free_is_least}
use Rattle.object_tables.proofs.laws.lowest_free_law.Goals as goal

pub returns : goal.returns
returns c = lowest_free_is_least
