use Rattle.meta_headers.proofs.OpeningLemmas.{opening_laws}
use Rattle.meta_headers.proofs.laws.opening_law.Goals as goal

pub returns : goal.returns
returns c = opening_laws c.part_law.ensures
