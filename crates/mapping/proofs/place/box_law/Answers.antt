use Rattle.mapping.proofs.BoxLemmas.{box_laws}
use Rattle.mapping.proofs.place.box_law.Goals as goal

pub returns : goal.returns
returns c = box_laws
