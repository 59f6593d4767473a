use Rattle.mapping.proofs.PlacingLemmas.{placing_laws}
use Rattle.mapping.proofs.place.placing_law.Goals as goal

pub returns : goal.returns
returns c = placing_laws
