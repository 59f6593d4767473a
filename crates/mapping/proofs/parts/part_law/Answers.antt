use Rattle.mapping.proofs.PartLemmas.{part_laws}
use Rattle.mapping.proofs.parts.part_law.Goals as goal

pub returns : goal.returns
returns c = part_laws
