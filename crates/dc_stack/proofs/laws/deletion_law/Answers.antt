use Rattle.dc_stack.proofs.DeletionLemmas.{deletion_laws}
use Rattle.dc_stack.proofs.laws.deletion_law.Goals as goal

pub returns : goal.returns
returns c = deletion_laws
