use Rattle.dc_stack.proofs.FaultLemmas.{fault_laws}
use Rattle.dc_stack.proofs.laws.fault_law.Goals as goal

pub returns : goal.returns
returns c = fault_laws c.placing_law.ensures c.nib_law.ensures
