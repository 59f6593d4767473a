use Rattle.std.proofs.Common.{rules}
use Rattle.emf_records.proofs.state_records.set_layout.Goals as goal

pub returns : goal.returns
returns c = search rules
