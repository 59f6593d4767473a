use Rattle.std.proofs.Common.{rules}
use Rattle.emf_records.proofs.state_records.restore_dc.Goals as goal

pub returns : goal.returns
returns c = search rules
