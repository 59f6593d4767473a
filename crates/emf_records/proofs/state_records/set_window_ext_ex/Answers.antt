use Rattle.std.proofs.Common.{rules}
use Rattle.emf_records.proofs.state_records.set_window_ext_ex.Goals as goal

pub returns : goal.returns
returns c = search rules
