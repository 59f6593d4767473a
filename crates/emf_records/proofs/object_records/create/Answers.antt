use Rattle.std.proofs.Common.{rules}
use Rattle.emf_records.proofs.object_records.create.Goals as goal

pub returns : goal.returns
returns c = search rules
