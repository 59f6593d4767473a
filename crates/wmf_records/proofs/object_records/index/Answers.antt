use Rattle.std.proofs.Common.{rules}
use Rattle.wmf_records.proofs.object_records.index.Goals as goal

pub returns : goal.returns
returns c = search rules
