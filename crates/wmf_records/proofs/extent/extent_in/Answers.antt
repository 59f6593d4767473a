use Rattle.std.proofs.Common.{rules}
use Rattle.wmf_records.proofs.extent.extent_in.Goals as goal

pub returns-else-x-eq0-clause-value : goal.returns-else-x-eq0-clause-value
returns-else-x-eq0-clause-value c = search rules
