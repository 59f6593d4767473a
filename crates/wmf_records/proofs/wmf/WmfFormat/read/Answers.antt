use Rattle.std.proofs.Common.{rules}
use Rattle.wmf_records.proofs.wmf.WmfFormat.read.Goals as goal

pub returns-in-None : goal.returns-in-None
returns-in-None c = search rules
