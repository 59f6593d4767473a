use Rattle.std.proofs.Common.{rules}
use Rattle.wmf_records.proofs.wmf.WmfFormat.size.Goals as goal

pub returns : goal.returns
returns c = search rules
