use Rattle.std.proofs.Common.{rules}
use Rattle.wmf_records.proofs.wmf.WmfFormat.kind.Goals as goal

pub returns : goal.returns
returns c = search rules
