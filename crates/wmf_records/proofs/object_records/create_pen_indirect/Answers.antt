use Rattle.std.proofs.Common.{rules}
use Rattle.wmf_records.proofs.object_records.create_pen_indirect.Goals as goal

pub returns : goal.returns
returns c = search rules
