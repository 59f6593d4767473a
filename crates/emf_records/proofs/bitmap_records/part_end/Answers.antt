use Rattle.std.proofs.Common.{rules}
use Rattle.emf_records.proofs.bitmap_records.part_end.Goals as goal

pub returns : goal.returns
returns c = search rules
