use Rattle.std.proofs.Common.{rules}
use Rattle.wmf_records.proofs.bitmap_records.is_without_bitmap.Goals as goal

pub returns : goal.returns
returns c = search rules
