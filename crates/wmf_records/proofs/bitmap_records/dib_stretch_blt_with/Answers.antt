use Rattle.std.proofs.Common.{rules}
use Rattle.wmf_records.proofs.bitmap_records.dib_stretch_blt_with.Goals as goal

pub returns : goal.returns
returns c = search rules
