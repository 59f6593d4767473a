use Rattle.std.proofs.Common.{rules}
use Rattle.wmf_records.proofs.bitmap_records.dib_bit_blt_without.Goals as goal

pub returns : goal.returns
returns c = search rules
