use Rattle.std.proofs.Common.{rules}
use Rattle.emf_records.proofs.bitmap_records.bit_blt.Goals as goal

pub returns : goal.returns
returns c = search rules
