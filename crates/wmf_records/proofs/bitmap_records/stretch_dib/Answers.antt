use Rattle.std.proofs.Common.{rules}
use Rattle.wmf_records.proofs.bitmap_records.stretch_dib.Goals as goal

pub returns : goal.returns
returns c = search rules
