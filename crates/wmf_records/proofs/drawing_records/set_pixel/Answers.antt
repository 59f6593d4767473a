use Rattle.std.proofs.Common.{rules}
use Rattle.wmf_records.proofs.drawing_records.set_pixel.Goals as goal

pub returns : goal.returns
returns c = search rules
