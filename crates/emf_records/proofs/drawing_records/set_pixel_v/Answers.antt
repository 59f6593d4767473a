use Rattle.std.proofs.Common.{rules}
use Rattle.emf_records.proofs.drawing_records.set_pixel_v.Goals as goal

pub returns : goal.returns
returns c = search rules
