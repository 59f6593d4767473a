use Rattle.std.proofs.Common.{rules}
use Rattle.emf_records.proofs.bitmap_records.create_dib_pattern_brush_pt.Goals as goal

pub returns : goal.returns
returns c = search rules
