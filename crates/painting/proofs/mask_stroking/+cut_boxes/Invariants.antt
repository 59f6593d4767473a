use Rattle.std.proofs.Common.{length}
use Rattle.painting.proofs.mask_stroking.+cut_boxes.Given as goal

-- the remaining boxes
abbrev pub decreases-cut_boxes : goal.decreases-cut_boxes
decreases-cut_boxes l = length l.cuts.now
