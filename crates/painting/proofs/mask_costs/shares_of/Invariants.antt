use Rattle.std.proofs.Common.{length}
use Rattle.painting.proofs.mask_costs.shares_of.Given as goal

abbrev pub decreases-loop-line : goal.decreases-loop-line
decreases-loop-line g l = length (g.O.Outline.lines l.lines)
