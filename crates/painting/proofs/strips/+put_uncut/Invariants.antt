use Rattle.std.proofs.Common.{length}
use Rattle.painting.proofs.strips.+put_uncut.Given as goal

-- the remaining boxes
abbrev pub decreases-put_uncut : goal.decreases-put_uncut
decreases-put_uncut l = length l.cuts.now
