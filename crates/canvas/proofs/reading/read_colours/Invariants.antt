use Rattle.std.proofs.Common.{◌≡◌, take}
use Rattle.canvas.specs.PpmReading.{colours_at}
use Rattle.canvas.proofs.reading.read_colours.Given as goal

-- the colours so far are those of the samples
abbrev pub invariant-loop-k : goal.invariant-loop-k
invariant-loop-k l = take l.k l.colours ≡ colours_at l.k l.samples
