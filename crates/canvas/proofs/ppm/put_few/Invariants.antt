use Rattle.std.proofs.Common.{◌≡◌, ◌+◌, ◌*◌, ◌++◌, take}
use Rattle.canvas.specs.Ppm.{raster}
use Rattle.canvas.proofs.ppm.put_few.Given as goal

-- the samples of the colours so far stand behind the first bytes
abbrev pub invariant-loop-colour : goal.invariant-loop-colour
invariant-loop-colour l = record {
  end : l.end ≡ l.at + 3 * l.colour-index;
  text : take l.end l.buffer ≡ take l.at l.fn.buffer ++ raster (take l.colour-index l.colours);
}
