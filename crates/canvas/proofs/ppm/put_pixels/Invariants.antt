use Rattle.std.proofs.Common.{◌≡◌, ◌+◌, ◌-◌, ◌*◌, ◌≤◌, ◌++◌, drop, length, take}
use Rattle.canvas.specs.Ppm.{raster}
use Rattle.canvas.proofs.ppm.put_pixels.Given as goal

-- the samples of the colours so far stand after the first bytes
abbrev pub invariant-loop-done : goal.invariant-loop-done
invariant-loop-done l = record {
  within : l.done ≤ length l.colours;
  end : l.end ≡ l.at + 3 * l.done;
  text : take l.end l.buffer ++ raster (drop l.done l.colours) ≡ take l.at l.fn.buffer ++ raster l.colours;
}

abbrev pub decreases-loop-done : goal.decreases-loop-done
decreases-loop-done l = length l.colours - l.done
