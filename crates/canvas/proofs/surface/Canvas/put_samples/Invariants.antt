use Rattle.std.proofs.Common.{◌≡◌, ◌+◌, ◌-◌, ◌*◌, ◌≤◌, ◌++◌, drop, take}
use Rattle.canvas.specs.Ppm.{raster}
use Rattle.canvas.proofs.surface.Canvas.put_samples.Given as goal

-- the samples of the pixels so far stand behind the first bytes
abbrev pub invariant-loop-done : goal.invariant-loop-done
invariant-loop-done l = record {
  low : l.from ≤ l.done;
  high : l.done ≤ l.to;
  end : l.end ≡ l.at + 3 * (l.done - l.from);
  text : take l.end l.buffer ≡ take l.at l.fn.buffer ++ raster (take (l.done - l.from) (drop l.from l.self.colours));
}

abbrev pub decreases-loop-done : goal.decreases-loop-done
decreases-loop-done l = l.to - l.done
