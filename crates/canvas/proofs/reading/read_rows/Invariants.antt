use Rattle.std.proofs.Common.{◌≡◌, ◌*◌, take}
use Rattle.canvas.specs.PpmReading.{colours_at}
use Rattle.canvas.specs.Rows.{row_colours}
use Rattle.canvas.proofs.reading.read_rows.Given as goal

-- the colours of the rows so far are those of the samples
abbrev pub invariant-loop-row : goal.invariant-loop-row
invariant-loop-row l = take (l.row * l.width) (row_colours l.rows l.width l.stride l.colours) ≡ colours_at (l.row * l.width) l.samples
