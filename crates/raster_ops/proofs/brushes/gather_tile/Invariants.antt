use Rattle.std.proofs.Common.{◌≡◌, ◌⊎◌, ℕ, ◌<◌, ◌≤◌, ◌%◌, get_or, length}
use Rattle.mapping.specs.declared.geometry.Colour.{Colour}
use Rattle.raster_ops.specs.BrushRows.{repeated_colour}
use Rattle.raster_ops.specs.Bytes.{HasBytes}
use Rattle.raster_ops.proofs.brushes.gather_tile.Given as goal

-- the places so far have the row's colours, and the column is that of the next place
abbrev pub invariant-loop-x : goal.invariant-loop-x
invariant-loop-x l = record {
  long : length l.out ≡ length l.initial.out;
  wide : l.width ≡ l.tile.row.width;
  column : l.column ≡ l.x % l.width;
  below : l.column < l.width;
  each : (k : ℕ) (d : Colour) → l.from ≤ k → k < l.x → get_or l.out k d ≡ repeated_colour l.tile.row k;
  parts : (k : ℕ) (d : Colour) → l.from ≤ k → k < l.x → HasBytes (get_or l.out k d);
  others : (k : ℕ) (d : Colour) → k < l.from ⊎ l.x ≤ k → get_or l.out k d ≡ get_or l.initial.out k d;
}
