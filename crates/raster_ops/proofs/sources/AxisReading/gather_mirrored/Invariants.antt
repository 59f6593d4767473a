use Rattle.std.proofs.Common.{◌≡◌, ◌⊎◌, ℕ, ◌+◌, ◌-◌, ◌<◌, ◌≤◌, pos, get_or, length}
use Rattle.std.specs.Prelude.{unsigned_abs}
use Rattle.dib_views.specs.Rows.{row_colours_of}
use Rattle.mapping.specs.Colours.{black_colour}
use Rattle.mapping.specs.declared.geometry.Colour.{Colour}
use Rattle.raster_ops.specs.Bytes.{HasBytes}
use Rattle.raster_ops.specs.Readers.{reading_of}
use Rattle.raster_ops.specs.Sources.{distance, index_read}
use Rattle.raster_ops.proofs.sources.AxisReading.gather_mirrored.Given as goal

-- the last places so far have the colours that they read, and the steps are at the place of the one before
abbrev pub invariant-loop-k : goal.invariant-loop-k
invariant-loop-k l = record {
  long : length l.out ≡ length l.initial.out;
  count : l.steps.count ≡ l.self.count;
  side : l.steps.side ≡ l.self.side;
  place : l.steps.place ≡ l.self.side - 1 - distance l.self.near (pos (l.to - 1)) + l.k;
  each : (x : ℕ) (d : Colour) → l.to ≤ x + l.k → x < l.to → get_or l.out x d ≡ get_or (row_colours_of l.line) (unsigned_abs (index_read (reading_of l.self) x)) black_colour;
  parts : (x : ℕ) (d : Colour) → l.to ≤ x + l.k → x < l.to → HasBytes (get_or l.out x d);
  others : (x : ℕ) (d : Colour) → x + l.k < l.to ⊎ l.to ≤ x → get_or l.out x d ≡ get_or l.initial.out x d;
}
