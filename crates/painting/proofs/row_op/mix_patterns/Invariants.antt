use Rattle.std.proofs.Common.{◌≡◌, ℕ, ◌≤◌, ◌<◌, length, slice_index_or}
use Rattle.mapping.specs.Colours.{black_colour}
use Rattle.mapping.specs.Mixes.{mixed_by}
use Rattle.mapping.specs.declared.geometry.Colour.{Colour}
use Rattle.canvas.specs.MixRows.{mix_at}
use Rattle.raster_ops.specs.TernaryOps.{ternary_colour}
use Rattle.painting.proofs.row_op.mix_patterns.Given as goal

-- the mixes so far combine the colours at their columns
abbrev pub invariant-loop-x : goal.invariant-loop-x
invariant-loop-x l = record {
  keeps : length l.keeps ≡ 8192;
  flips : length l.flips ≡ 8192;
  done : (x : ℕ) (d old : Colour) → l.fn.columns.from ≤ x → x < l.x → mixed_by (mix_at l.keeps l.flips x) old ≡ ternary_colour l.operation.op.table (slice_index_or l.patterns x d) black_colour old;
}
