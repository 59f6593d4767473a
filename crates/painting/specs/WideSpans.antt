-- The remaining rows of a wide line, and the pixels that a nib covers along several lines.
use Rattle.std.specs.Prelude.{ℕ, ◌-◌, pos, unsigned_abs, Bool, ◌&&◌, int_le, int_lt, List}
use Rattle.mapping.specs.Mixes.{mixed_by}
use Rattle.mapping.specs.declared.mix.Mix.{Mix}
use Rattle.mapping.specs.declared.nib.Nib.{Nib}
use Rattle.canvas.specs.CanvasState.{CanvasState}
use Rattle.canvas.specs.Writing.{Repaints}
use Rattle.dc_stack.specs.Values.{placed_value}
use Rattle.span_fill.specs.Spans.{in_region, in_span}
use Rattle.span_fill.specs.WideLines.{WideLineState}
use Rattle.span_fill.specs.WideStrokes.{in_wide_stroke, on_wide_line}
use Rattle.span_fill.specs.declared.line.Line.{Line}
use Rattle.span_fill.specs.declared.span.Region.{Region}
use Rattle.span_fill.specs.declared.span.Span.{Span}
use Rattle.painting.specs.Strips.{is_uncut}
use Rattle.painting.specs.declared.stroke.Stroke.{Stroke}

-- the nib covers the pixel in a remaining row of the line, in one of these columns
abbrev pub is_wide_to_come : WideLineState → Span → ℕ → ℕ → Bool
is_wide_to_come wide columns x y =
    (in_span columns x && on_wide_line wide.nib wide.line (pos x) (pos y)) && (int_le wide.next (pos y) && int_lt (pos y) wide.end)

-- how many rows remain, of the highest surface
abbrev pub rows_left : WideLineState → ℕ
rows_left wide = 8192 - unsigned_abs wide.next

-- the pixels of a region that a nib covers along some lines were mixed, each once
abbrev pub MixesWide : Region → Nib → List Line → Mix → CanvasState → CanvasState → Type 0
MixesWide region nib lines mix old new = Repaints (λ x y. in_region region x y && in_wide_stroke nib lines x y) (λ x y c. mixed_by mix c) old new

-- the pixel lies in the region, a stroke's nib covers it along some lines, and no box of its clip cuts it out
abbrev pub is_uncut_wide : Region → Stroke → List Line → ℕ → ℕ → Bool
is_uncut_wide region stroke lines x y =
    in_region region x y && (in_wide_stroke stroke.nib lines x y && is_uncut (placed_value stroke.clip.now).cuts x y)

-- these pixels were mixed, each once
abbrev pub MixesUncutWide : Region → Stroke → List Line → CanvasState → CanvasState → Type 0
MixesUncutWide region stroke lines old new = Repaints (is_uncut_wide region stroke lines) (λ x y c. mixed_by stroke.mix c) old new
