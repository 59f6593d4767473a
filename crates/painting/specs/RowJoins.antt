-- Some columns of a row, with a paint and a source.
use Rattle.std.specs.Prelude.{◌≡◌, ℕ, ◌≤◌, ◌<◌, Bool, true, is_some, List, slice_index_or}
use Rattle.mapping.specs.Colours.{black_colour}
use Rattle.mapping.specs.declared.geometry.Colour.{Colour}
use Rattle.draw_ops.specs.declared.ternary_op.TernaryOp.{TernaryOp}
use Rattle.raster_ops.specs.BrushRows.{row_paint}
use Rattle.raster_ops.specs.TernaryOps.{ternary_colour}
use Rattle.raster_ops.specs.declared.rows.BrushRow.{BrushRow}
use Rattle.span_fill.specs.declared.span.Span.{Span}
use Rattle.painting.specs.Joined.{joined_if}
use Rattle.painting.specs.RowOps.{inked, is_inked, mixed_at}
use Rattle.painting.specs.declared.row_op.RowOp.{RowOp}
use Rattle.painting.specs.declared.row_op_scratch.MixScratch.{MixScratch}

-- in these columns, if a column passes the test, the new colour is the wanted one
abbrev pub AreMade : Span → (ℕ → Bool) → (made wanted : ℕ → Colour → Colour) → Type 0
AreMade columns test made wanted = (x : ℕ) (old : Colour) → columns.from ≤ x → x < columns.to → test x ≡ true → made x old ≡ wanted x old

-- the colour at a column; black if there is none
abbrev pub colours_at : List Colour → ℕ → Colour
colours_at colours x = slice_index_or colours x black_colour

-- a row of a brush has a colour for the column
abbrev pub row_has : BrushRow → ℕ → Bool
row_has row x = is_some (row_paint row x)

-- the result of an operation on the row's colour, the source colour at the column and the old colour
abbrev pub joined_row : TernaryOp → (ℕ → Colour) → BrushRow → ℕ → Colour → Colour
joined_row op read row x old = joined_if op.table (read x) (row_paint row x) old

-- the result of an operation on a pattern's colour at the column and the old colour, without a source
abbrev pub joined_patterns : TernaryOp → List Colour → ℕ → Colour → Colour
joined_patterns op patterns x old = ternary_colour op.table (colours_at patterns x) black_colour old

-- the result of the mix at a column of the scratch buffers
abbrev pub mixed_in : MixScratch → ℕ → Colour → Colour
mixed_in scratch x old = mixed_at scratch.keeps.value scratch.flips.value x old

-- a row operation writes where the brush's row has a colour, and combines it with the old one, without a source
pub record IsJoined (op : TernaryOp) (row : BrushRow) (row_op : RowOp) : Type 0 where
  pub test : (x : ℕ) → is_inked row_op x ≡ row_has row x
  pub colour : (x : ℕ) (old : Colour) → row_has row x ≡ true → inked row_op x old ≡ joined_row op (λ x. black_colour) row x old
