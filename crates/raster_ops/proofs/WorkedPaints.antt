-- Hatches and brushes on worked pixels.
use Rattle.std.proofs.Common.{◌≡◌, [], ◌∷◌, true, false, Some, None, refl}
use Rattle.mapping.specs.Colours.{black_colour, white_colour}
use Rattle.dib_views.specs.Pictures.{Picture}
use Rattle.draw_ops.specs.Objects.{hatched_brush, null_brush, solid_brush, tile_brush}
use Rattle.draw_ops.specs.declared.hatch.Hatch.TheVariants.{Horizontal, Vertical, ForwardDiagonal, BackwardDiagonal, Cross, DiagonalCross}
use Rattle.draw_ops.specs.declared.settings.BackgroundMode.TheVariants.{Transparent, Opaque}
use Rattle.raster_ops.specs.BrushRows.{row_paint}
use Rattle.raster_ops.specs.Hatches.{has_cell}
use Rattle.raster_ops.specs.Paints.{brush_paint}
use Rattle.raster_ops.specs.declared.rows.BrushRow.TheVariants.{Hatched, Nothing, Solid}

horizontal_on_3_8 : has_cell Horizontal 3 8 ≡ true
horizontal_on_3_8 = refl

horizontal_off_3_1 : has_cell Horizontal 3 1 ≡ false
horizontal_off_3_1 = refl

vertical_on_16_5 : has_cell Vertical 16 5 ≡ true
vertical_on_16_5 = refl

vertical_off_17_5 : has_cell Vertical 17 5 ≡ false
vertical_off_17_5 = refl

forward_on_11_3 : has_cell ForwardDiagonal 11 3 ≡ true
forward_on_11_3 = refl

forward_off_11_4 : has_cell ForwardDiagonal 11 4 ≡ false
forward_off_11_4 = refl

backward_on_10_5 : has_cell BackwardDiagonal 10 5 ≡ true
backward_on_10_5 = refl

backward_off_2_2 : has_cell BackwardDiagonal 2 2 ≡ false
backward_off_2_2 = refl

cross_on_3_0 : has_cell Cross 3 0 ≡ true
cross_on_3_0 = refl

cross_on_8_3 : has_cell Cross 8 3 ≡ true
cross_on_8_3 = refl

cross_off_3_3 : has_cell Cross 3 3 ≡ false
cross_off_3_3 = refl

diagonal_cross_on_2_10 : has_cell DiagonalCross 2 10 ≡ true
diagonal_cross_on_2_10 = refl

diagonal_cross_on_2_13 : has_cell DiagonalCross 2 13 ≡ true
diagonal_cross_on_2_13 = refl

diagonal_cross_off_2_4 : has_cell DiagonalCross 2 4 ≡ false
diagonal_cross_off_2_4 = refl

-- black paint on white paper
solid_paints : brush_paint (solid_brush black_colour) Transparent white_colour 3 4 ≡ Some black_colour
solid_paints = refl

null_paints_nothing : brush_paint null_brush Opaque white_colour 3 4 ≡ None
null_paints_nothing = refl

line_is_painted : brush_paint (hatched_brush Vertical black_colour) Transparent white_colour 8 4 ≡ Some black_colour
line_is_painted = refl

gap_is_left : brush_paint (hatched_brush Vertical black_colour) Transparent white_colour 9 4 ≡ None
gap_is_left = refl

gap_is_painted : brush_paint (hatched_brush Vertical black_colour) Opaque white_colour 9 4 ≡ Some white_colour
gap_is_painted = refl

line_is_painted_on_a_background : brush_paint (hatched_brush Vertical black_colour) Opaque white_colour 8 4 ≡ Some black_colour
line_is_painted_on_a_background = refl

-- a picture of two columns and three rows, black in column 1 of row 2 and white elsewhere
abbrev tile : Picture
tile = record {
  width = 2;
  height = 3;
  rows = (white_colour ∷ white_colour ∷ []) ∷ (white_colour ∷ white_colour ∷ []) ∷ (white_colour ∷ black_colour ∷ []) ∷ [];
}

tile_begins_at_the_corner : brush_paint (tile_brush tile) Transparent white_colour 1 2 ≡ Some black_colour
tile_begins_at_the_corner = refl

tile_is_repeated : brush_paint (tile_brush tile) Opaque black_colour 7 11 ≡ Some black_colour
tile_is_repeated = refl

tile_has_other_columns : brush_paint (tile_brush tile) Opaque black_colour 6 11 ≡ Some white_colour
tile_has_other_columns = refl

tile_has_other_rows : brush_paint (tile_brush tile) Opaque black_colour 7 10 ≡ Some white_colour
tile_has_other_rows = refl

-- a row with the cells in columns 0 and 7 of each eight
row_on_cell : row_paint (Hatched 129 black_colour None) 15 ≡ Some black_colour
row_on_cell = refl

row_in_gap : row_paint (Hatched 129 black_colour (Some white_colour)) 14 ≡ Some white_colour
row_in_gap = refl

row_of_nothing : row_paint Nothing 0 ≡ None
row_of_nothing = refl

row_of_one_colour : row_paint (Solid black_colour) 5 ≡ Some black_colour
row_of_one_colour = refl
