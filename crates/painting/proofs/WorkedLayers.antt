-- Small drawings worked by hand: the colours that they leave on a white surface, as pictures, and how many pixels they write.
use Rattle.std.specs.Prelude.{codes}
use Rattle.std.proofs.Common.{◌≡◌, ℕ, ◌==◌, pos, negsuc, neg_ℤ, if◌then◌else◌, List, [], ◌∷◌, ◌++◌, map, None, refl}
use Rattle.mapping.specs.Colours.{black_colour, white_colour}
use Rattle.mapping.specs.Image.{blank}
use Rattle.mapping.specs.PageMap.{unscaled_map}
use Rattle.mapping.specs.Surface.{Surface}
use Rattle.mapping.specs.declared.geometry.Colour.{Colour}
use Rattle.mapping.specs.declared.geometry.Point.{Point}
use Rattle.mapping.specs.declared.geometry.Rect.{Rect}
use Rattle.draw_ops.specs.Content.{StepValue}
use Rattle.draw_ops.specs.NoteCounts.{no_notes}
use Rattle.draw_ops.specs.Objects.{BrushValue, brush_object, hatched_brush, null_brush, pen_object, solid_brush}
use Rattle.draw_ops.specs.Operation.{Operation, create, exclude_clip, intersect_clip, line_to, move_to, pixel, polygon, polyline, polyline_to, rectangle, select, set_background_colour, set_background_mode, set_fill_mode, set_raster_op}
use Rattle.draw_ops.specs.declared.hatch.Hatch.TheVariants.{Cross, DiagonalCross, Vertical}
use Rattle.draw_ops.specs.declared.objects.Pen.TheVariants.{Null}
use Rattle.draw_ops.specs.declared.operation.RectangleEdges.TheVariants.{HalfOpen, Inclusive}
use Rattle.draw_ops.specs.declared.raster_op.RasterOp.TheVariants.{Nop, Not}
use Rattle.draw_ops.specs.declared.settings.BackgroundMode.TheVariants.{Transparent}
use Rattle.draw_ops.specs.declared.settings.FillMode.TheVariants.{Winding}
use Rattle.object_tables.specs.Table.{by_lowest_free}
use Rattle.draw_ops.specs.RuleSets.{core_rules}
use Rattle.dc_stack.specs.State.{State, start_state}
use Rattle.preflight_cert.specs.Apply.{image_after}
use Rattle.preflight_cert.specs.Drawings.{drawings_of}
use Rattle.preflight_cert.specs.Writes.{writes_after}

abbrev pub red : Colour
red = record { r = 255; g = 0; b = 0 }

abbrev pub blue : Colour
blue = record { r = 0; g = 0; b = 255 }

abbrev pub green : Colour
green = record { r = 0; g = 255; b = 0 }

-- the colour of a character: `#` is black, `r` red, `g` green, `b` blue, and `.` white; a `/` between rows has none
abbrev pub colours_of_sign : ℕ → List Colour
colours_of_sign sign =
    if sign == 35 then black_colour ∷ []
    else (if sign == 114 then red ∷ [] else (if sign == 103 then green ∷ [] else (if sign == 98 then blue ∷ [] else (if sign == 46 then white_colour ∷ [] else []))))

-- the colours of a picture, row by row
abbrev pub picture : List ℕ → List Colour
picture [] = []
picture (sign ∷ signs) = colours_of_sign sign ++ picture signs

-- a surface of this size that shows a frame of as many units
abbrev pub dimensions : ℕ → ℕ → Surface
dimensions width height = record { width = width; height = height; frame_width = width; frame_height = height }

abbrev pub four : Surface
four = dimensions 4 4

-- a surface of 2 by 2 that shows a frame of 4 by 4
abbrev pub half : Surface
half = record { width = 2; height = 2; frame_width = 4; frame_height = 4 }

-- a file's start whose map doesn't scale
abbrev start : State
start = start_state core_rules (unscaled_map (record { x = pos 0; y = pos 0 })) by_lowest_free

abbrev step_of : Operation → StepValue
step_of operation = record { number = 0; operation = operation; notes = no_notes }

-- what operations leave on a white surface, and how many pixels they write
abbrev pub drawn : Surface → List Operation → List Colour × ℕ
drawn s operations =
    ((image_after (drawings_of (map step_of operations) start) s (blank s.width s.height white_colour)).colours, writes_after (drawings_of (map step_of operations) start) s)

abbrev pub at : ℕ → ℕ → Point
at x y = record { x = pos x; y = pos y }

-- a point this many columns to the left of column 0
abbrev left_of : ℕ → ℕ → Point
left_of x y = record { x = neg_ℤ (pos x); y = pos y }

abbrev pub box : ℕ → ℕ → ℕ → ℕ → Rect
box l t r b = record { l = pos l; t = pos t; r = pos r; b = pos b }

-- operations after selecting a brush, a null pen, or both; without them the pen is black and the brush white
abbrev pub brushed : BrushValue → List Operation → List Operation
brushed brush operations = create None (brush_object brush) ∷ select 0 ∷ operations

abbrev penless : List Operation → List Operation
penless operations = create None (pen_object Null) ∷ select 0 ∷ operations

abbrev pub penless_brushed : BrushValue → List Operation → List Operation
penless_brushed brush operations = create None (pen_object Null) ∷ select 0 ∷ create None (brush_object brush) ∷ select 1 ∷ operations

-- polygons
abbrev triangle : Operation
triangle = polygon ((at 0 0 ∷ at 4 0 ∷ at 0 4 ∷ []) ∷ [])

abbrev square : List Point
square = at 0 0 ∷ at 3 0 ∷ at 3 3 ∷ at 0 3 ∷ []

-- another square over a part of it, in the same direction and in the other
abbrev second : List Point
second = at 1 1 ∷ at 4 1 ∷ at 4 4 ∷ at 1 4 ∷ []

abbrev second_flipped : List Point
second_flipped = at 1 1 ∷ at 1 4 ∷ at 4 4 ∷ at 4 1 ∷ []

-- the stroke is drawn over the fill: of 3, 2 and 1 pixels in the rows inside, one stays visible; 6 and 10 are written
stroked_triangle : drawn four (brushed (solid_brush red) (triangle ∷ [])) ≡ (picture (codes "####/#r.#/#.#./##.."), 16)
stroked_triangle = refl

-- with a null pen no stroke, with a null brush no fill
triangle_without_pen : drawn four (penless_brushed (solid_brush red) (triangle ∷ [])) ≡ (picture (codes "rrr./rr../r.../...."), 6)
triangle_without_pen = refl

triangle_without_brush : drawn four (brushed null_brush (triangle ∷ [])) ≡ (picture (codes "####/#..#/#.#./##.."), 10)
triangle_without_brush = refl

triangle_without_both : drawn four (penless_brushed null_brush (triangle ∷ [])) ≡ (picture (codes "..../..../..../...."), 0)
triangle_without_both = refl

-- at half the size its corners are placed first: 1 pixel inside and 4 on the lines
half_triangle : drawn half (triangle ∷ []) ≡ (picture (codes "##/##"), 5)
half_triangle = refl

-- two squares: where both are, an even number of lines is to the left
squares_by_number : drawn four (penless_brushed (solid_brush black_colour) (polygon (square ∷ second ∷ []) ∷ [])) ≡ (picture (codes "###./#..#/#..#/.###"), 10)
squares_by_number = refl

-- by winding: two more lines run up than down there
squares_by_turns : drawn four (penless_brushed (solid_brush black_colour) (set_fill_mode Winding ∷ polygon (square ∷ second ∷ []) ∷ [])) ≡ (picture (codes "###./####/####/.###"), 14)
squares_by_turns = refl

-- as many run up as down, if one square runs in the other direction
squares_against : drawn four (penless_brushed (solid_brush black_colour) (set_fill_mode Winding ∷ polygon (square ∷ second_flipped ∷ []) ∷ [])) ≡ (picture (codes "###./#..#/#..#/.###"), 10)
squares_against = refl

-- a polygon of two points has no inside, but both its ends, since it runs there and back; with one point or none it has
-- nothing
two_points : drawn four (polygon ((at 0 1 ∷ at 3 1 ∷ []) ∷ []) ∷ []) ≡ (picture (codes "..../####/..../...."), 4)
two_points = refl

few_points : drawn four (polygon ((at 1 1 ∷ []) ∷ [] ∷ []) ∷ polyline ((at 2 2 ∷ []) ∷ [] ∷ []) ∷ polygon [] ∷ polyline_to [] ∷ []) ≡ (picture (codes "..../..../..../...."), 0)
few_points = refl

-- a line has its first point and not its last; of two rows that are equally near it has the lower one
flat : drawn (dimensions 5 3) (move_to (at 0 0) ∷ line_to (at 4 2) ∷ []) ≡ (picture (codes "#..../.##../...#."), 4)
flat = refl

-- from its other end it has the lower one too
flat_back : drawn (dimensions 5 3) (move_to (at 4 2) ∷ line_to (at 0 0) ∷ []) ≡ (picture (codes "...../.##../...##"), 4)
flat_back = refl

-- the same for a y-major line
y_major : drawn (dimensions 2 4) (move_to (at 1 0) ∷ line_to (at 0 3) ∷ []) ≡ (picture (codes ".#/.#/#./.."), 3)
y_major = refl

y_major_back : drawn (dimensions 2 4) (move_to (at 0 3) ∷ line_to (at 1 0) ∷ []) ≡ (picture (codes "../.#/#./#."), 3)
y_major_back = refl

-- a line of length 0 has no pixel, and one of length 1 has its first
no_line : drawn four (move_to (at 1 1) ∷ line_to (at 1 1) ∷ []) ≡ (picture (codes "..../..../..../...."), 0)
no_line = refl

short_line : drawn four (move_to (at 1 1) ∷ line_to (at 2 1) ∷ []) ≡ (picture (codes "..../.#../..../...."), 1)
short_line = refl

-- the next line continues where the one before ended, and has the point that was left out
corner : drawn (dimensions 3 3) (move_to (at 0 0) ∷ polyline_to (at 2 0 ∷ at 2 2 ∷ []) ∷ line_to (at 0 2) ∷ []) ≡ (picture (codes "###/..#/.##"), 6)
corner = refl

-- with inversion, there and back in one record, each pixel is inverted once
there_and_back : drawn (dimensions 6 2) (set_raster_op Not ∷ polyline ((at 0 0 ∷ at 4 0 ∷ at 0 0 ∷ []) ∷ []) ∷ []) ≡ (picture (codes "#####./......"), 5)
there_and_back = refl

-- with two records, the pixels of both lines are inverted twice
there_then_back : drawn (dimensions 6 2) (set_raster_op Not ∷ move_to (at 0 0) ∷ line_to (at 4 0) ∷ line_to (at 0 0) ∷ []) ≡ (picture (codes "#...#./......"), 8)
there_then_back = refl

-- the same with two lists in one record, and with two records
crossed_lists : drawn (dimensions 3 3) (set_raster_op Not ∷ polyline ((at 0 1 ∷ at 3 1 ∷ []) ∷ (at 1 0 ∷ at 1 3 ∷ []) ∷ []) ∷ []) ≡ (picture (codes ".#./###/.#."), 5)
crossed_lists = refl

crossed_records : drawn (dimensions 3 3) (set_raster_op Not ∷ polyline ((at 0 1 ∷ at 3 1 ∷ []) ∷ []) ∷ polyline ((at 1 0 ∷ at 1 3 ∷ []) ∷ []) ∷ []) ≡ (picture (codes ".#./#.#/.#."), 6)
crossed_records = refl

-- a fill and a stroke are two layers: the pixels of both are inverted twice
inverted_twice : drawn four (set_raster_op Not ∷ rectangle (box 0 0 3 3) HalfOpen ∷ []) ≡ (picture (codes "..../.#../..../...."), 17)
inverted_twice = refl

-- an operation that leaves every colour unchanged still writes and counts
left_as_it_is : drawn four (set_raster_op Nop ∷ rectangle (box 0 0 3 3) HalfOpen ∷ []) ≡ (picture (codes "..../..../..../...."), 17)
left_as_it_is = refl

-- a pixel has its own colour, whatever the raster operation
pixel_as_it_is : drawn (dimensions 2 2) (set_raster_op Not ∷ pixel (at 1 0) red ∷ []) ≡ (picture (codes ".r/.."), 1)
pixel_as_it_is = refl

-- a rectangle without its right and bottom edges: with width or height 0 it has nothing
half_open_0_by_2 : drawn four (brushed (solid_brush red) (rectangle (box 1 1 1 3) HalfOpen ∷ [])) ≡ (picture (codes "..../..../..../...."), 0)
half_open_0_by_2 = refl

half_open_2_by_0 : drawn four (brushed (solid_brush red) (rectangle (box 1 1 3 1) HalfOpen ∷ [])) ≡ (picture (codes "..../..../..../...."), 0)
half_open_2_by_0 = refl

-- one pixel is filled, and has no line around it
half_open_1_by_1 : drawn four (brushed (solid_brush red) (rectangle (box 1 1 2 2) HalfOpen ∷ [])) ≡ (picture (codes "..../.r../..../...."), 1)
half_open_1_by_1 = refl

-- two pixels are filled, and both are on the lines there and back
half_open_1_by_2 : drawn four (brushed (solid_brush red) (rectangle (box 1 1 2 3) HalfOpen ∷ [])) ≡ (picture (codes "..../.#../.#../...."), 4)
half_open_1_by_2 = refl

half_open_2_by_2 : drawn four (brushed (solid_brush red) (rectangle (box 1 1 3 3) HalfOpen ∷ [])) ≡ (picture (codes "..../.##./.##./...."), 8)
half_open_2_by_2 = refl

-- its corners may come in any order
half_open_flipped : drawn four (brushed (solid_brush red) (rectangle (box 3 0 0 3) HalfOpen ∷ [])) ≡ (picture (codes "###./#r#./###./...."), 17)
half_open_flipped = refl

-- a rectangle with its right and bottom edges: between a point and itself it has one pixel
inclusive_0_by_0 : drawn four (brushed (solid_brush red) (rectangle (box 1 1 1 1) Inclusive ∷ [])) ≡ (picture (codes "..../.r../..../...."), 1)
inclusive_0_by_0 = refl

inclusive_0_by_1 : drawn four (brushed (solid_brush red) (rectangle (box 1 1 1 2) Inclusive ∷ [])) ≡ (picture (codes "..../.#../.#../...."), 4)
inclusive_0_by_1 = refl

inclusive_1_by_1 : drawn four (brushed (solid_brush red) (rectangle (box 2 2 1 1) Inclusive ∷ [])) ≡ (picture (codes "..../.##./.##./...."), 8)
inclusive_1_by_1 = refl

inclusive_2_by_2 : drawn four (brushed (solid_brush red) (rectangle (box 1 1 3 3) Inclusive ∷ [])) ≡ (picture (codes "..../.###/.#r#/.###"), 17)
inclusive_2_by_2 = refl

-- it fills the surface, and its stroke is the surface's border: 16 and 12 pixels
inclusive_3_by_3 : drawn four (brushed (solid_brush red) (rectangle (box 0 0 3 3) Inclusive ∷ [])) ≡ (picture (codes "####/#rr#/#rr#/####"), 28)
inclusive_3_by_3 = refl

-- at half the size the corners (1, 1) and (2, 2) land on (0, 0) and (1, 1): one pixel lies between, and four with the
-- right and bottom edges
half_open_on_half : drawn half (brushed (solid_brush red) (rectangle (box 1 1 2 2) HalfOpen ∷ [])) ≡ (picture (codes "r./.."), 1)
half_open_on_half = refl

inclusive_on_half : drawn half (brushed (solid_brush red) (rectangle (box 1 1 2 2) Inclusive ∷ [])) ≡ (picture (codes "##/##"), 8)
inclusive_on_half = refl

-- of a rectangle that begins outside the surface, the pixels on it are written: 9 of the fill and 5 of the stroke
from_off_the_surface : drawn four (brushed (solid_brush red) (rectangle (record { l = negsuc 0; t = negsuc 0; r = pos 3; b = pos 3 }) HalfOpen ∷ [])) ≡ (picture (codes "rr#./rr#./###./...."), 14)
from_off_the_surface = refl

-- the same for a polygon: its lines to the left of the surface count for its inside
polygon_from_the_left : drawn four (brushed (solid_brush red) (polygon ((left_of 2 0 ∷ at 2 0 ∷ at 2 4 ∷ left_of 2 4 ∷ []) ∷ []) ∷ [])) ≡ (picture (codes "###./rr#./rr#./rr#."), 14)
polygon_from_the_left = refl

-- a line from the left of the surface has the pixels there that its whole length gives it
line_from_the_left : drawn four (move_to (left_of 2 0) ∷ line_to (at 4 3) ∷ []) ≡ (picture (codes "..../#.../.##./...#"), 4)
line_from_the_left = refl

-- the gaps of a hatch are left unchanged, and not counted
gaps_left : drawn (dimensions 6 6) (penless_brushed (hatched_brush Cross red) (set_background_mode Transparent ∷ rectangle (box 0 0 6 6) HalfOpen ∷ [])) ≡ (picture (codes "rrrrrr/r...../r...../r...../r...../r....."), 11)
gaps_left = refl

-- or they are painted in the background colour
gaps_painted : drawn (dimensions 6 6) (penless_brushed (hatched_brush Cross red) (set_background_colour blue ∷ rectangle (box 0 0 6 6) HalfOpen ∷ [])) ≡ (picture (codes "rrrrrr/rbbbbb/rbbbbb/rbbbbb/rbbbbb/rbbbbb"), 36)
gaps_painted = refl

-- a hatch begins at the corner of the surface, not of the shape
hatch_from_the_corner : drawn four (penless_brushed (hatched_brush DiagonalCross red) (set_background_mode Transparent ∷ rectangle (box 1 0 4 3) HalfOpen ∷ [])) ≡ (picture (codes "..../.r../..r./...."), 2)
hatch_from_the_corner = refl

hatch_over_blue : drawn four (penless_brushed (hatched_brush DiagonalCross red) (set_background_colour blue ∷ rectangle (box 1 0 4 3) HalfOpen ∷ [])) ≡ (picture (codes ".bbb/.rbb/.brb/...."), 9)
hatch_over_blue = refl

-- it repeats after eight columns
hatch_repeats : drawn (dimensions 10 1) (penless_brushed (hatched_brush Vertical red) (set_background_mode Transparent ∷ rectangle (box 0 0 10 1) HalfOpen ∷ [])) ≡ (picture (codes "r.......r."), 2)
hatch_repeats = refl

-- the pen strokes without gaps, whatever the background mode: 4 and 12 pixels
hatch_in_a_frame : drawn four (brushed (hatched_brush DiagonalCross red) (set_background_mode Transparent ∷ rectangle (box 0 0 4 4) HalfOpen ∷ [])) ≡ (picture (codes "####/#r.#/#.r#/####"), 16)
hatch_in_a_frame = refl

-- a raster operation applies to the lines of a hatch, and to its gaps if they are painted
hatch_inverts : drawn four (penless_brushed (hatched_brush DiagonalCross red) (set_raster_op Not ∷ rectangle (box 1 0 4 3) HalfOpen ∷ [])) ≡ (picture (codes ".###/.###/.###/...."), 9)
hatch_inverts = refl

hatch_inverts_its_lines : drawn four (penless_brushed (hatched_brush DiagonalCross red) (set_raster_op Not ∷ set_background_mode Transparent ∷ rectangle (box 1 0 4 3) HalfOpen ∷ [])) ≡ (picture (codes "..../.#../..#./...."), 2)
hatch_inverts_its_lines = refl

-- operations after a kept box without the first column, and a cut of two pixels in its middle
abbrev clipped : List Operation → List Operation
clipped operations = intersect_clip (box 1 0 4 4) ∷ exclude_clip (box 2 1 3 3) ∷ operations

clipped_fill : drawn four (penless_brushed (solid_brush black_colour) (clipped (rectangle (box 0 0 4 4) HalfOpen ∷ []))) ≡ (picture (codes ".###/.#.#/.#.#/.###"), 10)
clipped_fill = refl

clipped_line : drawn four (clipped (move_to (at 0 1) ∷ line_to (at 4 1) ∷ [])) ≡ (picture (codes "..../.#.#/..../...."), 2)
clipped_line = refl

clipped_stroke : drawn four (brushed null_brush (clipped (triangle ∷ []))) ≡ (picture (codes ".###/...#/..../.#.."), 5)
clipped_stroke = refl

-- a second kept box narrows the first
kept_twice : drawn four (penless_brushed (solid_brush black_colour) (clipped (intersect_clip (box 0 0 3 3) ∷ rectangle (box 0 0 4 4) HalfOpen ∷ []))) ≡ (picture (codes ".##./.#../.#../...."), 4)
kept_twice = refl

-- at half the size a cut of one unit, from (1, 1) to (2, 2), cuts the pixel (0, 0)
cut_on_half : drawn half (penless_brushed (solid_brush black_colour) (exclude_clip (box 1 1 2 2) ∷ rectangle (box 0 0 4 4) HalfOpen ∷ [])) ≡ (picture (codes ".#/##"), 3)
cut_on_half = refl
