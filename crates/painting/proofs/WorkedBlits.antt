-- Small blits and tiles worked by hand: the colours that they leave on a white surface, as pictures, and how many
-- pixels they write.
use Rattle.std.specs.Prelude.{codes}
use Rattle.std.proofs.Common.{◌≡◌, ℕ, ℤ, pos, neg_ℤ, List, [], ◌∷◌, Option, Some, None, refl}
use Rattle.mapping.specs.Colours.{black_colour, white_colour}
use Rattle.mapping.specs.declared.geometry.Point.{Point}
use Rattle.dib_views.specs.Pictures.{Picture}
use Rattle.draw_ops.specs.Blits.{CountedFrom, SourceValue, bottom, top}
use Rattle.draw_ops.specs.Objects.{hatched_brush, null_brush, solid_brush, tile_brush}
use Rattle.draw_ops.specs.Operation.{Operation, blit, intersect_clip, rectangle, set_background_mode}
use Rattle.draw_ops.specs.declared.hatch.Hatch.TheVariants.{Vertical}
use Rattle.draw_ops.specs.declared.operation.RectangleEdges.TheVariants.{HalfOpen}
use Rattle.draw_ops.specs.declared.settings.BackgroundMode.TheVariants.{Transparent}
use Rattle.painting.proofs.WorkedLayers.{at, blue, box, brushed, drawn, four, green, penless_brushed, picture, red, dimensions}

-- two rows of two: blue and white above, red and green below
abbrev quarters : Picture
quarters = record { width = 2; height = 2; rows = (blue ∷ white_colour ∷ []) ∷ (red ∷ green ∷ []) ∷ [] }

-- three columns of two rows
abbrev sixths : Picture
sixths = record { width = 3; height = 2; rows = (red ∷ green ∷ blue ∷ []) ∷ (black_colour ∷ white_colour ∷ red ∷ []) ∷ [] }

-- black and white, in turn
abbrev chequers : Picture
chequers = record { width = 2; height = 2; rows = (black_colour ∷ white_colour ∷ []) ∷ (white_colour ∷ black_colour ∷ []) ∷ [] }

-- a rectangle filled with a bitmap's colours
abbrev from : CountedFrom → Picture → Point → Point → Option SourceValue
from counted shown corner extent = Some (record { picture = shown; corner = corner; extent = extent; counted = counted })

abbrev all_of : CountedFrom → Picture → Option SourceValue
all_of counted shown = from counted shown (at 0 0) (record { x = pos shown.width; y = pos shown.height })

-- a box by its corner and its size, with an operation's table
abbrev block : ℕ → Point → Point → Option SourceValue → Operation
block table corner extent source = blit (record { corner = corner; extent = extent; table = table; source = source })

abbrev extent : ℤ → ℤ → Point
extent x y = record { x = x; y = y }

-- SRCCOPY into the whole surface
abbrev copied_whole : Option SourceValue → List Operation
copied_whole source = block 0xcc (at 0 0) (at 4 4) source ∷ []

-- each pixel is read twice in each direction, whether rows are counted from the top or from the bottom
stretched : drawn four (copied_whole (all_of top quarters)) ≡ (picture (codes "bb../bb../rrgg/rrgg"), 16)
stretched = refl

stretched_from_the_bottom : drawn four (copied_whole (all_of bottom quarters)) ≡ (picture (codes "bb../bb../rrgg/rrgg"), 16)
stretched_from_the_bottom = refl

-- for one row, the topmost row is read, or the bottom one
one_row : drawn four (copied_whole (from top quarters (at 0 0) (at 2 1))) ≡ (picture (codes "bb../bb../bb../bb.."), 16)
one_row = refl

one_row_from_the_bottom : drawn four (copied_whole (from bottom quarters (at 0 0) (at 2 1))) ≡ (picture (codes "rrgg/rrgg/rrgg/rrgg"), 16)
one_row_from_the_bottom = refl

-- mirrored on each axis, by the box or by the source rectangle, and on none by both
mirrored_columns : drawn four (block 0xcc (at 4 0) (extent (neg_ℤ (pos 4)) (pos 4)) (all_of top quarters) ∷ []) ≡ (picture (codes "..bb/..bb/ggrr/ggrr"), 16)
mirrored_columns = refl

mirrored_rows : drawn four (copied_whole (from top quarters (at 0 2) (extent (pos 2) (neg_ℤ (pos 2))))) ≡ (picture (codes "rrgg/rrgg/bb../bb.."), 16)
mirrored_rows = refl

mirrored_twice :
    drawn four (block 0xcc (at 4 4) (extent (neg_ℤ (pos 4)) (neg_ℤ (pos 4))) (from top quarters (at 2 2) (extent (neg_ℤ (pos 2)) (neg_ℤ (pos 2)))) ∷ [])
    ≡ (picture (codes "bb../bb../rrgg/rrgg"), 16)
mirrored_twice = refl

-- three columns into seven, by the centres of the seven, and two rows of two into one pixel
three_into_seven : drawn (dimensions 7 1) (block 0xcc (at 0 0) (at 7 1) (from top sixths (at 0 0) (at 3 1)) ∷ []) ≡ (picture (codes "rrgggbb"), 7)
three_into_seven = refl

squeezed : drawn four (block 0xcc (at 1 1) (at 1 1) (all_of top quarters) ∷ []) ≡ (picture (codes "..../.g../..../...."), 1)
squeezed = refl

-- a box without a pixel writes none, and a box beyond the surface writes those on it
empty_box : drawn four (block 0xcc (at 1 1) (at 0 3) (all_of top quarters) ∷ []) ≡ (picture (codes "..../..../..../...."), 0)
empty_box = refl

half_outside : drawn four (block 0xcc (at 2 2) (at 4 4) (all_of top quarters) ∷ []) ≡ (picture (codes "..../..../..bb/..bb"), 4)
half_outside = refl

-- PATINVERT of white on white is black, and DSTINVERT inverts what the clip keeps
pattern_inverted : drawn four (block 0x5a (at 0 0) (at 4 4) None ∷ []) ≡ (picture (codes "####/####/####/####"), 16)
pattern_inverted = refl

inverted : drawn four (intersect_clip (box 1 1 3 3) ∷ block 0x55 (at 0 0) (at 4 4) None ∷ []) ≡ (picture (codes "..../.##./.##./...."), 4)
inverted = refl

-- PATCOPY with a bitmap brush, from the surface's corner wherever the box begins; with no brush; and with a hatch with
-- gaps
tiled : drawn four (brushed (tile_brush quarters) (block 0xf0 (at 0 0) (at 4 4) None ∷ [])) ≡ (picture (codes "b.b./rgrg/b.b./rgrg"), 16)
tiled = refl

tiled_within : drawn four (brushed (tile_brush sixths) (block 0xf0 (at 1 1) (at 3 3) None ∷ [])) ≡ (picture (codes "..../..r#/.gbr/..r#"), 9)
tiled_within = refl

unpainted : drawn four (brushed null_brush (block 0xf0 (at 0 0) (at 4 4) None ∷ [])) ≡ (picture (codes "..../..../..../...."), 0)
unpainted = refl

lined : drawn four (brushed (hatched_brush Vertical red) (set_background_mode Transparent ∷ block 0xf0 (at 0 0) (at 4 4) None ∷ [])) ≡ (picture (codes "r.../r.../r.../r..."), 4)
lined = refl

-- a null brush and the gaps of a hatch don't matter to an operation that doesn't depend on the pattern
copied_without_brush : drawn four (brushed null_brush (copied_whole (all_of top quarters))) ≡ (picture (codes "bb../bb../rrgg/rrgg"), 16)
copied_without_brush = refl

-- an operation of all three: the brush where the source is 1, and the old colour elsewhere
all_three : drawn (dimensions 2 2) (brushed (solid_brush black_colour) (block 0xe2 (at 0 0) (at 2 2) (all_of top chequers) ∷ [])) ≡ (picture (codes ".#/#."), 4)
all_three = refl

-- a rectangle filled with a bitmap
tiled_rectangle : drawn four (penless_brushed (tile_brush quarters) (rectangle (box 1 0 4 3) HalfOpen ∷ [])) ≡ (picture (codes "..b./.grg/..b./...."), 9)
tiled_rectangle = refl
