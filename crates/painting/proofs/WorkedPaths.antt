-- Painted paths worked by hand: the colours that they leave on a white surface of 4 by 4, as pictures, and how many pixels they write.
use Rattle.std.specs.Prelude.{codes}
use Rattle.std.proofs.Common.{◌≡◌, ℕ, ◌==◌, pos, if◌then◌else◌, List, [], ◌∷◌, ◌++◌, map, None, refl}
use Rattle.mapping.specs.Colours.{black_colour, white_colour}
use Rattle.mapping.specs.Image.{blank}
use Rattle.mapping.specs.PageMap.{unscaled_map}
use Rattle.mapping.specs.Surface.{Surface}
use Rattle.mapping.specs.declared.geometry.Colour.{Colour}
use Rattle.mapping.specs.declared.geometry.Point.{Point}
use Rattle.draw_ops.specs.Content.{StepValue}
use Rattle.draw_ops.specs.NoteCounts.{no_notes}
use Rattle.draw_ops.specs.Objects.{brush_object, solid_brush}
use Rattle.draw_ops.specs.Operation.{Operation, begin_path, close_figure, create, end_path, fill_path, line_to, move_to, pixel, polygon, polyline, rectangle, select, stroke_and_fill_path, stroke_path}
use Rattle.draw_ops.specs.declared.operation.RectangleEdges.TheVariants.{Inclusive}
use Rattle.object_tables.specs.Table.{by_lowest_free}
use Rattle.draw_ops.specs.RuleSets.{core_rules}
use Rattle.dc_stack.specs.State.{State, start_state}
use Rattle.preflight_cert.specs.Apply.{image_after}
use Rattle.preflight_cert.specs.Drawings.{drawings_of}
use Rattle.preflight_cert.specs.Writes.{writes_after}

abbrev red : Colour
red = record { r = 255; g = 0; b = 0 }

-- the colour of a character: `#` is black, `r` red, and `.` white; a `/` between rows has none
abbrev colours_of_sign : ℕ → List Colour
colours_of_sign sign =
    if sign == 35 then black_colour ∷ [] else (if sign == 114 then red ∷ [] else (if sign == 46 then white_colour ∷ [] else []))

abbrev picture : List ℕ → List Colour
picture [] = []
picture (sign ∷ signs) = colours_of_sign sign ++ picture signs

abbrev four : Surface
four = record { width = 4; height = 4; frame_width = 4; frame_height = 4 }

abbrev start : State
start = start_state core_rules (unscaled_map (record { x = pos 0; y = pos 0 })) by_lowest_free

abbrev step_of : Operation → StepValue
step_of operation = record { number = 0; operation = operation; notes = no_notes }

-- what operations leave on a white surface after selecting a red brush, and how many pixels they write
abbrev drawn : List Operation → List Colour × ℕ
drawn operations =
    let steps = map step_of (create None (brush_object (solid_brush red)) ∷ select 0 ∷ operations) in
    ((image_after (drawings_of steps start) four (blank 4 4 white_colour)).colours, writes_after (drawings_of steps start) four)

abbrev at : ℕ → ℕ → Point
at x y = record { x = pos x; y = pos y }

abbrev corner : List Operation
corner = begin_path ∷ move_to (at 0 0) ∷ line_to (at 4 0) ∷ line_to (at 0 4) ∷ []

-- a closed triangle, filled and stroked as a polygon: 6 pixels and 10
closed_triangle : drawn (corner ++ close_figure ∷ end_path ∷ stroke_and_fill_path ∷ []) ≡ (picture (codes "####/#r.#/#.#./##.."), 16)
closed_triangle = refl

-- both close it if CLOSEFIGURE didn't
left_open : drawn (corner ++ end_path ∷ stroke_and_fill_path ∷ []) ≡ (picture (codes "####/#r.#/#.#./##.."), 16)
left_open = refl

filled : drawn (corner ++ end_path ∷ fill_path ∷ []) ≡ (picture (codes "rrr./rr../r.../...."), 6)
filled = refl

-- a stroke leaves it open: two lines of 4 pixels have 7 on the surface
stroked_open : drawn (corner ++ end_path ∷ stroke_path ∷ []) ≡ (picture (codes "####/...#/..#./.#.."), 7)
stroked_open = refl

-- a rectangle's stroke goes through its plane corners, without raising them
with_rectangle : drawn (begin_path ∷ rectangle (record { l = pos 3; t = pos 2; r = pos 0; b = pos 0 }) Inclusive ∷ end_path ∷ stroke_path ∷ []) ≡ (picture (codes "####/#..#/####/...."), 10)
with_rectangle = refl

-- a pixel is drawn at once, and the figures after it
pixel_first : drawn (begin_path ∷ polyline ((at 0 1 ∷ at 4 1 ∷ []) ∷ []) ∷ pixel (at 2 1) red ∷ pixel (at 2 2) red ∷ end_path ∷ stroke_path ∷ []) ≡ (picture (codes "..../####/..r./...."), 6)
pixel_first = refl

-- a pixel of two figures is written once
crossing : drawn (begin_path ∷ polyline ((at 0 1 ∷ at 4 1 ∷ []) ∷ (at 1 0 ∷ at 1 4 ∷ []) ∷ []) ∷ end_path ∷ stroke_path ∷ []) ≡ (picture (codes ".#../####/.#../.#.."), 7)
crossing = refl

-- where two figures overlap, ALTERNATE leaves a hole
hole : drawn (begin_path ∷ polygon ((at 0 0 ∷ at 4 0 ∷ at 4 4 ∷ at 0 4 ∷ []) ∷ []) ∷ move_to (at 1 1) ∷ line_to (at 3 1) ∷ line_to (at 3 3) ∷ line_to (at 1 3) ∷ end_path ∷ fill_path ∷ []) ≡ (picture (codes "rrrr/r..r/r..r/rrrr"), 12)
hole = refl

-- a path without figures draws nothing
empty : drawn (begin_path ∷ end_path ∷ stroke_and_fill_path ∷ []) ≡ (picture (codes "..../..../..../...."), 0)
empty = refl
