-- What drawing records mean ([MS-EMF] 2.3.5).
use Rattle.std.specs.Prelude.{ℕ, ◌+◌, ◌*◌, List, [], ◌∷◌, Option, Result, Ok}
use Rattle.std.specs.Option.{ok_or}
use Rattle.mapping.specs.declared.geometry.Point.{Point}
use Rattle.point_views.specs.Numbers.{number_at}
use Rattle.point_views.specs.declared.numbers.NumberWidth.{NumberWidth}
use Rattle.point_views.specs.declared.numbers.NumberWidth.TheVariants.{Long}
use Rattle.draw_ops.specs.Fields.{box_at, needs_bytes, rgb_at, xy_at}
use Rattle.draw_ops.specs.Meaning.{DecodedValue, plain, unnoted}
use Rattle.draw_ops.specs.Operation.{line_to, pixel, polygon, polyline, polyline_to, rectangle}
use Rattle.draw_ops.specs.PointLists.{counts_at, lists_by, points_at}
use Rattle.draw_ops.specs.declared.record_fault.RecordFault.{RecordFault}
use Rattle.draw_ops.specs.declared.record_fault.RecordFault.TheVariants.{BadParams}
use Rattle.draw_ops.specs.declared.operation.RectangleEdges.TheVariants.{Inclusive}

-- EMR_LINETO: x and y
abbrev pub line_to_record : List ℕ → Result DecodedValue RecordFault
line_to_record bytes = needs_bytes 16 bytes (Ok (unnoted (line_to (xy_at bytes 8))))

-- EMR_POLYGON, EMR_POLYLINE, EMR_POLYLINETO, and the same with 16 bits per number: the bounds, the count of points, and
-- each x and y
abbrev pub point_list : NumberWidth → List ℕ → Result (List Point) RecordFault
point_list width bytes = needs_bytes 28 bytes (ok_or (points_at width (number_at bytes 24 4) bytes 28) BadParams)

-- EMR_POLYGON draws its points as one list
abbrev pub polygon_record : NumberWidth → List ℕ → Result DecodedValue RecordFault
polygon_record width bytes = plain (λ points. polygon (points ∷ [])) (point_list width bytes)

-- EMR_POLYLINE draws its points as one list
abbrev pub polyline_record : NumberWidth → List ℕ → Result DecodedValue RecordFault
polyline_record width bytes = plain (λ points. polyline (points ∷ [])) (point_list width bytes)

-- EMR_POLYLINETO draws lines from the current point to its points
abbrev pub polyline_to_record : NumberWidth → List ℕ → Result DecodedValue RecordFault
polyline_to_record width bytes = plain polyline_to (point_list width bytes)

-- this many lists with this many points in all; their counts come first
abbrev pub lists_at : NumberWidth → ℕ → ℕ → List ℕ → Option (List (List Point))
lists_at width lists total bytes = lists_by (counts_at Long lists bytes 32) (points_at width total bytes (32 + 4 * lists))

-- EMR_POLYPOLYGON, EMR_POLYPOLYLINE, and the same with 16 bits per number: the bounds, the number of lists, the number
-- of all points, the count of each list, and the points
abbrev pub point_lists : NumberWidth → List ℕ → Result (List (List Point)) RecordFault
point_lists width bytes = needs_bytes 32 bytes (ok_or (lists_at width (number_at bytes 24 4) (number_at bytes 28 4) bytes) BadParams)

-- EMR_POLYPOLYGON draws its lists together
abbrev pub poly_polygon_record : NumberWidth → List ℕ → Result DecodedValue RecordFault
poly_polygon_record width bytes = plain polygon (point_lists width bytes)

-- EMR_POLYPOLYLINE draws each of its lists
abbrev pub poly_polyline_record : NumberWidth → List ℕ → Result DecodedValue RecordFault
poly_polyline_record width bytes = plain polyline (point_lists width bytes)

-- EMR_RECTANGLE: left, top, right and bottom; right and bottom are inclusive
abbrev pub rectangle_record : List ℕ → Result DecodedValue RecordFault
rectangle_record bytes = needs_bytes 24 bytes (Ok (unnoted (rectangle (box_at bytes 8) Inclusive)))

-- EMR_SETPIXELV: x, y and the colour
abbrev pub set_pixel_v : List ℕ → Result DecodedValue RecordFault
set_pixel_v bytes = needs_bytes 20 bytes (plain (pixel (xy_at bytes 8)) (rgb_at bytes 16))
