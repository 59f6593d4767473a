-- What drawing records mean ([MS-WMF] 2.3.3).
use Rattle.std.specs.Prelude.{ℕ, ◌+◌, ◌*◌, ℤ, pos, negsuc, List, [], ◌∷◌, sum, Option, Some, None, Result, Ok}
use Rattle.std.specs.Option.{ok_or}
use Rattle.mapping.specs.declared.geometry.Point.{Point}
use Rattle.point_views.specs.Numbers.{number_at, i16_at}
use Rattle.point_views.specs.declared.numbers.NumberWidth.TheVariants.{Short}
use Rattle.draw_ops.specs.Fields.{needs_bytes, rgb_at, reversed_box_at, yx_at}
use Rattle.draw_ops.specs.Meaning.{DecodedValue, plain, unnoted}
use Rattle.draw_ops.specs.Operation.{line_to, pixel, polygon, polyline, rectangle}
use Rattle.draw_ops.specs.PointLists.{counts_at, lists_by, points_at}
use Rattle.draw_ops.specs.declared.record_fault.RecordFault.{RecordFault}
use Rattle.draw_ops.specs.declared.record_fault.RecordFault.TheVariants.{BadParams}
use Rattle.draw_ops.specs.declared.operation.RectangleEdges.TheVariants.{HalfOpen}

-- META_LINETO, 2.3.3.10: y and x
abbrev pub line_to_record : List ℕ → Result DecodedValue RecordFault
line_to_record bytes = needs_bytes 10 bytes (Ok (unnoted (line_to (yx_at bytes 6))))

-- this many points after the count, if the count isn't negative and the bytes contain them
abbrev pub counted_points : ℤ → List ℕ → Option (List Point)
counted_points (pos count) bytes = points_at Short count bytes 8
counted_points (negsuc n) bytes = None

-- the points of META_POLYLINE and META_POLYGON, 2.3.3.14 and 2.3.3.15: their count, and each x and y
abbrev pub point_list : List ℕ → Result (List Point) RecordFault
point_list bytes = needs_bytes 8 bytes (ok_or (counted_points (i16_at bytes 6) bytes) BadParams)

-- META_POLYLINE draws its points as one list
abbrev pub polyline_record : List ℕ → Result DecodedValue RecordFault
polyline_record bytes = plain (λ points. polyline (points ∷ [])) (point_list bytes)

-- META_POLYGON draws its points as one list
abbrev pub polygon_record : List ℕ → Result DecodedValue RecordFault
polygon_record bytes = plain (λ points. polygon (points ∷ [])) (point_list bytes)

-- as many points as the counts ask for, from an offset on
abbrev pub points_for : Option (List ℕ) → List ℕ → ℕ → Option (List Point)
points_for None bytes place = None
points_for (Some counts) bytes place = points_at Short (sum counts) bytes place

-- the lists of points of this many polygons; their counts come first
abbrev pub lists_of_polygons : ℕ → List ℕ → Option (List (List Point))
lists_of_polygons polygons bytes = lists_by (counts_at Short polygons bytes 8) (points_for (counts_at Short polygons bytes 8) bytes (8 + 2 * polygons))

-- META_POLYPOLYGON, 2.3.3.16: the number of polygons, the count of each, and the points
abbrev pub poly_polygon_record : List ℕ → Result DecodedValue RecordFault
poly_polygon_record bytes = needs_bytes 8 bytes (plain polygon (ok_or (lists_of_polygons (number_at bytes 6 2) bytes) BadParams))

-- META_RECTANGLE, 2.3.3.17: bottom, right, top and left; right and bottom are exclusive
abbrev pub rectangle_record : List ℕ → Result DecodedValue RecordFault
rectangle_record bytes = needs_bytes 14 bytes (Ok (unnoted (rectangle (reversed_box_at bytes 6) HalfOpen)))

-- META_SETPIXEL, 2.3.3.19: the colour, y and x
abbrev pub set_pixel : List ℕ → Result DecodedValue RecordFault
set_pixel bytes = needs_bytes 14 bytes (plain (pixel (yx_at bytes 10)) (rgb_at bytes 6))
