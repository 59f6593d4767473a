-- Short texts of operations: counts, coordinates and colours.
use Rattle.std.specs.Prelude.{ℕ, List, ◌++◌, length, codes, decimal}
use Rattle.std.specs.Fmt.{signed_decimal}
use Rattle.std.specs.List.{flat_map}
use Rattle.mapping.specs.MapMode.{map_mode_code}
use Rattle.mapping.specs.declared.geometry.Point.{Point}
use Rattle.draw_ops.specs.Operation.{Operation, no_effect, save, restore, set_background_mode, set_map_mode, set_raster_op, set_fill_mode, set_background_colour, set_window_origin, set_window_extent, set_viewport_origin, set_viewport_extent, offset_window_origin, offset_viewport_origin, exclude_clip, intersect_clip, remove_clip, move_to, line_to, pixel, rectangle, polyline, polygon, polyline_to, blit, create, select, select_palette, delete, begin_path, end_path, close_figure, abort_path, fill_path, stroke_path, stroke_and_fill_path}
use Rattle.draw_ops.specs.RasterOp.{raster_op_code}
use Rattle.draw_ops.specs.Settings.{background_mode_code, fill_mode_code}
use Rattle.listing.specs.ObjectTexts.{blit_text, index_text, object_text}
use Rattle.listing.specs.Parts.{colour_text, point_text, rect_text}

-- the number of lists, and the number of points in all of them
abbrev pub lists_text : List (List Point) → List ℕ
lists_text lists = codes "lists " ++ decimal (length lists) ++ codes ", points " ++ decimal (length (flat_map (λ list. list) lists))

-- the text of each operation
abbrev pub asked_text : Operation → List ℕ
asked_text no_effect = codes "nothing"
asked_text save = codes "save"
asked_text (restore number) = codes "restore " ++ signed_decimal number
asked_text (set_background_mode mode) = codes "background mode " ++ decimal (background_mode_code mode)
asked_text (set_map_mode mode) = codes "map mode " ++ decimal (map_mode_code mode)
asked_text (set_raster_op op) = codes "raster operation " ++ decimal (raster_op_code op)
asked_text (set_fill_mode mode) = codes "fill mode " ++ decimal (fill_mode_code mode)
asked_text (set_background_colour colour) = codes "background " ++ colour_text colour
asked_text (set_window_origin origin) = codes "window origin " ++ point_text origin
asked_text (set_window_extent extent) = codes "window extent " ++ point_text extent
asked_text (set_viewport_origin origin) = codes "viewport origin " ++ point_text origin
asked_text (set_viewport_extent extent) = codes "viewport extent " ++ point_text extent
asked_text (offset_window_origin offset) = codes "window offset " ++ point_text offset
asked_text (offset_viewport_origin offset) = codes "viewport offset " ++ point_text offset
asked_text (exclude_clip rect) = codes "exclude " ++ rect_text rect
asked_text (intersect_clip rect) = codes "intersect " ++ rect_text rect
asked_text remove_clip = codes "no clip"
asked_text (move_to point) = codes "move " ++ point_text point
asked_text (line_to point) = codes "line " ++ point_text point
asked_text (pixel point colour) = codes "pixel " ++ point_text point ++ codes " " ++ colour_text colour
asked_text (rectangle rect edges) = codes "rectangle " ++ rect_text rect
asked_text (polyline lists) = codes "polyline " ++ lists_text lists
asked_text (polygon lists) = codes "polygon " ++ lists_text lists
asked_text (polyline_to points) = codes "polyline to points " ++ decimal (length points)
asked_text (blit asked) = blit_text asked
asked_text (create index object) = codes "create " ++ index_text index ++ object_text object
asked_text (select index) = codes "select " ++ decimal index
asked_text (select_palette index) = codes "select palette " ++ decimal index
asked_text (delete index) = codes "delete " ++ decimal index
asked_text begin_path = codes "begin path"
asked_text end_path = codes "end path"
asked_text close_figure = codes "close figure"
asked_text abort_path = codes "abort path"
asked_text fill_path = codes "fill path"
asked_text stroke_path = codes "stroke path"
asked_text stroke_and_fill_path = codes "stroke and fill path"
