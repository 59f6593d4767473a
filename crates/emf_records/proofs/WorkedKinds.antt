-- A record of each kind whose meaning `WorkedRows` doesn't show, and what it means.
use Rattle.std.proofs.Common.{◌≡◌, pos, negsuc, [], ◌∷◌, Some, Ok, refl}
use Rattle.draw_ops.specs.Meaning.{unnoted}
use Rattle.draw_ops.specs.Objects.{font_object, palette_object, pen_object, brush_object, hatched_brush}
use Rattle.draw_ops.specs.Operation.{no_effect, save, restore, set_background_mode, set_map_mode, set_raster_op, set_fill_mode, set_background_colour, set_window_origin, set_window_extent, set_viewport_origin, set_viewport_extent, intersect_clip, move_to, line_to, pixel, rectangle, polyline, polygon, polyline_to, create, select, select_palette, delete, begin_path, end_path, close_figure, abort_path, fill_path, stroke_path, stroke_and_fill_path}
use Rattle.draw_ops.specs.declared.hatch.Hatch.TheVariants.{Vertical}
use Rattle.draw_ops.specs.declared.objects.Pen.TheVariants.{Solid as SolidPen}
use Rattle.draw_ops.specs.declared.operation.RectangleEdges.TheVariants.{Inclusive}
use Rattle.draw_ops.specs.declared.raster_op.RasterOp.TheVariants.{XorPen}
use Rattle.draw_ops.specs.declared.settings.BackgroundMode.TheVariants.{Transparent}
use Rattle.draw_ops.specs.declared.settings.FillMode.TheVariants.{Alternate}
use Rattle.emf_records.specs.Emf.{emf_meaning, emf_record}
use Rattle.emf_records.specs.TransformRecords.{is_identity_at}
use Rattle.mapping.specs.declared.map_mode.MapMode.TheVariants.{Anisotropic}

emr_eof : emf_meaning 1 (record { kind = 14; bytes = 0 ∷ 0 ∷ 0 ∷ 0 ∷ 0 ∷ 0 ∷ 0 ∷ 0 ∷ [] }) ≡ Ok (unnoted (no_effect))
unfolding emf_record
emr_eof = refl

emr_polygon : emf_meaning 1 (record { kind = 3; bytes = 0 ∷ 0 ∷ 0 ∷ 0 ∷ 0 ∷ 0 ∷ 0 ∷ 0 ∷ 0 ∷ 0 ∷ 0 ∷ 0 ∷ 0 ∷ 0 ∷ 0 ∷ 0 ∷ 0 ∷ 0 ∷ 0 ∷ 0 ∷ 0 ∷ 0 ∷ 0 ∷ 0 ∷ 2 ∷ 0 ∷ 0 ∷ 0 ∷ 1 ∷ 0 ∷ 0 ∷ 0 ∷ 2 ∷ 0 ∷ 0 ∷ 0 ∷ 3 ∷ 0 ∷ 0 ∷ 0 ∷ 4 ∷ 0 ∷ 0 ∷ 0 ∷ [] }) ≡ Ok (unnoted (polygon ((record { x = pos 1; y = pos 2 } ∷ record { x = pos 3; y = pos 4 } ∷ []) ∷ [])))
unfolding emf_record
emr_polygon = refl

emr_polyline : emf_meaning 1 (record { kind = 4; bytes = 0 ∷ 0 ∷ 0 ∷ 0 ∷ 0 ∷ 0 ∷ 0 ∷ 0 ∷ 0 ∷ 0 ∷ 0 ∷ 0 ∷ 0 ∷ 0 ∷ 0 ∷ 0 ∷ 0 ∷ 0 ∷ 0 ∷ 0 ∷ 0 ∷ 0 ∷ 0 ∷ 0 ∷ 2 ∷ 0 ∷ 0 ∷ 0 ∷ 1 ∷ 0 ∷ 0 ∷ 0 ∷ 2 ∷ 0 ∷ 0 ∷ 0 ∷ 3 ∷ 0 ∷ 0 ∷ 0 ∷ 4 ∷ 0 ∷ 0 ∷ 0 ∷ [] }) ≡ Ok (unnoted (polyline ((record { x = pos 1; y = pos 2 } ∷ record { x = pos 3; y = pos 4 } ∷ []) ∷ [])))
unfolding emf_record
emr_polyline = refl

emr_polyline_16 : emf_meaning 1 (record { kind = 87; bytes = 0 ∷ 0 ∷ 0 ∷ 0 ∷ 0 ∷ 0 ∷ 0 ∷ 0 ∷ 0 ∷ 0 ∷ 0 ∷ 0 ∷ 0 ∷ 0 ∷ 0 ∷ 0 ∷ 0 ∷ 0 ∷ 0 ∷ 0 ∷ 0 ∷ 0 ∷ 0 ∷ 0 ∷ 2 ∷ 0 ∷ 0 ∷ 0 ∷ 1 ∷ 0 ∷ 2 ∷ 0 ∷ 3 ∷ 0 ∷ 4 ∷ 0 ∷ [] }) ≡ Ok (unnoted (polyline ((record { x = pos 1; y = pos 2 } ∷ record { x = pos 3; y = pos 4 } ∷ []) ∷ [])))
unfolding emf_record
emr_polyline_16 = refl

emr_polyline_to_16 : emf_meaning 1 (record { kind = 89; bytes = 0 ∷ 0 ∷ 0 ∷ 0 ∷ 0 ∷ 0 ∷ 0 ∷ 0 ∷ 0 ∷ 0 ∷ 0 ∷ 0 ∷ 0 ∷ 0 ∷ 0 ∷ 0 ∷ 0 ∷ 0 ∷ 0 ∷ 0 ∷ 0 ∷ 0 ∷ 0 ∷ 0 ∷ 2 ∷ 0 ∷ 0 ∷ 0 ∷ 1 ∷ 0 ∷ 2 ∷ 0 ∷ 3 ∷ 0 ∷ 4 ∷ 0 ∷ [] }) ≡ Ok (unnoted (polyline_to (record { x = pos 1; y = pos 2 } ∷ record { x = pos 3; y = pos 4 } ∷ [])))
unfolding emf_record
emr_polyline_to_16 = refl

emr_poly_polyline : emf_meaning 1 (record { kind = 7; bytes = 0 ∷ 0 ∷ 0 ∷ 0 ∷ 0 ∷ 0 ∷ 0 ∷ 0 ∷ 0 ∷ 0 ∷ 0 ∷ 0 ∷ 0 ∷ 0 ∷ 0 ∷ 0 ∷ 0 ∷ 0 ∷ 0 ∷ 0 ∷ 0 ∷ 0 ∷ 0 ∷ 0 ∷ 1 ∷ 0 ∷ 0 ∷ 0 ∷ 2 ∷ 0 ∷ 0 ∷ 0 ∷ 2 ∷ 0 ∷ 0 ∷ 0 ∷ 1 ∷ 0 ∷ 0 ∷ 0 ∷ 2 ∷ 0 ∷ 0 ∷ 0 ∷ 3 ∷ 0 ∷ 0 ∷ 0 ∷ 4 ∷ 0 ∷ 0 ∷ 0 ∷ [] }) ≡ Ok (unnoted (polyline ((record { x = pos 1; y = pos 2 } ∷ record { x = pos 3; y = pos 4 } ∷ []) ∷ [])))
unfolding emf_record
emr_poly_polyline = refl

emr_poly_polyline_16 : emf_meaning 1 (record { kind = 90; bytes = 0 ∷ 0 ∷ 0 ∷ 0 ∷ 0 ∷ 0 ∷ 0 ∷ 0 ∷ 0 ∷ 0 ∷ 0 ∷ 0 ∷ 0 ∷ 0 ∷ 0 ∷ 0 ∷ 0 ∷ 0 ∷ 0 ∷ 0 ∷ 0 ∷ 0 ∷ 0 ∷ 0 ∷ 1 ∷ 0 ∷ 0 ∷ 0 ∷ 2 ∷ 0 ∷ 0 ∷ 0 ∷ 2 ∷ 0 ∷ 0 ∷ 0 ∷ 1 ∷ 0 ∷ 2 ∷ 0 ∷ 3 ∷ 0 ∷ 4 ∷ 0 ∷ [] }) ≡ Ok (unnoted (polyline ((record { x = pos 1; y = pos 2 } ∷ record { x = pos 3; y = pos 4 } ∷ []) ∷ [])))
unfolding emf_record
emr_poly_polyline_16 = refl

emr_poly_polygon : emf_meaning 1 (record { kind = 8; bytes = 0 ∷ 0 ∷ 0 ∷ 0 ∷ 0 ∷ 0 ∷ 0 ∷ 0 ∷ 0 ∷ 0 ∷ 0 ∷ 0 ∷ 0 ∷ 0 ∷ 0 ∷ 0 ∷ 0 ∷ 0 ∷ 0 ∷ 0 ∷ 0 ∷ 0 ∷ 0 ∷ 0 ∷ 1 ∷ 0 ∷ 0 ∷ 0 ∷ 2 ∷ 0 ∷ 0 ∷ 0 ∷ 2 ∷ 0 ∷ 0 ∷ 0 ∷ 1 ∷ 0 ∷ 0 ∷ 0 ∷ 2 ∷ 0 ∷ 0 ∷ 0 ∷ 3 ∷ 0 ∷ 0 ∷ 0 ∷ 4 ∷ 0 ∷ 0 ∷ 0 ∷ [] }) ≡ Ok (unnoted (polygon ((record { x = pos 1; y = pos 2 } ∷ record { x = pos 3; y = pos 4 } ∷ []) ∷ [])))
unfolding emf_record
emr_poly_polygon = refl

emr_set_pixel_v : emf_meaning 1 (record { kind = 15; bytes = 0 ∷ 0 ∷ 0 ∷ 0 ∷ 0 ∷ 0 ∷ 0 ∷ 0 ∷ 2 ∷ 0 ∷ 0 ∷ 0 ∷ 1 ∷ 0 ∷ 0 ∷ 0 ∷ 1 ∷ 2 ∷ 3 ∷ 2 ∷ [] }) ≡ Ok (unnoted (pixel (record { x = pos 2; y = pos 1 }) (record { r = 1; g = 2; b = 3 })))
unfolding emf_record
emr_set_pixel_v = refl

emr_rectangle : emf_meaning 1 (record { kind = 43; bytes = 0 ∷ 0 ∷ 0 ∷ 0 ∷ 0 ∷ 0 ∷ 0 ∷ 0 ∷ 1 ∷ 0 ∷ 0 ∷ 0 ∷ 2 ∷ 0 ∷ 0 ∷ 0 ∷ 3 ∷ 0 ∷ 0 ∷ 0 ∷ 4 ∷ 0 ∷ 0 ∷ 0 ∷ [] }) ≡ Ok (unnoted (rectangle (record { l = pos 1; t = pos 2; r = pos 3; b = pos 4 }) Inclusive))
unfolding emf_record
emr_rectangle = refl

emr_line_to : emf_meaning 1 (record { kind = 54; bytes = 0 ∷ 0 ∷ 0 ∷ 0 ∷ 0 ∷ 0 ∷ 0 ∷ 0 ∷ 2 ∷ 0 ∷ 0 ∷ 0 ∷ 1 ∷ 0 ∷ 0 ∷ 0 ∷ [] }) ≡ Ok (unnoted (line_to (record { x = pos 2; y = pos 1 })))
unfolding emf_record
emr_line_to = refl

emr_fill_path : emf_meaning 1 (record { kind = 62; bytes = 0 ∷ 0 ∷ 0 ∷ 0 ∷ 0 ∷ 0 ∷ 0 ∷ 0 ∷ [] }) ≡ Ok (unnoted (fill_path))
unfolding emf_record
emr_fill_path = refl

emr_stroke_and_fill_path : emf_meaning 1 (record { kind = 63; bytes = 0 ∷ 0 ∷ 0 ∷ 0 ∷ 0 ∷ 0 ∷ 0 ∷ 0 ∷ [] }) ≡ Ok (unnoted (stroke_and_fill_path))
unfolding emf_record
emr_stroke_and_fill_path = refl

emr_stroke_path : emf_meaning 1 (record { kind = 64; bytes = 0 ∷ 0 ∷ 0 ∷ 0 ∷ 0 ∷ 0 ∷ 0 ∷ 0 ∷ [] }) ≡ Ok (unnoted (stroke_path))
unfolding emf_record
emr_stroke_path = refl

emr_begin_path : emf_meaning 1 (record { kind = 59; bytes = 0 ∷ 0 ∷ 0 ∷ 0 ∷ 0 ∷ 0 ∷ 0 ∷ 0 ∷ [] }) ≡ Ok (unnoted (begin_path))
unfolding emf_record
emr_begin_path = refl

emr_end_path : emf_meaning 1 (record { kind = 60; bytes = 0 ∷ 0 ∷ 0 ∷ 0 ∷ 0 ∷ 0 ∷ 0 ∷ 0 ∷ [] }) ≡ Ok (unnoted (end_path))
unfolding emf_record
emr_end_path = refl

emr_close_figure : emf_meaning 1 (record { kind = 61; bytes = 0 ∷ 0 ∷ 0 ∷ 0 ∷ 0 ∷ 0 ∷ 0 ∷ 0 ∷ [] }) ≡ Ok (unnoted (close_figure))
unfolding emf_record
emr_close_figure = refl

emr_abort_path : emf_meaning 1 (record { kind = 68; bytes = 0 ∷ 0 ∷ 0 ∷ 0 ∷ 0 ∷ 0 ∷ 0 ∷ 0 ∷ [] }) ≡ Ok (unnoted (abort_path))
unfolding emf_record
emr_abort_path = refl

emr_intersect_clip_rect : emf_meaning 1 (record { kind = 30; bytes = 0 ∷ 0 ∷ 0 ∷ 0 ∷ 0 ∷ 0 ∷ 0 ∷ 0 ∷ 1 ∷ 0 ∷ 0 ∷ 0 ∷ 2 ∷ 0 ∷ 0 ∷ 0 ∷ 3 ∷ 0 ∷ 0 ∷ 0 ∷ 4 ∷ 0 ∷ 0 ∷ 0 ∷ [] }) ≡ Ok (unnoted (intersect_clip (record { l = pos 1; t = pos 2; r = pos 3; b = pos 4 })))
unfolding emf_record
emr_intersect_clip_rect = refl

emr_select_object : emf_meaning 1 (record { kind = 37; bytes = 0 ∷ 0 ∷ 0 ∷ 0 ∷ 0 ∷ 0 ∷ 0 ∷ 0 ∷ 5 ∷ 0 ∷ 0 ∷ 0 ∷ [] }) ≡ Ok (unnoted (select 5))
unfolding emf_record
emr_select_object = refl

emr_delete_object : emf_meaning 1 (record { kind = 40; bytes = 0 ∷ 0 ∷ 0 ∷ 0 ∷ 0 ∷ 0 ∷ 0 ∷ 0 ∷ 5 ∷ 0 ∷ 0 ∷ 0 ∷ [] }) ≡ Ok (unnoted (delete 5))
unfolding emf_record
emr_delete_object = refl

emr_select_palette : emf_meaning 1 (record { kind = 48; bytes = 0 ∷ 0 ∷ 0 ∷ 0 ∷ 0 ∷ 0 ∷ 0 ∷ 0 ∷ 5 ∷ 0 ∷ 0 ∷ 0 ∷ [] }) ≡ Ok (unnoted (select_palette 5))
unfolding emf_record
emr_select_palette = refl

emr_create_palette : emf_meaning 1 (record { kind = 49; bytes = 0 ∷ 0 ∷ 0 ∷ 0 ∷ 0 ∷ 0 ∷ 0 ∷ 0 ∷ 5 ∷ 0 ∷ 0 ∷ 0 ∷ [] }) ≡ Ok (unnoted (create (Some 5) palette_object))
unfolding emf_record
emr_create_palette = refl

emr_ext_create_font_indirect_w : emf_meaning 1 (record { kind = 82; bytes = 0 ∷ 0 ∷ 0 ∷ 0 ∷ 0 ∷ 0 ∷ 0 ∷ 0 ∷ 5 ∷ 0 ∷ 0 ∷ 0 ∷ [] }) ≡ Ok (unnoted (create (Some 5) font_object))
unfolding emf_record
emr_ext_create_font_indirect_w = refl

emr_create_pen : emf_meaning 1 (record { kind = 38; bytes = 0 ∷ 0 ∷ 0 ∷ 0 ∷ 0 ∷ 0 ∷ 0 ∷ 0 ∷ 5 ∷ 0 ∷ 0 ∷ 0 ∷ 0 ∷ 0 ∷ 0 ∷ 0 ∷ 1 ∷ 0 ∷ 0 ∷ 0 ∷ 0 ∷ 0 ∷ 0 ∷ 0 ∷ 1 ∷ 2 ∷ 3 ∷ 0 ∷ [] }) ≡ Ok (unnoted (create (Some 5) (pen_object (SolidPen 1 (record { r = 1; g = 2; b = 3 })))))
unfolding emf_record
emr_create_pen = refl

emr_create_brush_indirect : emf_meaning 1 (record { kind = 39; bytes = 0 ∷ 0 ∷ 0 ∷ 0 ∷ 0 ∷ 0 ∷ 0 ∷ 0 ∷ 5 ∷ 0 ∷ 0 ∷ 0 ∷ 2 ∷ 0 ∷ 0 ∷ 0 ∷ 1 ∷ 2 ∷ 3 ∷ 0 ∷ 1 ∷ 0 ∷ 0 ∷ 0 ∷ [] }) ≡ Ok (unnoted (create (Some 5) (brush_object (hatched_brush Vertical (record { r = 1; g = 2; b = 3 })))))
unfolding emf_record
emr_create_brush_indirect = refl

emr_set_window_ext_ex : emf_meaning 1 (record { kind = 9; bytes = 0 ∷ 0 ∷ 0 ∷ 0 ∷ 0 ∷ 0 ∷ 0 ∷ 0 ∷ 2 ∷ 0 ∷ 0 ∷ 0 ∷ 1 ∷ 0 ∷ 0 ∷ 0 ∷ [] }) ≡ Ok (unnoted (set_window_extent (record { x = pos 2; y = pos 1 })))
unfolding emf_record
emr_set_window_ext_ex = refl

emr_set_window_org_ex : emf_meaning 1 (record { kind = 10; bytes = 0 ∷ 0 ∷ 0 ∷ 0 ∷ 0 ∷ 0 ∷ 0 ∷ 0 ∷ 2 ∷ 0 ∷ 0 ∷ 0 ∷ 1 ∷ 0 ∷ 0 ∷ 0 ∷ [] }) ≡ Ok (unnoted (set_window_origin (record { x = pos 2; y = pos 1 })))
unfolding emf_record
emr_set_window_org_ex = refl

emr_set_viewport_ext_ex : emf_meaning 1 (record { kind = 11; bytes = 0 ∷ 0 ∷ 0 ∷ 0 ∷ 0 ∷ 0 ∷ 0 ∷ 0 ∷ 2 ∷ 0 ∷ 0 ∷ 0 ∷ 1 ∷ 0 ∷ 0 ∷ 0 ∷ [] }) ≡ Ok (unnoted (set_viewport_extent (record { x = pos 2; y = pos 1 })))
unfolding emf_record
emr_set_viewport_ext_ex = refl

emr_set_viewport_org_ex : emf_meaning 1 (record { kind = 12; bytes = 0 ∷ 0 ∷ 0 ∷ 0 ∷ 0 ∷ 0 ∷ 0 ∷ 0 ∷ 2 ∷ 0 ∷ 0 ∷ 0 ∷ 1 ∷ 0 ∷ 0 ∷ 0 ∷ [] }) ≡ Ok (unnoted (set_viewport_origin (record { x = pos 2; y = pos 1 })))
unfolding emf_record
emr_set_viewport_org_ex = refl

emr_set_map_mode : emf_meaning 1 (record { kind = 17; bytes = 0 ∷ 0 ∷ 0 ∷ 0 ∷ 0 ∷ 0 ∷ 0 ∷ 0 ∷ 8 ∷ 0 ∷ 0 ∷ 0 ∷ [] }) ≡ Ok (unnoted (set_map_mode Anisotropic))
unfolding emf_record
emr_set_map_mode = refl

emr_set_bk_mode : emf_meaning 1 (record { kind = 18; bytes = 0 ∷ 0 ∷ 0 ∷ 0 ∷ 0 ∷ 0 ∷ 0 ∷ 0 ∷ 1 ∷ 0 ∷ 0 ∷ 0 ∷ [] }) ≡ Ok (unnoted (set_background_mode Transparent))
unfolding emf_record
emr_set_bk_mode = refl

emr_set_poly_fill_mode : emf_meaning 1 (record { kind = 19; bytes = 0 ∷ 0 ∷ 0 ∷ 0 ∷ 0 ∷ 0 ∷ 0 ∷ 0 ∷ 1 ∷ 0 ∷ 0 ∷ 0 ∷ [] }) ≡ Ok (unnoted (set_fill_mode Alternate))
unfolding emf_record
emr_set_poly_fill_mode = refl

emr_set_rop2 : emf_meaning 1 (record { kind = 20; bytes = 0 ∷ 0 ∷ 0 ∷ 0 ∷ 0 ∷ 0 ∷ 0 ∷ 0 ∷ 7 ∷ 0 ∷ 0 ∷ 0 ∷ [] }) ≡ Ok (unnoted (set_raster_op XorPen))
unfolding emf_record
emr_set_rop2 = refl

emr_set_bk_color : emf_meaning 1 (record { kind = 25; bytes = 0 ∷ 0 ∷ 0 ∷ 0 ∷ 0 ∷ 0 ∷ 0 ∷ 0 ∷ 1 ∷ 2 ∷ 3 ∷ 0 ∷ [] }) ≡ Ok (unnoted (set_background_colour (record { r = 1; g = 2; b = 3 })))
unfolding emf_record
emr_set_bk_color = refl

emr_move_to_ex : emf_meaning 1 (record { kind = 27; bytes = 0 ∷ 0 ∷ 0 ∷ 0 ∷ 0 ∷ 0 ∷ 0 ∷ 0 ∷ 2 ∷ 0 ∷ 0 ∷ 0 ∷ 1 ∷ 0 ∷ 0 ∷ 0 ∷ [] }) ≡ Ok (unnoted (move_to (record { x = pos 2; y = pos 1 })))
unfolding emf_record
emr_move_to_ex = refl

emr_save_dc : emf_meaning 1 (record { kind = 33; bytes = 0 ∷ 0 ∷ 0 ∷ 0 ∷ 0 ∷ 0 ∷ 0 ∷ 0 ∷ [] }) ≡ Ok (unnoted (save))
unfolding emf_record
emr_save_dc = refl

emr_restore_dc : emf_meaning 1 (record { kind = 34; bytes = 0 ∷ 0 ∷ 0 ∷ 0 ∷ 0 ∷ 0 ∷ 0 ∷ 0 ∷ 255 ∷ 255 ∷ 255 ∷ 255 ∷ [] }) ≡ Ok (unnoted (restore (negsuc 0)))
unfolding emf_record
emr_restore_dc = refl

emr_modify_world_transform : emf_meaning 1 (record { kind = 36; bytes = 0 ∷ 0 ∷ 0 ∷ 0 ∷ 0 ∷ 0 ∷ 0 ∷ 0 ∷ 0 ∷ 0 ∷ 0 ∷ 0 ∷ 0 ∷ 0 ∷ 0 ∷ 0 ∷ 0 ∷ 0 ∷ 0 ∷ 0 ∷ 0 ∷ 0 ∷ 0 ∷ 0 ∷ 0 ∷ 0 ∷ 0 ∷ 0 ∷ 0 ∷ 0 ∷ 0 ∷ 0 ∷ 1 ∷ 0 ∷ 0 ∷ 0 ∷ [] }) ≡ Ok (unnoted (no_effect))
unfolding emf_record is_identity_at
emr_modify_world_transform = refl

emr_set_layout : emf_meaning 1 (record { kind = 115; bytes = 0 ∷ 0 ∷ 0 ∷ 0 ∷ 0 ∷ 0 ∷ 0 ∷ 0 ∷ 0 ∷ 0 ∷ 0 ∷ 0 ∷ [] }) ≡ Ok (unnoted (no_effect))
unfolding emf_record
emr_set_layout = refl

emr_ext_create_pen : emf_meaning 1 (record { kind = 95; bytes = 0 ∷ 0 ∷ 0 ∷ 0 ∷ 0 ∷ 0 ∷ 0 ∷ 0 ∷ 5 ∷ 0 ∷ 0 ∷ 0 ∷ 0 ∷ 0 ∷ 0 ∷ 0 ∷ 0 ∷ 0 ∷ 0 ∷ 0 ∷ 0 ∷ 0 ∷ 0 ∷ 0 ∷ 0 ∷ 0 ∷ 0 ∷ 0 ∷ 0 ∷ 0 ∷ 0 ∷ 0 ∷ 9 ∷ 0 ∷ 0 ∷ 0 ∷ 0 ∷ 0 ∷ 0 ∷ 0 ∷ 1 ∷ 2 ∷ 3 ∷ 0 ∷ 0 ∷ 0 ∷ 0 ∷ 0 ∷ 0 ∷ 0 ∷ 0 ∷ 0 ∷ [] }) ≡ Ok (unnoted (create (Some 5) (pen_object (SolidPen 0 (record { r = 1; g = 2; b = 3 })))))
unfolding emf_record
emr_ext_create_pen = refl
