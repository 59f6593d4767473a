-- A record of each kind whose meaning `WorkedRows` doesn't show, and what it means.
use Rattle.std.proofs.Common.{◌≡◌, pos, [], ◌∷◌, None, Ok, refl}
use Rattle.draw_ops.specs.Meaning.{unnoted}
use Rattle.draw_ops.specs.Objects.{font_object, palette_object, brush_object, solid_brush}
use Rattle.draw_ops.specs.Operation.{no_effect, save, set_background_mode, set_map_mode, set_raster_op, set_fill_mode, set_background_colour, set_window_extent, set_viewport_origin, set_viewport_extent, offset_window_origin, offset_viewport_origin, exclude_clip, intersect_clip, move_to, line_to, pixel, rectangle, polyline, create, select, select_palette, delete}
use Rattle.draw_ops.specs.declared.operation.RectangleEdges.TheVariants.{HalfOpen}
use Rattle.draw_ops.specs.declared.raster_op.RasterOp.TheVariants.{XorPen}
use Rattle.draw_ops.specs.declared.settings.BackgroundMode.TheVariants.{Transparent}
use Rattle.draw_ops.specs.declared.settings.FillMode.TheVariants.{Alternate}
use Rattle.wmf_records.specs.Wmf.{wmf_meaning, wmf_record}
use Rattle.mapping.specs.declared.map_mode.MapMode.TheVariants.{Anisotropic}

meta_eof : wmf_meaning 1 (record { kind = 0x0000; bytes = 0 ∷ 0 ∷ 0 ∷ 0 ∷ 0 ∷ 0 ∷ [] }) ≡ Ok (unnoted (no_effect))
unfolding wmf_record
meta_eof = refl

meta_exclude_clip_rect : wmf_meaning 1 (record { kind = 0x0415; bytes = 0 ∷ 0 ∷ 0 ∷ 0 ∷ 0 ∷ 0 ∷ 4 ∷ 0 ∷ 3 ∷ 0 ∷ 2 ∷ 0 ∷ 1 ∷ 0 ∷ [] }) ≡ Ok (unnoted (exclude_clip (record { l = pos 1; t = pos 2; r = pos 3; b = pos 4 })))
unfolding wmf_record
meta_exclude_clip_rect = refl

meta_intersect_clip_rect : wmf_meaning 1 (record { kind = 0x0416; bytes = 0 ∷ 0 ∷ 0 ∷ 0 ∷ 0 ∷ 0 ∷ 4 ∷ 0 ∷ 3 ∷ 0 ∷ 2 ∷ 0 ∷ 1 ∷ 0 ∷ [] }) ≡ Ok (unnoted (intersect_clip (record { l = pos 1; t = pos 2; r = pos 3; b = pos 4 })))
unfolding wmf_record
meta_intersect_clip_rect = refl

meta_rectangle : wmf_meaning 1 (record { kind = 0x041b; bytes = 0 ∷ 0 ∷ 0 ∷ 0 ∷ 0 ∷ 0 ∷ 4 ∷ 0 ∷ 3 ∷ 0 ∷ 2 ∷ 0 ∷ 1 ∷ 0 ∷ [] }) ≡ Ok (unnoted (rectangle (record { l = pos 1; t = pos 2; r = pos 3; b = pos 4 }) HalfOpen))
unfolding wmf_record
meta_rectangle = refl

meta_move_to : wmf_meaning 1 (record { kind = 0x0214; bytes = 0 ∷ 0 ∷ 0 ∷ 0 ∷ 0 ∷ 0 ∷ 1 ∷ 0 ∷ 2 ∷ 0 ∷ [] }) ≡ Ok (unnoted (move_to (record { x = pos 2; y = pos 1 })))
unfolding wmf_record
meta_move_to = refl

meta_line_to : wmf_meaning 1 (record { kind = 0x0213; bytes = 0 ∷ 0 ∷ 0 ∷ 0 ∷ 0 ∷ 0 ∷ 1 ∷ 0 ∷ 2 ∷ 0 ∷ [] }) ≡ Ok (unnoted (line_to (record { x = pos 2; y = pos 1 })))
unfolding wmf_record
meta_line_to = refl

meta_offset_viewport_org : wmf_meaning 1 (record { kind = 0x0211; bytes = 0 ∷ 0 ∷ 0 ∷ 0 ∷ 0 ∷ 0 ∷ 1 ∷ 0 ∷ 2 ∷ 0 ∷ [] }) ≡ Ok (unnoted (offset_viewport_origin (record { x = pos 2; y = pos 1 })))
unfolding wmf_record
meta_offset_viewport_org = refl

meta_offset_window_org : wmf_meaning 1 (record { kind = 0x020f; bytes = 0 ∷ 0 ∷ 0 ∷ 0 ∷ 0 ∷ 0 ∷ 1 ∷ 0 ∷ 2 ∷ 0 ∷ [] }) ≡ Ok (unnoted (offset_window_origin (record { x = pos 2; y = pos 1 })))
unfolding wmf_record
meta_offset_window_org = refl

meta_set_viewport_ext : wmf_meaning 1 (record { kind = 0x020e; bytes = 0 ∷ 0 ∷ 0 ∷ 0 ∷ 0 ∷ 0 ∷ 1 ∷ 0 ∷ 2 ∷ 0 ∷ [] }) ≡ Ok (unnoted (set_viewport_extent (record { x = pos 2; y = pos 1 })))
unfolding wmf_record
meta_set_viewport_ext = refl

meta_set_viewport_org : wmf_meaning 1 (record { kind = 0x020d; bytes = 0 ∷ 0 ∷ 0 ∷ 0 ∷ 0 ∷ 0 ∷ 1 ∷ 0 ∷ 2 ∷ 0 ∷ [] }) ≡ Ok (unnoted (set_viewport_origin (record { x = pos 2; y = pos 1 })))
unfolding wmf_record
meta_set_viewport_org = refl

meta_set_window_ext : wmf_meaning 1 (record { kind = 0x020c; bytes = 0 ∷ 0 ∷ 0 ∷ 0 ∷ 0 ∷ 0 ∷ 1 ∷ 0 ∷ 2 ∷ 0 ∷ [] }) ≡ Ok (unnoted (set_window_extent (record { x = pos 2; y = pos 1 })))
unfolding wmf_record
meta_set_window_ext = refl

meta_save_dc : wmf_meaning 1 (record { kind = 0x001e; bytes = 0 ∷ 0 ∷ 0 ∷ 0 ∷ 0 ∷ 0 ∷ [] }) ≡ Ok (unnoted (save))
unfolding wmf_record
meta_save_dc = refl

meta_set_bk_color : wmf_meaning 1 (record { kind = 0x0201; bytes = 0 ∷ 0 ∷ 0 ∷ 0 ∷ 0 ∷ 0 ∷ 1 ∷ 2 ∷ 3 ∷ 0 ∷ [] }) ≡ Ok (unnoted (set_background_colour (record { r = 1; g = 2; b = 3 })))
unfolding wmf_record
meta_set_bk_color = refl

meta_set_bk_mode : wmf_meaning 1 (record { kind = 0x0102; bytes = 0 ∷ 0 ∷ 0 ∷ 0 ∷ 0 ∷ 0 ∷ 1 ∷ 0 ∷ [] }) ≡ Ok (unnoted (set_background_mode Transparent))
unfolding wmf_record
meta_set_bk_mode = refl

meta_set_poly_fill_mode : wmf_meaning 1 (record { kind = 0x0106; bytes = 0 ∷ 0 ∷ 0 ∷ 0 ∷ 0 ∷ 0 ∷ 1 ∷ 0 ∷ [] }) ≡ Ok (unnoted (set_fill_mode Alternate))
unfolding wmf_record
meta_set_poly_fill_mode = refl

meta_set_rop2 : wmf_meaning 1 (record { kind = 0x0104; bytes = 0 ∷ 0 ∷ 0 ∷ 0 ∷ 0 ∷ 0 ∷ 7 ∷ 0 ∷ [] }) ≡ Ok (unnoted (set_raster_op XorPen))
unfolding wmf_record
meta_set_rop2 = refl

meta_set_map_mode : wmf_meaning 1 (record { kind = 0x0103; bytes = 0 ∷ 0 ∷ 0 ∷ 0 ∷ 0 ∷ 0 ∷ 8 ∷ 0 ∷ [] }) ≡ Ok (unnoted (set_map_mode Anisotropic))
unfolding wmf_record
meta_set_map_mode = refl

meta_polyline : wmf_meaning 1 (record { kind = 0x0325; bytes = 0 ∷ 0 ∷ 0 ∷ 0 ∷ 0 ∷ 0 ∷ 2 ∷ 0 ∷ 1 ∷ 0 ∷ 2 ∷ 0 ∷ 3 ∷ 0 ∷ 4 ∷ 0 ∷ [] }) ≡ Ok (unnoted (polyline ((record { x = pos 1; y = pos 2 } ∷ record { x = pos 3; y = pos 4 } ∷ []) ∷ [])))
unfolding wmf_record
meta_polyline = refl

meta_set_pixel : wmf_meaning 1 (record { kind = 0x041f; bytes = 0 ∷ 0 ∷ 0 ∷ 0 ∷ 0 ∷ 0 ∷ 1 ∷ 2 ∷ 3 ∷ 2 ∷ 1 ∷ 0 ∷ 2 ∷ 0 ∷ [] }) ≡ Ok (unnoted (pixel (record { x = pos 2; y = pos 1 }) (record { r = 1; g = 2; b = 3 })))
unfolding wmf_record
meta_set_pixel = refl

meta_create_font_indirect : wmf_meaning 1 (record { kind = 0x02fb; bytes = 0 ∷ 0 ∷ 0 ∷ 0 ∷ 0 ∷ 0 ∷ [] }) ≡ Ok (unnoted (create None font_object))
unfolding wmf_record
meta_create_font_indirect = refl

meta_create_palette : wmf_meaning 1 (record { kind = 0x00f7; bytes = 0 ∷ 0 ∷ 0 ∷ 0 ∷ 0 ∷ 0 ∷ [] }) ≡ Ok (unnoted (create None palette_object))
unfolding wmf_record
meta_create_palette = refl

meta_select_object : wmf_meaning 1 (record { kind = 0x012d; bytes = 0 ∷ 0 ∷ 0 ∷ 0 ∷ 0 ∷ 0 ∷ 5 ∷ 0 ∷ [] }) ≡ Ok (unnoted (select 5))
unfolding wmf_record
meta_select_object = refl

meta_delete_object : wmf_meaning 1 (record { kind = 0x01f0; bytes = 0 ∷ 0 ∷ 0 ∷ 0 ∷ 0 ∷ 0 ∷ 5 ∷ 0 ∷ [] }) ≡ Ok (unnoted (delete 5))
unfolding wmf_record
meta_delete_object = refl

meta_select_palette : wmf_meaning 1 (record { kind = 0x0234; bytes = 0 ∷ 0 ∷ 0 ∷ 0 ∷ 0 ∷ 0 ∷ 5 ∷ 0 ∷ [] }) ≡ Ok (unnoted (select_palette 5))
unfolding wmf_record
meta_select_palette = refl

meta_solid_brush : wmf_meaning 1 (record { kind = 0x02fc; bytes = 0 ∷ 0 ∷ 0 ∷ 0 ∷ 0 ∷ 0 ∷ 0 ∷ 0 ∷ 1 ∷ 2 ∷ 3 ∷ 0 ∷ 9 ∷ 0 ∷ [] }) ≡ Ok (unnoted (create None (brush_object (solid_brush (record { r = 1; g = 2; b = 3 })))))
unfolding wmf_record
meta_solid_brush = refl
