-- The definitions on worked values.
use Rattle.std.proofs.Common.{◌≡◌, pos, [], ◌∷◌, Some, None, true, false, refl}
use Rattle.mapping.specs.Colours.{black_colour, white_colour}
use Rattle.mapping.specs.Image.{blank}
use Rattle.mapping.specs.PageMap.{placeable_map}
use Rattle.mapping.specs.Surface.{Surface}
use Rattle.mapping.specs.declared.geometry.Colour.{Colour}
use Rattle.draw_ops.specs.Content.{StepValue}
use Rattle.draw_ops.specs.NoteCounts.{no_notes}
use Rattle.draw_ops.specs.NoteKinds.{noted}
use Rattle.draw_ops.specs.Operation.{no_effect, pixel}
use Rattle.draw_ops.specs.RecordContent.{content_of}
use Rattle.draw_ops.specs.Records.{Record}
use Rattle.draw_ops.specs.declared.record_fault.RecordFault.TheVariants.{PaletteColour}
use Rattle.draw_ops.specs.declared.note.Note.TheVariants.{AfterEnd}
use Rattle.draw_ops.specs.declared.raster_op.RasterOp.TheVariants.{CopyPen, Not, XorPen}
use Rattle.preflight_cert.specs.Apply.{image_after}
use Rattle.preflight_cert.specs.Drawings.{drawings_of}
use Rattle.dc_stack.specs.Clip.{ClipValue, in_clip}
use Rattle.raster_ops.specs.RasterOps.{mixed_colour}
use Rattle.object_tables.specs.Table.{by_lowest_free}
use Rattle.draw_ops.specs.RuleSets.{core_rules}
use Rattle.dc_stack.specs.State.{State, start_state}
use Rattle.preflight_cert.specs.Stop.{stop_at, stop_of}
use Rattle.preflight_cert.specs.Writes.{writes_after}
use Rattle.wmf_records.specs.Framing.{wmf_framing}
use Rattle.wmf_records.specs.Wmf.{wmf_meaning, wmf_record}

abbrev red : Colour
red = record { r = 255; g = 0; b = 0 }

-- META_SETPIXEL of red at (2, 1), the same with a colour of a palette, and META_EOF
abbrev red_pixel : Record
red_pixel = record { kind = 0x041f; bytes = 7 ∷ 0 ∷ 0 ∷ 0 ∷ 0x1f ∷ 4 ∷ 255 ∷ 0 ∷ 0 ∷ 0 ∷ 1 ∷ 0 ∷ 2 ∷ 0 ∷ [] }

abbrev palette_pixel : Record
palette_pixel = record { kind = 0x041f; bytes = 7 ∷ 0 ∷ 0 ∷ 0 ∷ 0x1f ∷ 4 ∷ 255 ∷ 0 ∷ 0 ∷ 1 ∷ 1 ∷ 0 ∷ 2 ∷ 0 ∷ [] }

abbrev end_record : Record
end_record = record { kind = 0x0000; bytes = 3 ∷ 0 ∷ 0 ∷ 0 ∷ 0 ∷ 0 ∷ [] }

abbrev red_step : StepValue
red_step = record { number = 0; operation = pixel (record { x = pos 2; y = pos 1 }) red; notes = no_notes }

-- the steps of a file of a pixel and an end, with a byte behind the end
dot_with_a_byte_after : content_of wmf_framing wmf_meaning 0 (record { records = red_pixel ∷ end_record ∷ []; fault = None; after = 0 ∷ [] }) ≡ record { steps = red_step ∷ record { number = 1; operation = no_effect; notes = noted no_notes AfterEnd } ∷ []; fault = None }
unfolding wmf_record
dot_with_a_byte_after = refl

-- without one nothing is noted
dot_alone : content_of wmf_framing wmf_meaning 0 (record { records = red_pixel ∷ end_record ∷ []; fault = None; after = [] }) ≡ record { steps = red_step ∷ record { number = 1; operation = no_effect; notes = no_notes } ∷ []; fault = None }
unfolding wmf_record
dot_alone = refl

-- a record with a fault ends the steps
palette_dot : content_of wmf_framing wmf_meaning 0 (record { records = palette_pixel ∷ end_record ∷ []; fault = None; after = [] }) ≡ record { steps = []; fault = Some PaletteColour }
unfolding wmf_record
palette_dot = refl

-- the box (0, 0, 4, 4), shown on a surface of 2 by 2
abbrev start : State
start = start_state core_rules (placeable_map (record { x = pos 0; y = pos 0 }) (record { x = pos 4; y = pos 4 })) by_lowest_free

abbrev two_by_two : Surface
two_by_two = record { width = 2; height = 2; frame_width = 4; frame_height = 4 }

-- at 2 by 2 the pixel is in column 1 of row 0, and it is one write
dot_at_2_by_2 : image_after (drawings_of (red_step ∷ []) start) two_by_two (blank 2 2 white_colour) ≡ record { width = 2; height = 2; colours = white_colour ∷ red ∷ white_colour ∷ white_colour ∷ [] }
dot_at_2_by_2 = refl

dot_writes_once : writes_after (drawings_of (red_step ∷ []) start) two_by_two ≡ 1
dot_writes_once = refl

-- a fault behind one step lies in record 1
stops_after_a_step : stop_of (record { steps = record { number = 0; operation = no_effect; notes = no_notes } ∷ []; fault = Some PaletteColour }) start two_by_two ≡ Some (stop_at 1 PaletteColour)
stops_after_a_step = refl

-- a kept box of the left half and a cut of its upper half, at 2 by 2
abbrev left_below : ClipValue
left_below = record { kept = Some (record { l = pos 0; t = pos 0; r = pos 2; b = pos 4 }); cuts = record { l = pos 0; t = pos 0; r = pos 4; b = pos 2 } ∷ [] }

clip_cuts_above : in_clip left_below two_by_two 0 0 ≡ false
clip_cuts_above = refl

clip_keeps_below : in_clip left_below two_by_two 0 1 ≡ true
clip_keeps_below = refl

clip_leaves_out_right : in_clip left_below two_by_two 1 1 ≡ false
clip_leaves_out_right = refl

-- raster operations 6 inverts, 13 copies and 7 is exclusive or
inverted : mixed_colour Not red white_colour ≡ black_colour
inverted = refl

copied_pen : mixed_colour CopyPen red white_colour ≡ red
copied_pen = refl

exclusive : mixed_colour XorPen red white_colour ≡ record { r = 0; g = 255; b = 255 }
exclusive = refl
