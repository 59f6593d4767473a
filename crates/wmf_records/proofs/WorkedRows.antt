-- The definitions on worked values.
use Rattle.std.proofs.Common.{◌≡◌, ℕ, pos, negsuc, List, [], ◌∷◌, Some, None, Ok, Err, refl}
use Rattle.mapping.specs.declared.geometry.Point.{Point}
use Rattle.draw_ops.specs.Meaning.{noting, unnoted}
use Rattle.draw_ops.specs.NoteCounts.{no_notes}
use Rattle.draw_ops.specs.NoteKinds.{noted}
use Rattle.draw_ops.specs.Objects.{brush_object, hatched_brush, null_brush, pen_object}
use Rattle.draw_ops.specs.Operation.{create, no_effect, polygon, restore, set_window_origin}
use Rattle.draw_ops.specs.Records.{Record}
use Rattle.draw_ops.specs.declared.record_fault.RecordFault.TheVariants.{BadParams, BadValue, MetricMode, PaletteColour, UnknownRecord, Unsupported}
use Rattle.draw_ops.specs.declared.hatch.Hatch.TheVariants.{Cross}
use Rattle.draw_ops.specs.declared.note.Note.TheVariants.{DashedPen, WidePen, Skipped as NoteSkipped}
use Rattle.draw_ops.specs.declared.objects.Pen.TheVariants.{Null as NullPen, Solid as SolidPen}
use Rattle.wmf_records.specs.FirstExtent.{first_extent_in}
use Rattle.wmf_records.specs.Wmf.{wmf_meaning, wmf_record}

abbrev at : ℕ → ℕ → Point
at x y = record { x = pos x; y = pos y }

abbrev wmf : ℕ → List ℕ → Record
wmf kind bytes = record { kind = kind; bytes = bytes }

-- META_POLYGON of (0, 0), (4, 0) and (0, 4)
triangle : wmf_meaning 0 (wmf 0x0324 (10 ∷ 0 ∷ 0 ∷ 0 ∷ 0x24 ∷ 3 ∷ 3 ∷ 0 ∷ 0 ∷ 0 ∷ 0 ∷ 0 ∷ 4 ∷ 0 ∷ 0 ∷ 0 ∷ 0 ∷ 0 ∷ 4 ∷ 0 ∷ [])) ≡ Ok (unnoted (polygon ((at 0 0 ∷ at 4 0 ∷ at 0 4 ∷ []) ∷ [])))
unfolding wmf_record
triangle = refl

-- with a word less it has bad parameters, and so it has with a negative count
short_triangle : wmf_meaning 0 (wmf 0x0324 (9 ∷ 0 ∷ 0 ∷ 0 ∷ 0x24 ∷ 3 ∷ 3 ∷ 0 ∷ 0 ∷ 0 ∷ 0 ∷ 0 ∷ 4 ∷ 0 ∷ 0 ∷ 0 ∷ 0 ∷ 0 ∷ [])) ≡ Err BadParams
unfolding wmf_record
short_triangle = refl

negative_count : wmf_meaning 0 (wmf 0x0325 (4 ∷ 0 ∷ 0 ∷ 0 ∷ 0x25 ∷ 3 ∷ 255 ∷ 255 ∷ [])) ≡ Err BadParams
unfolding wmf_record
negative_count = refl

-- META_POLYPOLYGON of a list of one point, an empty one, and one of two points
three_lists : wmf_meaning 0 (wmf 0x0538 (13 ∷ 0 ∷ 0 ∷ 0 ∷ 0x38 ∷ 5 ∷ 3 ∷ 0 ∷ 1 ∷ 0 ∷ 0 ∷ 0 ∷ 2 ∷ 0 ∷ 1 ∷ 0 ∷ 2 ∷ 0 ∷ 3 ∷ 0 ∷ 4 ∷ 0 ∷ 5 ∷ 0 ∷ 6 ∷ 0 ∷ [])) ≡ Ok (unnoted (polygon ((at 1 2 ∷ []) ∷ [] ∷ (at 3 4 ∷ at 5 6 ∷ []) ∷ [])))
unfolding wmf_record
three_lists = refl

-- META_CREATEPENINDIRECT of a wide, dashed, blue pen
blue_dashes : wmf_meaning 0 (wmf 0x02fa (8 ∷ 0 ∷ 0 ∷ 0 ∷ 0xfa ∷ 2 ∷ 1 ∷ 0 ∷ 2 ∷ 0 ∷ 0 ∷ 0 ∷ 0 ∷ 0 ∷ 255 ∷ 0 ∷ [])) ≡ Ok (record { operation = create None (pen_object (SolidPen 2 (record { r = 0; g = 0; b = 255 }))); notes = noted (noted no_notes WidePen) DashedPen })
unfolding wmf_record
blue_dashes = refl

-- of a null pen neither colour nor width matters, and the style 9 is none
null_pen : wmf_meaning 0 (wmf 0x02fa (8 ∷ 0 ∷ 0 ∷ 0 ∷ 0xfa ∷ 2 ∷ 5 ∷ 0 ∷ 2 ∷ 0 ∷ 0 ∷ 0 ∷ 0 ∷ 0 ∷ 0 ∷ 1 ∷ [])) ≡ Ok (unnoted (create None (pen_object NullPen)))
unfolding wmf_record
null_pen = refl

no_style : wmf_meaning 0 (wmf 0x02fa (8 ∷ 0 ∷ 0 ∷ 0 ∷ 0xfa ∷ 2 ∷ 9 ∷ 0 ∷ 2 ∷ 0 ∷ 0 ∷ 0 ∷ 0 ∷ 0 ∷ 0 ∷ 1 ∷ [])) ≡ Err BadValue
unfolding wmf_record
no_style = refl

-- META_CREATEBRUSHINDIRECT of red crosses; with a colour of a palette; and of no brush
red_crosses : wmf_meaning 0 (wmf 0x02fc (7 ∷ 0 ∷ 0 ∷ 0 ∷ 0xfc ∷ 2 ∷ 2 ∷ 0 ∷ 255 ∷ 0 ∷ 0 ∷ 0 ∷ 4 ∷ 0 ∷ [])) ≡ Ok (unnoted (create None (brush_object (hatched_brush Cross (record { r = 255; g = 0; b = 0 })))))
unfolding wmf_record
red_crosses = refl

palette_brush : wmf_meaning 0 (wmf 0x02fc (7 ∷ 0 ∷ 0 ∷ 0 ∷ 0xfc ∷ 2 ∷ 2 ∷ 0 ∷ 255 ∷ 0 ∷ 0 ∷ 1 ∷ 9 ∷ 0 ∷ [])) ≡ Err PaletteColour
unfolding wmf_record
palette_brush = refl

null_brush_record : wmf_meaning 0 (wmf 0x02fc (7 ∷ 0 ∷ 0 ∷ 0 ∷ 0xfc ∷ 2 ∷ 1 ∷ 0 ∷ 255 ∷ 0 ∷ 0 ∷ 1 ∷ 9 ∷ 0 ∷ [])) ≡ Ok (unnoted (create None (brush_object null_brush)))
unfolding wmf_record
null_brush_record = refl

-- META_SETWINDOWORG has y before x; META_RESTOREDC has a sign
window_origin : wmf_meaning 0 (wmf 0x020b (5 ∷ 0 ∷ 0 ∷ 0 ∷ 0x0b ∷ 2 ∷ 1 ∷ 0 ∷ 2 ∷ 0 ∷ [])) ≡ Ok (unnoted (set_window_origin (at 2 1)))
unfolding wmf_record
window_origin = refl

newest_state : wmf_meaning 0 (wmf 0x0127 (4 ∷ 0 ∷ 0 ∷ 0 ∷ 0x27 ∷ 1 ∷ 255 ∷ 255 ∷ [])) ≡ Ok (unnoted (restore (negsuc 0)))
unfolding wmf_record
newest_state = refl

-- META_SETMAPMODE of a metric mode, META_SETLAYOUT both ways, META_ELLIPSE, and a function that is none
metric : wmf_meaning 0 (wmf 0x0103 (4 ∷ 0 ∷ 0 ∷ 0 ∷ 3 ∷ 1 ∷ 6 ∷ 0 ∷ [])) ≡ Err MetricMode
unfolding wmf_record
metric = refl

from_left : wmf_meaning 0 (wmf 0x0149 (4 ∷ 0 ∷ 0 ∷ 0 ∷ 0x49 ∷ 1 ∷ 0 ∷ 0 ∷ [])) ≡ Ok (noting NoteSkipped no_effect)
unfolding wmf_record
from_left = refl

from_right : wmf_meaning 0 (wmf 0x0149 (4 ∷ 0 ∷ 0 ∷ 0 ∷ 0x49 ∷ 1 ∷ 1 ∷ 0 ∷ [])) ≡ Err (Unsupported 0x0149)
unfolding wmf_record
from_right = refl

ellipse : wmf_meaning 0 (wmf 0x0418 []) ≡ Err (Unsupported 0x0418)
unfolding wmf_record
ellipse = refl

no_function : wmf_meaning 0 (wmf 0x0999 []) ≡ Err (UnknownRecord 2457)
unfolding wmf_record
no_function = refl

-- an extent with a 0 in it isn't usable, and the next one is
second_extent : first_extent_in (wmf 0x020c (5 ∷ 0 ∷ 0 ∷ 0 ∷ 0x0c ∷ 2 ∷ 3 ∷ 0 ∷ 0 ∷ 0 ∷ []) ∷ wmf 0x020c (5 ∷ 0 ∷ 0 ∷ 0 ∷ 0x0c ∷ 2 ∷ 3 ∷ 0 ∷ 252 ∷ 255 ∷ []) ∷ []) ≡ Some (negsuc 3, pos 3)
second_extent = refl
