-- Decoding records that create pens.
use Rattle.std.specs.Prelude.{ℕ, ◌%◌, ℤ, pos, int_lt, unsigned_abs, Bool, true, false, not, bit_and, ◌==◌, if◌then◌else◌, List, [], ◌∷◌, Option, Some, None, Result, Ok, Err}
use Rattle.std.specs.Option.{option_map}
use Rattle.mapping.specs.declared.geometry.Colour.{Colour}
use Rattle.draw_ops.specs.KindTable.{row_with}
use Rattle.draw_ops.specs.Meaning.{DecodedValue}
use Rattle.draw_ops.specs.NoteCounts.{no_notes}
use Rattle.draw_ops.specs.NoteKinds.{noted}
use Rattle.draw_ops.specs.Objects.{pen_object}
use Rattle.draw_ops.specs.Operation.{create}
use Rattle.draw_ops.specs.Results.{result_map}
use Rattle.draw_ops.specs.declared.record_fault.RecordFault.{RecordFault}
use Rattle.draw_ops.specs.declared.record_fault.RecordFault.TheVariants.{BadValue}
use Rattle.draw_ops.specs.declared.note.Note.TheVariants.{DashedPen, WidePen}
use Rattle.draw_ops.specs.declared.objects.Pen.{Pen}
use Rattle.draw_ops.specs.declared.objects.Pen.TheVariants.{Null as NullPen, Solid as SolidPen}
use Rattle.draw_ops.specs.declared.pen_records.PenFields.{PenFields}
use Rattle.draw_ops.specs.declared.pen_records.PenStyle.{PenStyle}
use Rattle.draw_ops.specs.declared.pen_records.PenStyle.TheVariants.{Solid, Dashed, Null}

-- the styles, by the low four bits of their code ([MS-WMF] 2.1.1.23)
abbrev pub pen_styles : List (ℕ × PenStyle)
pen_styles = (0, Solid) ∷ (1, Dashed) ∷ (2, Dashed) ∷ (3, Dashed) ∷ (4, Dashed) ∷ (5, Null) ∷ (6, Solid) ∷ (7, Dashed) ∷ (8, Dashed) ∷ []

-- the style with this code
abbrev pub pen_style_of : ℕ → Option PenStyle
pen_style_of code = row_with pen_styles (code % 16)

-- the fields of a pen with a style, a width, and whether the width is noted
abbrev fields_of : ℕ → Bool → PenStyle → PenFields
fields_of width is_wide style = record { style = style; width = width; is_wide = is_wide }

-- the fields of a LogPen ([MS-EMF] 2.2.19, [MS-WMF] 2.2.1.4): a negative width counts by its absolute value, and isn't
-- noted
abbrev pub log_pen_fields : ℕ → ℤ → Option PenFields
log_pen_fields style width = option_map (fields_of (unsigned_abs width) (int_lt (pos 1) width)) (pen_style_of style)

-- the code of a style has the bit 0x10000, PS_GEOMETRIC ([MS-EMF] 2.1.25)
abbrev pub is_geometric : ℕ → Bool
is_geometric style = not (bit_and style 0x10000 == 0)

-- the fields of a LogPenEx ([MS-EMF] 2.2.20): the width counts only if the pen is geometric, and isn't noted
abbrev pub log_pen_ex_fields : ℕ → ℕ → Option PenFields
log_pen_ex_fields style width = option_map (fields_of (if is_geometric style then width else 0) false) (pen_style_of style)

-- a pen that draws nothing, or one with a width and a colour, which may be a fault
abbrev styled_pen : PenStyle → ℕ → Result Colour RecordFault → Result Pen RecordFault
styled_pen Null width colour = Ok NullPen
styled_pen Solid width colour = result_map (SolidPen width) colour
styled_pen Dashed width colour = result_map (SolidPen width) colour

-- the pen with these fields: a dashed one is played as solid, and the colour of one that draws nothing is ignored
abbrev pub pen_of : PenFields → Result Colour RecordFault → Result Pen RecordFault
pen_of fields colour = styled_pen fields.style fields.width colour

-- a wide pen is noted
abbrev wide_notes : Bool → List ℕ
wide_notes false = no_notes
wide_notes true = noted no_notes WidePen

-- the notes of a pen with a style: that it is wide, and that it is dashed
abbrev style_notes : PenStyle → Bool → List ℕ
style_notes Null is_wide = no_notes
style_notes Solid is_wide = wide_notes is_wide
style_notes Dashed is_wide = noted (wide_notes is_wide) DashedPen

-- the notes of a pen with these fields
abbrev pub pen_notes : PenFields → List ℕ
pen_notes fields = style_notes fields.style fields.is_wide

-- a pen is made at an index, or at the lowest free one, with its notes
abbrev pub pen_made : Option ℕ → List ℕ → Pen → DecodedValue
pen_made at notes pen = record { operation = create at (pen_object pen); notes = notes }

-- a pen with these fields, if the standard has its style
abbrev pub pen_meant : Option ℕ → Option PenFields → Result Colour RecordFault → Result DecodedValue RecordFault
pen_meant at None colour = Err BadValue
pen_meant at (Some fields) colour = result_map (pen_made at (pen_notes fields)) (pen_of fields colour)
