-- Decoding records that create brushes.
use Rattle.std.specs.Prelude.{ℕ, ◌==◌, if◌then◌else◌, Option, Some, None, Result, Ok, Err}
use Rattle.mapping.specs.declared.geometry.Colour.{Colour}
use Rattle.draw_ops.specs.Hatch.{hatch_of}
use Rattle.draw_ops.specs.Meaning.{DecodedValue, plain}
use Rattle.draw_ops.specs.Objects.{BrushValue, solid_brush, null_brush, hatched_brush, brush_object}
use Rattle.draw_ops.specs.Operation.{create}
use Rattle.draw_ops.specs.Results.{result_map}
use Rattle.draw_ops.specs.declared.record_fault.RecordFault.{RecordFault}
use Rattle.draw_ops.specs.declared.record_fault.RecordFault.TheVariants.{BadValue}
use Rattle.draw_ops.specs.declared.hatch.Hatch.{Hatch}

-- a hatched brush; its colour is decoded before its hatch
abbrev hatched_by : Option Hatch → Result Colour RecordFault → Result BrushValue RecordFault
hatched_by hatch (Err fault) = Err fault
hatched_by None (Ok colour) = Err BadValue
hatched_by (Some hatch) (Ok colour) = Ok (hatched_brush hatch colour)

-- the brush with a style's code ([MS-WMF] 2.1.1.4): 0 is solid, 1 null, and 2 hatched; the hatch is read only for a
-- hatched brush, and for a null brush nothing is
abbrev pub brush_of : ℕ → Result Colour RecordFault → ℕ → Result BrushValue RecordFault
brush_of style colour hatch =
    if style == 0 then result_map solid_brush colour
    else (if style == 1 then Ok null_brush
    else (if style == 2 then hatched_by (hatch_of hatch) colour else Err BadValue))

-- a brush is made at an index, or at the lowest free one
abbrev pub brush_meant : Option ℕ → ℕ → Result Colour RecordFault → ℕ → Result DecodedValue RecordFault
brush_meant at style colour hatch = plain (λ brush. create at (brush_object brush)) (brush_of style colour hatch)
