-- The objects that exist in every file ([MS-EMF] 2.1.31).
use Rattle.std.specs.Prelude.{ℕ, Bool, List, [], ◌∷◌, Option, nat_le}
use Rattle.mapping.specs.declared.geometry.Colour.{Colour}
use Rattle.mapping.specs.Colours.{black_colour, white_colour}
use Rattle.draw_ops.specs.KindTable.{row_with}
use Rattle.draw_ops.specs.Objects.{ObjectValue, brush_object, font_object, null_brush, palette_object, pen_object, solid_brush}
use Rattle.draw_ops.specs.declared.objects.Pen.TheVariants.{Null, Solid}

-- the first index of the stock objects
abbrev pub first_stock_index : ℕ
first_stock_index = 0x80000000

-- the index is one of the stock objects
abbrev pub is_stock_index : ℕ → Bool
is_stock_index index = nat_le first_stock_index index

-- a grey, by its single component
abbrev pub grey : ℕ → Colour
grey part = record { r = part; g = part; b = part }

-- the stock objects by their indexes
abbrev pub stock_objects : List (ℕ × ObjectValue)
stock_objects =
    (0x80000000, brush_object (solid_brush white_colour))
    ∷ (0x80000001, brush_object (solid_brush (grey 0xc0)))
    ∷ (0x80000002, brush_object (solid_brush (grey 0x80)))
    ∷ (0x80000003, brush_object (solid_brush (grey 0x40)))
    ∷ (0x80000004, brush_object (solid_brush black_colour))
    ∷ (0x80000005, brush_object null_brush)
    ∷ (0x80000006, pen_object (Solid 0 white_colour))
    ∷ (0x80000007, pen_object (Solid 0 black_colour))
    ∷ (0x80000008, pen_object Null)
    ∷ (0x8000000a, font_object)
    ∷ (0x8000000b, font_object)
    ∷ (0x8000000c, font_object)
    ∷ (0x8000000d, font_object)
    ∷ (0x8000000e, font_object)
    ∷ (0x8000000f, palette_object)
    ∷ (0x80000010, font_object)
    ∷ (0x80000011, font_object)
    ∷ (0x80000012, brush_object (solid_brush white_colour))
    ∷ (0x80000013, pen_object (Solid 0 black_colour))
    ∷ []

-- the stock object with this index, if there is one
abbrev pub stock_object : ℕ → Option ObjectValue
stock_object index = row_with stock_objects index
