-- Fields of records.
use Rattle.std.specs.Prelude.{ℕ, ◌+◌, Bool, ◌||◌, ◌==◌, nat_lt, if◌then◌else◌, List, length, Result, Ok, Err}
use Rattle.mapping.specs.declared.geometry.Colour.{Colour}
use Rattle.mapping.specs.declared.geometry.Point.{Point}
use Rattle.mapping.specs.declared.geometry.Rect.{Rect}
use Rattle.point_views.specs.Numbers.{number_at, i16_at, i32_at}
use Rattle.draw_ops.specs.declared.record_fault.RecordFault.{RecordFault}
use Rattle.draw_ops.specs.declared.record_fault.RecordFault.TheVariants.{BadParams, PaletteColour}

-- a record with fewer bytes than its parameters need has bad parameters
abbrev pub needs_bytes : {T : Type 0} → ℕ → List ℕ → Result T RecordFault → Result T RecordFault
needs_bytes count bytes value = if nat_lt (length bytes) count then Err BadParams else value

-- the point at an offset, with y before x in two bytes each, as in WMF records
abbrev pub yx_at : List ℕ → ℕ → Point
yx_at bytes place = record { x = i16_at bytes (place + 2); y = i16_at bytes place }

-- the point at an offset, with x before y in four bytes each, as in EMF records
abbrev pub xy_at : List ℕ → ℕ → Point
xy_at bytes place = record { x = i32_at bytes place; y = i32_at bytes (place + 4) }

-- the box at an offset, with left, top, right and bottom in four bytes each, as in EMF records
abbrev pub box_at : List ℕ → ℕ → Rect
box_at bytes place = record { l = i32_at bytes place; t = i32_at bytes (place + 4); r = i32_at bytes (place + 8); b = i32_at bytes (place + 12) }

-- the box at an offset, with bottom, right, top and left in two bytes each, as in WMF records
abbrev pub reversed_box_at : List ℕ → ℕ → Rect
reversed_box_at bytes place = record { l = i16_at bytes (place + 6); t = i16_at bytes (place + 4); r = i16_at bytes (place + 2); b = i16_at bytes place }

-- the type of a colour, the byte after its blue ([MS-WMF] 2.2.2.8, reserved), means red, green and blue: it is 0 or 2,
-- by our own rule
abbrev pub is_rgb : ℕ → Bool
is_rgb colour_type = colour_type == 0 || colour_type == 2

-- the colour at an offset, given as red, green and blue; a fault if it comes from a palette
abbrev pub rgb_at : List ℕ → ℕ → Result Colour RecordFault
rgb_at bytes place =
    if is_rgb (number_at bytes (place + 3) 1)
    then Ok (record { r = number_at bytes place 1; g = number_at bytes (place + 1) 1; b = number_at bytes (place + 2) 1 })
    else Err PaletteColour
