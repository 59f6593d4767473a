-- The offsets of the fields of object records in bytes from the start of a record ([MS-EMF] 2.3.7 and 2.3.8). An `end`
-- is the number of bytes that a record needs.
use Rattle.std.specs.Prelude.{ℕ}

-- the index of the object: ihObject, ihPal, ihFonts, ihPen or ihBrush
abbrev pub object_index : ℕ
object_index = 8

-- a record with only an index
abbrev pub index_end : ℕ
index_end = 12

-- PenStyle of EMR_CREATEPEN's LogPen (2.3.7.7, 2.2.19)
abbrev pub logpen_style : ℕ
logpen_style = 12

-- x of the pen's Width, which is a point
abbrev pub logpen_width : ℕ
logpen_width = 16

-- the pen's ColorRef
abbrev pub logpen_color : ℕ
logpen_color = 24

-- EMR_CREATEPEN
abbrev pub logpen_end : ℕ
logpen_end = 28

-- BrushStyle of EMR_CREATEBRUSHINDIRECT's LogBrushEx (2.3.7.1, 2.2.12)
abbrev pub logbrush_style : ℕ
logbrush_style = 12

-- the brush's Color
abbrev pub logbrush_color : ℕ
logbrush_color = 16

-- the brush's BrushHatch
abbrev pub logbrush_hatch : ℕ
logbrush_hatch = 20

-- EMR_CREATEBRUSHINDIRECT
abbrev pub logbrush_end : ℕ
logbrush_end = 24

-- PenStyle of EMR_EXTCREATEPEN's LogPenEx (2.3.7.9, 2.2.20), after four numbers for a bitmap
abbrev pub logpenex_style : ℕ
logpenex_style = 28

-- the extended pen's Width
abbrev pub logpenex_width : ℕ
logpenex_width = 32

-- the extended pen's BrushStyle
abbrev pub logpenex_brush_style : ℕ
logpenex_brush_style = 36

-- the extended pen's ColorRef
abbrev pub logpenex_color : ℕ
logpenex_color = 40

-- EMR_EXTCREATEPEN, without the entries of a style
abbrev pub logpenex_end : ℕ
logpenex_end = 52
