-- The offsets of the fields of object records in bytes from the start of a record ([MS-WMF] 2.3.4). An `end` is the
-- number of bytes that a record needs.
use Rattle.std.specs.Prelude.{ℕ}

-- the index of the object: ObjectIndex or Palette
abbrev pub object_index : ℕ
object_index = 6

-- a record with only an index
abbrev pub index_end : ℕ
index_end = 8

-- PenStyle of META_CREATEPENINDIRECT's Pen (2.3.4.5, 2.2.1.4)
abbrev pub pen_style : ℕ
pen_style = 6

-- x of the pen's Width, which is a point
abbrev pub pen_width : ℕ
pen_width = 8

-- the pen's ColorRef
abbrev pub pen_color : ℕ
pen_color = 12

-- META_CREATEPENINDIRECT
abbrev pub pen_end : ℕ
pen_end = 16

-- BrushStyle of META_CREATEBRUSHINDIRECT's LogBrush (2.3.4.1, 2.2.2.10)
abbrev pub logbrush_style : ℕ
logbrush_style = 6

-- the brush's ColorRef
abbrev pub logbrush_color : ℕ
logbrush_color = 8

-- the brush's BrushHatch
abbrev pub logbrush_hatch : ℕ
logbrush_hatch = 12

-- META_CREATEBRUSHINDIRECT
abbrev pub logbrush_end : ℕ
logbrush_end = 14
