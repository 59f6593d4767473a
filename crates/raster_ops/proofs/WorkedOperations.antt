-- The sixteen operations on the four pairs of bits, in the words of [MS-WMF] 2.1.1.2.
use Rattle.std.proofs.Common.{◌≡◌, ℕ, ◌-◌, refl}
use Rattle.std.specs.Int.RustNames.{bit_and, bit_or, bit_xor}
use Rattle.mapping.specs.declared.geometry.Colour.{Colour}
use Rattle.draw_ops.specs.RasterOp.{raster_op_code}
use Rattle.draw_ops.specs.declared.raster_op.RasterOp.{RasterOp}
use Rattle.draw_ops.specs.declared.raster_op.RasterOp.TheVariants.{Black, NotMergePen, MaskNotPen, NotCopyPen, MaskPenNot, Not, XorPen, NotMaskPen, MaskPen, NotXorPen, Nop, MergeNotPen, CopyPen, MergePenNot, MergePen, White}
use Rattle.raster_ops.specs.RasterOps.{mixed_colour, mixed_part}

-- the bits 11001100 of the pen and 10101010 of what is there: each pair of bits stands there twice
abbrev pen : ℕ
pen = 204

abbrev there : ℕ
there = 170

abbrev made : RasterOp → ℕ
made op = mixed_part (raster_op_code op - 1) pen there

black_row : made Black ≡ 0
black_row = refl

not_merge_pen_row : made NotMergePen ≡ 255 - bit_or pen there
not_merge_pen_row = refl

mask_not_pen_row : made MaskNotPen ≡ bit_and (255 - pen) there
mask_not_pen_row = refl

not_copy_pen_row : made NotCopyPen ≡ 255 - pen
not_copy_pen_row = refl

mask_pen_not_row : made MaskPenNot ≡ bit_and pen (255 - there)
mask_pen_not_row = refl

not_there_row : made Not ≡ 255 - there
not_there_row = refl

xor_pen_row : made XorPen ≡ bit_xor pen there
xor_pen_row = refl

not_mask_pen_row : made NotMaskPen ≡ 255 - bit_and pen there
not_mask_pen_row = refl

mask_pen_row : made MaskPen ≡ bit_and pen there
mask_pen_row = refl

not_xor_pen_row : made NotXorPen ≡ 255 - bit_xor pen there
not_xor_pen_row = refl

nop_row : made Nop ≡ there
nop_row = refl

merge_not_pen_row : made MergeNotPen ≡ bit_or (255 - pen) there
merge_not_pen_row = refl

copy_pen_row : made CopyPen ≡ pen
copy_pen_row = refl

merge_pen_not_row : made MergePenNot ≡ bit_or pen (255 - there)
merge_pen_not_row = refl

merge_pen_row : made MergePen ≡ bit_or pen there
merge_pen_row = refl

white_row : made White ≡ 255
white_row = refl

-- each part of a colour by itself
abbrev colour : ℕ → ℕ → ℕ → Colour
colour r g b = record { r = r; g = g; b = b }

xor_of_colours : mixed_colour XorPen (colour 255 15 170) (colour 240 255 170) ≡ colour 15 240 0
xor_of_colours = refl
