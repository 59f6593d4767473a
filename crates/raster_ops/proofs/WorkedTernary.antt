-- Ternary raster operations on worked bits: [MS-WMF] 2.1.1.31.
use Rattle.std.proofs.Common.{◌≡◌, ℕ, ◌-◌, true, false, refl}
use Rattle.std.specs.Int.RustNames.{bit_and, bit_or, bit_xor}
use Rattle.mapping.specs.declared.geometry.Colour.{Colour}
use Rattle.draw_ops.specs.TernaryOp.{ternary_table}
use Rattle.raster_ops.specs.TernaryOps.{ternary_colour, ternary_part, uses_pattern, uses_source}

-- the bits 11110000 of the pattern, 11001100 of the source and 10101010 of what is there: each three bits stand there once
abbrev made : ℕ → ℕ
made table = ternary_part table 0xf0 0xcc 0xaa

-- SRCCOPY, 00CC0020
copy_table : ternary_table 0x00cc0020 ≡ 0xcc
copy_table = refl

copy_row : made 0xcc ≡ 0xcc
copy_row = refl

-- PATCOPY, 00F00021
pattern_table : ternary_table 0x00f00021 ≡ 0xf0
pattern_table = refl

pattern_row : made 0xf0 ≡ 0xf0
pattern_row = refl

-- PATINVERT, 005A0049
pattern_invert_table : ternary_table 0x005a0049 ≡ 0x5a
pattern_invert_table = refl

pattern_invert_row : made 0x5a ≡ bit_xor 0xf0 0xaa
pattern_invert_row = refl

-- DSTINVERT, 00550009
invert_table : ternary_table 0x00550009 ≡ 0x55
invert_table = refl

invert_row : made 0x55 ≡ 255 - 0xaa
invert_row = refl

-- SRCINVERT, 00660046
source_invert_table : ternary_table 0x00660046 ≡ 0x66
source_invert_table = refl

source_invert_row : made 0x66 ≡ bit_xor 0xcc 0xaa
source_invert_row = refl

-- 00E20746: the pattern where the source has a 1, and what is there where it has a 0
mixed_table : ternary_table 0x00e20746 ≡ 0xe2
mixed_table = refl

mixed_row : made 0xe2 ≡ bit_or (bit_and 0xf0 0xcc) (bit_and 0xaa (255 - 0xcc))
mixed_row = refl

-- and on bits that stand in no such order
mixed_of_others : ternary_part 0xe2 0x0f 0x3c 0x55 ≡ 0x4d
mixed_of_others = refl

-- BLACKNESS, WHITENESS and 00AA0029, which does nothing
black_row : made 0x00 ≡ 0
black_row = refl

white_row : made 0xff ≡ 255
white_row = refl

nothing_row : made 0xaa ≡ 0xaa
nothing_row = refl

-- each part of a colour by itself
abbrev colour : ℕ → ℕ → ℕ → Colour
colour r g b = record { r = r; g = g; b = b }

invert_of_colours : ternary_colour 0x66 (colour 1 2 3) (colour 255 15 170) (colour 240 255 170) ≡ colour 15 240 0
invert_of_colours = refl

-- what each depends on
black_uses_no_source : uses_source 0x00 ≡ false
black_uses_no_source = refl

black_uses_no_pattern : uses_pattern 0x00 ≡ false
black_uses_no_pattern = refl

copy_uses_source : uses_source 0xcc ≡ true
copy_uses_source = refl

copy_uses_no_pattern : uses_pattern 0xcc ≡ false
copy_uses_no_pattern = refl

pattern_uses_no_source : uses_source 0xf0 ≡ false
pattern_uses_no_source = refl

pattern_uses_pattern : uses_pattern 0xf0 ≡ true
pattern_uses_pattern = refl

pattern_invert_uses_no_source : uses_source 0x5a ≡ false
pattern_invert_uses_no_source = refl

pattern_invert_uses_pattern : uses_pattern 0x5a ≡ true
pattern_invert_uses_pattern = refl

invert_uses_no_source : uses_source 0x55 ≡ false
invert_uses_no_source = refl

invert_uses_no_pattern : uses_pattern 0x55 ≡ false
invert_uses_no_pattern = refl

mixed_uses_source : uses_source 0xe2 ≡ true
mixed_uses_source = refl

mixed_uses_pattern : uses_pattern 0xe2 ≡ true
mixed_uses_pattern = refl

nothing_uses_no_source : uses_source 0xaa ≡ false
nothing_uses_no_source = refl

nothing_uses_no_pattern : uses_pattern 0xaa ≡ false
nothing_uses_no_pattern = refl

source_invert_uses_source : uses_source 0x66 ≡ true
source_invert_uses_source = refl

source_invert_uses_no_pattern : uses_pattern 0x66 ≡ false
source_invert_uses_no_pattern = refl
