-- The table of a ternary raster operation.
use Rattle.std.specs.Prelude.{ℕ, ◌/◌, ◌%◌}

-- bits 16 to 23 of the number in a record ([MS-WMF] 2.1.1.31)
abbrev pub ternary_table : ℕ → ℕ
ternary_table code = code / 0x10000 % 0x100
