-- Binary raster operations.
use Rattle.std.specs.Prelude.{◌≡◌, ℕ, ◌+◌, ◌-◌, ◌*◌, ◌/◌, ◌%◌, ◌^◌, [], ◌∷◌, map, sum}
use Rattle.std.specs.Int.{bit_at}
use Rattle.mapping.specs.declared.geometry.Colour.{Colour}
use Rattle.draw_ops.specs.declared.raster_op.RasterOp.{RasterOp}
use Rattle.draw_ops.specs.RasterOp.{raster_op_code}
use Rattle.raster_ops.specs.TernaryOps.{ternary_colour}

-- bit k of the result, in its position: the bit of the operation's number minus 1 that the bits of the paint and the
-- old colour select ([MS-WMF] 2.1.1.2)
abbrev pub mixed_bit : ℕ → ℕ → ℕ → ℕ → ℕ
mixed_bit table paint old k = bit_at table (2 * bit_at paint k + bit_at old k) * 2 ^ k

-- a binary raster operation on eight bits, each separately
abbrev pub mixed_part : ℕ → ℕ → ℕ → ℕ
mixed_part table paint old = sum (map (mixed_bit table paint old) (0 ∷ 1 ∷ 2 ∷ 3 ∷ 4 ∷ 5 ∷ 6 ∷ 7 ∷ []))

-- a binary raster operation on each of a colour's 24 bits
abbrev pub mixed_colour : RasterOp → Colour → Colour → Colour
mixed_colour op paint old = record {
  r = mixed_part (raster_op_code op - 1) paint.r old.r;
  g = mixed_part (raster_op_code op - 1) paint.g old.g;
  b = mixed_part (raster_op_code op - 1) paint.b old.b;
}

-- the table of a binary operation, with the paint as its pattern: bit 4P + 2S + D is bit 2P + D of its number minus 1
abbrev pub binary_table : RasterOp → ℕ
binary_table op = 5 * ((raster_op_code op - 1) % 4) + 80 * ((raster_op_code op - 1) / 4)

-- a binary operation gives what its ternary table gives, for any source
abbrev pub BinaryIsTernary : Type 0
BinaryIsTernary =
    (op : RasterOp) (paint source old : Colour) → mixed_colour op paint old ≡ ternary_colour (binary_table op) paint source old
