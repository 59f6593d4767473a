-- A ternary raster operation with a paint that may have no colour.
use Rattle.std.specs.Prelude.{ℕ, Option, Some, None}
use Rattle.mapping.specs.declared.geometry.Colour.{Colour}
use Rattle.raster_ops.specs.TernaryOps.{ternary_colour}

-- the result of an operation's table on the paint, the source colour and the old colour; the old colour if there is no
-- paint
abbrev pub joined_if : ℕ → Colour → Option Colour → Colour → Colour
joined_if table source None old = old
joined_if table source (Some paint) old = ternary_colour table paint source old
