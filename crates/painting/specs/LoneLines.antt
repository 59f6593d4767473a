-- Outlines of one line.
use Rattle.std.specs.Prelude.{List, [], ◌∷◌, Option, Some, None}
use Rattle.mapping.specs.Surface.{Surface, placed_point}
use Rattle.mapping.specs.declared.geometry.Point.{Point}
use Rattle.preflight_cert.specs.Outlines.{line_from}
use Rattle.span_fill.specs.declared.line.Line.{Line}

-- the remaining line, if there is one
abbrev pub lone_lines : Option Line → List Line
lone_lines None = []
lone_lines (Some line) = line ∷ []

-- the line between the positions of two plane points on the surface
abbrev pub landed_line : Surface → Point → Point → Line
landed_line s from to = line_from (placed_point from s) (placed_point to s)
