-- The remaining lines of a path's pieces.
use Rattle.std.specs.Prelude.{List}
use Rattle.span_fill.specs.declared.line.Line.{Line}
use Rattle.painting.specs.MovesToCome.{figure_lines_left}
use Rattle.painting.specs.declared.piece_lines.PieceLines.{PieceLines}

-- the remaining lines: those of the figures that the pieces define
abbrev pub piece_lines_left : PieceLines → List Line
piece_lines_left pieces = figure_lines_left pieces.lines
