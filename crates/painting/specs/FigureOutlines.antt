-- The remaining lines of figures.
use Rattle.std.specs.Prelude.{List}
use Rattle.span_fill.specs.declared.line.Line.{Line}
use Rattle.painting.specs.FiguresToCome.{piece_lines_left}
use Rattle.painting.specs.LinesToCome.{lines_to_come}
use Rattle.painting.specs.declared.figure_outline.FigureOutline.{FigureOutline}
use Rattle.painting.specs.declared.figure_outline.FigureOutline.TheVariants.{Lists, Pieces}

-- the remaining lines, from lists of points or from pieces
abbrev pub outline_left : FigureOutline → List Line
outline_left (Lists lines) = lines_to_come lines
outline_left (Pieces lines) = piece_lines_left lines
