-- Boxes of rectangles within the limits of lines.
use Rattle.mapping.specs.declared.geometry.Rect.{Rect}
use Rattle.span_fill.specs.Lines.{IsNear}

-- all edges of a box are within the limits of lines
pub record IsNearBox (box : Rect) : Type 0 where
  pub left : IsNear box.l
  pub top : IsNear box.t
  pub right : IsNear box.r
  pub bottom : IsNear box.b
