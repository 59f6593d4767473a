-- The lines of figures, and their number.
use Rattle.std.proofs.Common.{◌≡◌, ◌≤◌, Bool, true, false, if◌then◌else◌, List, [], ◌∷◌, ◌++◌, length, arith, refl, ap, ◌∙◌, length-append}
use Rattle.std.proofs.lemmas.List.{length-map}
use Rattle.mapping.specs.Surface.{Surface, placed_point}
use Rattle.mapping.specs.declared.geometry.Point.{Point}
use Rattle.dc_stack.specs.Boxes.{placed_list}
use Rattle.dc_stack.specs.Figures.{Figure, points_of_figures}
use Rattle.span_fill.specs.declared.line.Line.{Line}
use Rattle.painting.specs.FigureEnds.{figure_ends, lines_of_figure, lines_of_figures}
use Rattle.preflight_cert.specs.FigureLines.{all_closed, lines_along, placed_figure, placed_figures}
use Rattle.preflight_cert.specs.Outlines.{closed_lines, open_lines}
use Rattle.painting.specs.PlacedLines.{lines_between}
use Rattle.painting.specs.declared.list_lines.Ends.{Ends}
use Rattle.painting.specs.declared.list_lines.Ends.TheVariants.{Open, Closed}
use Rattle.painting.proofs.CountLemmas.{length-closed_lines, open_lines_few}

-- a list has at most as many lines as points
lines_few : (ends : Ends) (ps : List Point) → length (lines_between ends ps) ≤ length ps
lines_few Open ps = open_lines_few ps
lines_few Closed ps = let e = length-closed_lines ps in omega arith

module _ (s : Surface) where
  -- a figure has at most as many lines as points
  figure_few : (ends : Ends) (figure : Figure) → length (lines_of_figure ends (placed_figure s figure)) ≤ length figure.points
  figure_few ends figure =
      let few = lines_few (figure_ends ends figure.is_closed) (placed_list s figure.points) in
      let points = length-map figure.points (λ p. placed_point p s) in omega arith

  -- several figures have at most as many lines as points
  pub figure_lines_few : (ends : Ends) (figures : List Figure) → length (lines_of_figures ends (placed_figures s figures)) ≤ length (points_of_figures figures)
  figure_lines_few ends [] = omega arith
  figure_lines_few ends (f ∷ fs) =
      let first = figure_few ends f in
      let others = figure_lines_few ends fs in
      let a = length-append (lines_of_figure ends (placed_figure s f)) (lines_of_figures ends (placed_figures s fs)) in
      let b = length-append f.points (points_of_figures fs) in omega arith

  -- the lines of figures that are closed only if marked so
  as_they_say : (is_closed : Bool) (ps : List Point) → lines_between (figure_ends Open is_closed) ps ≡ (if is_closed then closed_lines ps else open_lines ps)
  as_they_say true ps = refl
  as_they_say false ps = refl

  pub said_lines : (figures : List Figure) → lines_of_figures Open (placed_figures s figures) ≡ lines_along (placed_figures s figures)
  said_lines [] = refl
  said_lines (f ∷ fs) =
      ap (λ (first : List Line). first ++ lines_of_figures Open (placed_figures s fs)) (as_they_say f.is_closed (placed_list s f.points))
      ∙ ap (λ (rest : List Line). (if f.is_closed then closed_lines (placed_list s f.points) else open_lines (placed_list s f.points)) ++ rest) (said_lines fs)

  -- the lines of figures that are all closed
  pub closed_lines_along : (figures : List Figure) → lines_of_figures Closed (placed_figures s figures) ≡ lines_along (placed_figures s (all_closed figures))
  closed_lines_along [] = refl
  closed_lines_along (f ∷ fs) = ap (λ (rest : List Line). closed_lines (placed_list s f.points) ++ rest) (closed_lines_along fs)
