-- Painted figures: their lines, and their layers.
use Rattle.std.proofs.Common.{◌≡◌, ℕ, ◌<◌, ◌≤◌, ◌^◌, true, false, List, [], ◌∷◌, ◌++◌, length, Some, None, arith, refl, ap, sym, ◌∙◌}
use Rattle.std.specs.List.{All, flat_map, list_all}
use Rattle.std.proofs.lemmas.List.{append-nil}
use Rattle.std.proofs.lemmas.List.Elements.{All-cons, All-nil}
use Rattle.std.proofs.lemmas.List.Folds.{flat_map-map}
use Rattle.mapping.specs.PageMap.{map_numbers}
use Rattle.mapping.specs.PlaceOf.{surface_of}
use Rattle.mapping.specs.Surface.{Surface, lands_within_limits, placed_point}
use Rattle.mapping.specs.declared.geometry.Point.{Point}
use Rattle.dc_stack.specs.Boxes.{placed_list}
use Rattle.dc_stack.specs.Drawing.{Tools, edge_limit, paints_lines, points_of_lists}
use Rattle.dc_stack.specs.Figures.{Figure, figures_of_lists, points_of_figures}
use Rattle.dc_stack.specs.Mapped.{mapped_list, mapped_lists}
use Rattle.dc_stack.specs.declared.draw.Painting.{Painting}
use Rattle.dc_stack.specs.declared.draw.Painting.TheVariants.{Fill, Stroke, StrokeAndFill}
use Rattle.dc_stack.specs.declared.projection.Projection.{Projection}
use Rattle.span_fill.specs.declared.line.Line.{Line}
use Rattle.painting.specs.FigureEnds.{figure_ends, lines_of_figures, stroked_ends}
use Rattle.preflight_cert.specs.DrawingBoxLaws.{IsClosedFigure}
use Rattle.preflight_cert.specs.FigureLines.{all_closed, placed_figures}
use Rattle.preflight_cert.specs.Layer.{figures_filled, figures_stroked, filled, stroked}
use Rattle.preflight_cert.specs.Outlines.{closed_lines, open_lines}
use Rattle.painting.specs.PlacedLines.{AllListsLand, lines_between, lines_of_lists, projected_list}
use Rattle.preflight_cert.specs.Shape.{inside_figures, placed_lists}
use Rattle.preflight_cert.specs.StrokedOutline.{Outline, along, outline_lines, outline_points}
use Rattle.painting.specs.declared.list_lines.Ends.{Ends}
use Rattle.painting.specs.declared.list_lines.Ends.TheVariants.{Open, Closed}
use Rattle.painting.proofs.FigureLemmas.{closed_lines_along, figure_lines_few, said_lines}
use Rattle.painting.proofs.LandingLemmas.{lists_land}
use Rattle.painting.proofs.OutlineLemmas.{placed_lines, placed_through}

-- a drawing has so few points that they can be counted
pub few_to_count : (n : ℕ) → n ≤ edge_limit → n < 2 ^ 64
unfolding edge_limit
few_to_count n few = omega (arith, few)

-- the lines of figures, on the surface
module _ (s : Surface) (figures : List Figure) (ends : Ends) (lines : List Line) (drawn : lines ≡ lines_of_figures ends (placed_figures s figures)) where
  pub lines_few : length lines ≤ length (points_of_figures figures)
  lines_few = rw drawn (figure_lines_few s ends figures)

-- closing all figures doesn't change their points
pub points_closed : (figures : List Figure) → points_of_figures (all_closed figures) ≡ points_of_figures figures
points_closed [] = refl
points_closed (f ∷ fs) = ap (λ (rest : List Point). f.points ++ rest) (points_closed fs)

pub figures_closed : (figures : List Figure) → All IsClosedFigure (all_closed figures)
figures_closed [] = All-nil IsClosedFigure
figures_closed (f ∷ fs) = All-cons IsClosedFigure _ (all_closed fs) refl (figures_closed fs)

-- the lines along which a painting strokes
abbrev pub stroked_outline : Ends → List Figure → Outline
stroked_outline Open figures = along figures
stroked_outline Closed figures = along (all_closed figures)

pub stroke_reported : (ends : Ends) (figures : List Figure) → outline_points (stroked_outline ends figures) ≡ points_of_figures figures
stroke_reported Open figures = refl
stroke_reported Closed figures = points_closed figures

pub strokes_figures : (painting : Painting) (ends : Ends) (figures : List Figure) (tools : Tools) → stroked_ends painting ≡ Some ends → figures_stroked painting figures tools ≡ stroked (stroked_outline ends figures) tools
strokes_figures Fill ends figures tools h = cc
strokes_figures Stroke Open figures tools h = refl
strokes_figures Stroke Closed figures tools h = cc
strokes_figures StrokeAndFill Open figures tools h = cc
strokes_figures StrokeAndFill Closed figures tools h = refl

-- figures that are stroked have a layer for that besides their inside
pub lines_painted : (painting : Painting) (ends : Ends) → stroked_ends painting ≡ Some ends → paints_lines painting ≡ true
lines_painted Fill ends h = cc
lines_painted Stroke ends h = refl
lines_painted StrokeAndFill ends h = refl

pub strokes_nothing : (painting : Painting) (figures : List Figure) (tools : Tools) → stroked_ends painting ≡ None → figures_stroked painting figures tools ≡ []
strokes_nothing Fill figures tools h = refl
strokes_nothing Stroke figures tools h = cc
strokes_nothing StrokeAndFill figures tools h = cc

pub stroked_lines : (s : Surface) (ends : Ends) (figures : List Figure) → lines_of_figures ends (placed_figures s figures) ≡ outline_lines (stroked_outline ends figures) s
stroked_lines s Open figures = said_lines s figures
stroked_lines s Closed figures = closed_lines_along s figures

-- the inside that a painting fills
pub fills_figures : (painting : Painting) (figures : List Figure) (tools : Tools) → (painting ≡ Stroke → ⊥) → figures_filled painting figures tools ≡ filled (inside_figures tools.modes.fill_mode (all_closed figures)) tools
fills_figures Fill figures tools h = refl
fills_figures Stroke figures tools h = absurd (h refl)
fills_figures StrokeAndFill figures tools h = refl

-- the figures of lists of page points
points_listed : (lists : List (List Point)) → points_of_figures (figures_of_lists lists) ≡ points_of_lists lists
points_listed lists = flat_map-map (λ (figure : Figure). figure.points) (λ (points : List Point). record { points = points; is_closed = false }) lists

listed_figures : (s : Surface) (ends : Ends) (lists : List (List Point)) → flat_map (lines_between ends) (placed_lists s lists) ≡ lines_of_figures ends (placed_figures s (figures_of_lists lists))
listed_figures s ends [] = refl
listed_figures s Open (ps ∷ lists) = ap (λ (rest : List Line). open_lines (placed_list s ps) ++ rest) (listed_figures s Open lists)
listed_figures s Closed (ps ∷ lists) = ap (λ (rest : List Line). closed_lines (placed_list s ps) ++ rest) (listed_figures s Closed lists)

one_listed : (ends : Ends) (points : List Point) → lines_between ends points ≡ lines_between (figure_ends ends false) points ++ []
one_listed Open points = sym (append-nil (open_lines points))
one_listed Closed points = sym (append-nil (closed_lines points))

module _ (by : Projection) (s : Surface) (e : surface_of by.place ≡ s) where
  -- the lines of lists of page points are those of the figures of the lists, on the surface
  pub listed_lines : (ends : Ends) (lists : List (List Point)) → lines_of_lists by ends lists ≡ lines_of_figures ends (placed_figures s (figures_of_lists (mapped_lists (map_numbers by.map) lists)))
  listed_lines ends lists = placed_lines by s e ends lists ∙ listed_figures s ends (mapped_lists (map_numbers by.map) lists)

  -- the lists land if the figures do
  pub listed_land : (lists : List (List Point)) → list_all (λ p. lands_within_limits p s) (points_of_figures (figures_of_lists (mapped_lists (map_numbers by.map) lists))) ≡ true → AllListsLand by lists
  listed_land lists t = lists_land by s e lists (ap (list_all (λ p. lands_within_limits p s)) (sym (points_listed (mapped_lists (map_numbers by.map) lists))) ∙ t)

  -- the same for lines from a placed point through points of the page
  pub through_lines : (ends : Ends) (start p : Point) (ps : List Point) → start ≡ placed_point p s → lines_between ends (start ∷ projected_list by ps) ≡ lines_of_figures ends (placed_figures s (figures_of_lists ((p ∷ mapped_list (map_numbers by.map) ps) ∷ [])))
  through_lines ends start p ps at =
      ap (lines_between ends) (placed_through by s e start p ps at) ∙ one_listed ends (placed_list s (p ∷ mapped_list (map_numbers by.map) ps))
