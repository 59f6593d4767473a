-- Lines of lists of points, on a surface.
use Rattle.std.proofs.Common.{◌≡◌, List, [], ◌∷◌, ◌++◌, refl, ap, subst, ◌∙◌}
use Rattle.std.specs.List.{flat_map}
use Rattle.mapping.specs.PageMap.{map_numbers}
use Rattle.mapping.specs.PlaceOf.{surface_of}
use Rattle.mapping.specs.Surface.{Surface, placed_point}
use Rattle.mapping.specs.declared.geometry.Point.{Point}
use Rattle.dc_stack.specs.Boxes.{placed_list}
use Rattle.dc_stack.specs.Mapped.{mapped_list, mapped_lists}
use Rattle.dc_stack.specs.Projected.{projected}
use Rattle.dc_stack.specs.declared.projection.Projection.{Projection}
use Rattle.span_fill.specs.declared.line.Line.{Line}
use Rattle.painting.specs.PlacedLines.{lines_between, lines_of_lists, projected_list}
use Rattle.preflight_cert.specs.Shape.{placed_lists}
use Rattle.painting.specs.declared.list_lines.Ends.{Ends}

module _ (by : Projection) where
  -- points of the page land where their points of the plane do
  pub placed_list_of : (ps : List Point) → projected_list by ps ≡ placed_list (surface_of by.place) (mapped_list (map_numbers by.map) ps)
  placed_list_of [] = refl
  placed_list_of (p ∷ ps) = ap (λ (rest : List Point). projected by p ∷ rest) (placed_list_of ps)

  placed_lines_of : (ends : Ends) (ls : List (List Point)) → lines_of_lists by ends ls ≡ flat_map (lines_between ends) (placed_lists (surface_of by.place) (mapped_lists (map_numbers by.map) ls))
  placed_lines_of ends [] = refl
  placed_lines_of ends (ps ∷ ls) =
      ap (λ (list : List Point). lines_between ends list ++ lines_of_lists by ends ls) (placed_list_of ps)
      ∙ ap (λ (rest : List Line). lines_between ends (placed_list (surface_of by.place) (mapped_list (map_numbers by.map) ps)) ++ rest) (placed_lines_of ends ls)

  module _ (s : Surface) (e : surface_of by.place ≡ s) where
    pub placed_lines : (ends : Ends) (ls : List (List Point)) → lines_of_lists by ends ls ≡ flat_map (lines_between ends) (placed_lists s (mapped_lists (map_numbers by.map) ls))
    placed_lines ends ls =
        subst (λ (r : Surface). lines_of_lists by ends ls ≡ flat_map (lines_between ends) (placed_lists r (mapped_lists (map_numbers by.map) ls))) e (placed_lines_of ends ls)

    -- the same for points of the page after a placed one
    pub placed_through : (start p : Point) (ps : List Point) → start ≡ placed_point p s → start ∷ projected_list by ps ≡ placed_list s (p ∷ mapped_list (map_numbers by.map) ps)
    placed_through start p ps at =
        let others = subst (λ (r : Surface). projected_list by ps ≡ placed_list r (mapped_list (map_numbers by.map) ps)) e (placed_list_of ps) in
        ap (λ (first : Point). first ∷ projected_list by ps) at ∙ ap (λ (rest : List Point). placed_point p s ∷ rest) others
