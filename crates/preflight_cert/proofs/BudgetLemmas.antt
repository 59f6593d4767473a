-- Budgets of layers and of drawings.
use Rattle.std.proofs.Common.{◌≡◌, ℕ, ◌+◌, ◌≤◌, List, [], ◌∷◌, ◌++◌, Option, Some, None, refl, arith}
use Rattle.std.proofs.Math.Nat.{mul-le-mul}
use Rattle.std.specs.List.{All}
use Rattle.mapping.specs.Boxes.{HasPoint, IsBoundingBox}
use Rattle.mapping.specs.CellLaws.{CellLaws, WideCellLaws}
use Rattle.mapping.specs.Nibs.{CoversNib}
use Rattle.mapping.specs.PlacingLaws.{ShowsFrame}
use Rattle.mapping.specs.Surface.{Surface}
use Rattle.mapping.specs.declared.geometry.Point.{Point}
use Rattle.mapping.specs.declared.geometry.Rect.{Rect}
use Rattle.mapping.specs.declared.nib.Nib.{Nib}
use Rattle.dc_stack.specs.Drawing.{Drawing}
use Rattle.preflight_cert.specs.Budget.{box_cells, layers_budget, shape_cells, wide_box_cells}
use Rattle.preflight_cert.specs.Drawings.{NumberedDrawing, drawing_then}
use Rattle.preflight_cert.specs.Entries.{budget_of, drawing_budget, entries_after}
use Rattle.preflight_cert.specs.Layer.{Layer}
use Rattle.preflight_cert.specs.Shape.{Shape, inside_figures, inside_rectangle, pixel_under, stroke_of}
use Rattle.preflight_cert.specs.declared.certificate_entry.Entry.{Entry}
use Rattle.preflight_cert.proofs.CoverLemmas.{corners}

outside_none : (n : ℕ) → n ≡ 0 + n
outside_none n = omega arith

-- layers behind others
pub budget_joined :
    (first second : List Layer) (nib : Nib) (box : Rect) (s : Surface)
    → layers_budget (first ++ second) nib box s ≡ layers_budget first nib box s + layers_budget second nib box s
budget_joined [] second nib box s = outside_none (layers_budget second nib box s)
budget_joined (layer ∷ first) second nib box s = let rest = budget_joined first second nib box s in omega (arith, rest)

pub ruleset budgets = (budget_joined)

-- without entries there is no budget
no_entries : (drawings : List NumberedDrawing) (s : Surface) → budget_of drawings [] s ≡ 0
no_entries [] s = refl
no_entries (one ∷ later) s = refl

-- the budget of the drawing of a step, if there is one, and of the later ones
pub budget_then : (number : ℕ) (drawing : Option Drawing) (later : List NumberedDrawing) (entries : List Entry) (s : Surface) →
    budget_of (drawing_then number drawing later) entries s ≡ drawing_budget drawing entries s + budget_of later (entries_after drawing entries) s
budget_then number None later entries s = outside_none (budget_of later entries s)
budget_then number (Some drawing) later [] s = rw (no_entries later s) refl
budget_then number (Some drawing) later (entry ∷ entries) s = refl

pub ruleset drawn = (budget_then)

-- a box that holds the least one, and a nib no smaller, have no fewer pixels
module _ (laws : CellLaws) (wide_laws : WideCellLaws) (s : Surface) (frame : ShowsFrame s) (box least : Rect) (nib other : Nib) (covers : CoversNib nib other) where
  plain_grow : (points : List Point) → IsBoundingBox least points → All (HasPoint box) points → box_cells least s ≤ box_cells box s
  plain_grow [] is all = rw is (omega arith)
  plain_grow (point ∷ points) is all =
      let c = corners box least (point ∷ points) is all in
      mul-le-mul (laws.widens box.l least.l box.r least.r s.width s.frame_width frame.wide c.left c.right) (laws.widens box.t least.t box.b least.b s.height s.frame_height frame.high c.top c.bottom)

  wide_grow : (points : List Point) → IsBoundingBox least points → All (HasPoint box) points → wide_box_cells other least s ≤ wide_box_cells nib box s
  wide_grow [] is all = rw is (omega arith)
  wide_grow (point ∷ points) is all =
      let c = corners box least (point ∷ points) is all in
      mul-le-mul (wide_laws.widens box.l least.l box.r least.r s.width s.frame_width other.x nib.x frame.wide c.left c.right covers.x) (wide_laws.widens box.t least.t box.b least.b s.height s.frame_height other.y nib.y frame.high c.top c.bottom covers.y)

  shape_grow : (shape : Shape) (points : List Point) → IsBoundingBox least points → All (HasPoint box) points → shape_cells shape other least s ≤ shape_cells shape nib box s
  shape_grow (pixel_under point) points is all = plain_grow points is all
  shape_grow (inside_figures mode figures) points is all = plain_grow points is all
  shape_grow (inside_rectangle p q edges) points is all = plain_grow points is all
  shape_grow (stroke_of width map outline) points is all = wide_grow points is all

  pub layers_grow : (layers : List Layer) (points : List Point) → IsBoundingBox least points → All (HasPoint box) points → layers_budget layers other least s ≤ layers_budget layers nib box s
  layers_grow [] points is all = omega arith
  layers_grow (layer ∷ layers) points is all =
      let first = shape_grow layer.shape points is all in let rest = layers_grow layers points is all in omega (arith, first, rest)
