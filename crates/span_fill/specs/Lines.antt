-- The lines of an outline.
use Rattle.std.specs.Prelude.{◌≡◌, suc, ℤ, pos, neg_ℤ, ◌≤ℤ◌, List, [], ◌∷◌, Option, Some, None}
use Rattle.mapping.specs.Limits.{place_limit}
use Rattle.mapping.specs.declared.geometry.Point.{Point}
use Rattle.span_fill.specs.declared.line.Line.{Line}

-- a coordinate is within the limit of placed ones, or one beyond it, as the raised edges of a rectangle are
pub record IsNear (v : ℤ) : Type 0 where
  pub low : neg_ℤ (pos place_limit) ≤ℤ v
  pub high : v ≤ℤ pos (suc place_limit)

-- both coordinates of a point are within the limits of lines
pub record IsNearPoint (point : Point) : Type 0 where
  pub x : IsNear point.x
  pub y : IsNear point.y

-- both ends of a line are within the limits of lines
pub record HasNearEnds (line : Line) : Type 0 where
  pub from : IsNearPoint line.from
  pub to : IsNearPoint line.to

-- the first of some values is returned, if there is one, and the others remain
abbrev pub GivesFirst : {X : Type 0} → List X → Option X → List X → Type 0
GivesFirst old None new = (old ≡ []) × (new ≡ [])
GivesFirst old (Some x) new = old ≡ x ∷ new
