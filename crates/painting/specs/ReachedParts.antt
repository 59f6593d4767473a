-- Parts of a region.
use Rattle.std.specs.Prelude.{◌≡◌, ℕ, ◌≤◌, Bool, true}
use Rattle.span_fill.specs.Spans.{in_region}
use Rattle.span_fill.specs.declared.span.Region.{Region}
use Rattle.painting.specs.Regions.{IsOfSide}

-- all that a region has of a shape lies in a part of it
abbrev pub HasAllOf : Region → (ℕ → ℕ → Bool) → Region → Type 0
HasAllOf region shape part = (x y : ℕ) → in_region region x y ≡ true → shape x y ≡ true → in_region part x y ≡ true

-- no edge of a box, which may have none of its pixels, lies outside a region
pub record IsWithin (region part : Region) : Type 0 where
  pub left : region.columns.from ≤ part.columns.from
  pub left_end : part.columns.from ≤ region.columns.to
  pub right : part.columns.to ≤ region.columns.to
  pub top : region.rows.from ≤ part.rows.from
  pub top_end : part.rows.from ≤ region.rows.to
  pub bottom : part.rows.to ≤ region.rows.to

-- a region is a part of another, with its ends in order
pub record IsPartOf (region part : Region) : Type 0 where
  pub columns : IsOfSide part.columns
  pub rows : IsOfSide part.rows
  pub right : part.columns.to ≤ region.columns.to
  pub top : region.rows.from ≤ part.rows.from
  pub bottom : part.rows.to ≤ region.rows.to
  pub all : (x y : ℕ) → in_region part x y ≡ true → in_region region x y ≡ true
