-- Columns and rows of surfaces, and the boxes of drawings there.
use Rattle.std.specs.Prelude.{◌≡◌, ℕ, ◌+◌, ◌≤◌, ◌≤ℤ◌, Bool, true, List, IsTrue}
use Rattle.std.specs.List.{list_all}
use Rattle.mapping.specs.Boxes.{IsBoundingBox}
use Rattle.mapping.specs.Nibs.{IsNib}
use Rattle.mapping.specs.PlaceOf.{surface_of}
use Rattle.mapping.specs.Surface.{Surface, lands_within_limits}
use Rattle.mapping.specs.declared.geometry.Point.{Point}
use Rattle.mapping.specs.declared.geometry.Rect.{Rect}
use Rattle.mapping.specs.declared.nib.Nib.{Nib}
use Rattle.canvas.specs.CanvasState.{CanvasState, HasPixel}
use Rattle.mapping.specs.PixelBoxes.{in_box}
use Rattle.dc_stack.specs.Clip.{ClipValue, in_kept}
use Rattle.preflight_cert.specs.DrawingBoxLaws.{Reaches}
use Rattle.span_fill.specs.Spans.{in_region}
use Rattle.span_fill.specs.declared.span.Region.{Region}
use Rattle.span_fill.specs.declared.span.Span.{Span}
use Rattle.painting.specs.declared.regions.Bounds.{Bounds}
use Rattle.painting.specs.declared.regions.Bounds.TheVariants.{Placed, Plane}

-- the ends of a span are in order, and at most 8,192, the greatest width or height of a surface
pub record IsOfSide (span : Span) : Type 0 where
  pub order : span.from ≤ span.to
  pub from : span.from ≤ 8192
  pub to : span.to ≤ 8192

-- a canvas contains a region
pub record HasRegion (canvas : CanvasState) (region : Region) : Type 0 where
  pub right : region.columns.to ≤ canvas.width
  pub top : canvas.first ≤ region.rows.from
  pub bottom : region.rows.to ≤ canvas.first + canvas.rows

-- A region lies in the canvas and within the kept box of a clip, and it contains all pixels of a shape that lie in
-- both.
pub record HasVisible (clip : ClipValue) (shape : ℕ → ℕ → Bool) (canvas : CanvasState) (region : Region) : Type 0 where
  pub held : HasRegion canvas region
  pub kept : (x y : ℕ) → HasPixel canvas x y → in_region region x y ≡ true → in_kept clip.kept x y ≡ true
  pub all : (x y : ℕ) → HasPixel canvas x y → in_kept clip.kept x y ≡ true → shape x y ≡ true → in_region region x y ≡ true

-- A box of the surface contains each pixel that a nib reaches from the bounding box of some points on the plane, if all
-- of the points land within the limits. It contains no other pixel, if there is a point.
pub record HasLanded (nib : Nib) (s : Surface) (bounds box : Rect) : Type 0 where
  pub all :
      (points : List Point) → IsBoundingBox bounds points → IsTrue (list_all (λ point. lands_within_limits point s) points)
      → (x y : ℕ) → Reaches nib bounds s x y → in_box box x y ≡ true
  pub no_other :
      bounds.l ≤ℤ bounds.r → bounds.t ≤ℤ bounds.b
      → (x y : ℕ) → in_box box x y ≡ true → Reaches nib bounds s x y

-- a box of the surface contains each pixel of a shape
abbrev pub HasShape : Rect → (ℕ → ℕ → Bool) → Type 0
HasShape box shape = (x y : ℕ) → shape x y ≡ true → in_box box x y ≡ true

-- bounds contain each pixel of a shape: their box does, or each box that a drawing with these bounds takes on the
-- surface
abbrev pub HoldShape : Bounds → (ℕ → ℕ → Bool) → Type 0
HoldShape (Placed box) shape = HasShape box shape
HoldShape (Plane place bounds nib) shape = (box : Rect) → HasLanded nib (surface_of place) bounds box → HasShape box shape

-- the nib of the bounds, if they have one, is within the limits of nibs
abbrev pub HasNarrowNib : Bounds → Type 0
HasNarrowNib (Placed box) = Unit
HasNarrowNib (Plane place bounds nib) = IsNib nib
