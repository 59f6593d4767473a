-- Lines by their major axis.
use Rattle.std.specs.Prelude.{◌≡◌, ◌↔◌, ℕ, ◌≤◌, ℤ, ◌-ℤ◌, Bool, true, false, if◌then◌else◌, IsTrue}
use Rattle.span_fill.specs.Axis.{IsPlace}
use Rattle.span_fill.specs.Clips.{IsIn, SpanHas}
use Rattle.span_fill.specs.Strokes.{far, is_along, is_towards}
use Rattle.span_fill.specs.Walks.{IsAt}
use Rattle.span_fill.specs.declared.major_line.MajorLine.{MajorLine}
use Rattle.span_fill.specs.declared.line.Line.{Line}
use Rattle.span_fill.specs.declared.span.Region.{Region}
use Rattle.span_fill.specs.declared.span.Span.{Span}
use Rattle.span_fill.specs.declared.walk.Walk.{Walk}

-- the number of steps
abbrev pub length_of : MajorLine → ℕ
length_of major = far major.from_u major.to_u

-- the progress along the minor axis
abbrev pub rise_of : MajorLine → ℤ
rise_of major = major.to_v -ℤ major.from_v

-- the ends are within the limits of lines, and the major axis is at least as long as the minor one
pub record IsMajorLine (major : MajorLine) : Type 0 where
  pub from_u : IsPlace major.from_u
  pub from_v : IsPlace major.from_v
  pub to_u : IsPlace major.to_u
  pub to_v : IsPlace major.to_v
  pub longer : far major.from_v major.to_v ≤ length_of major

-- the walk is on the line after this many steps
abbrev pub IsOn : MajorLine → ℕ → Walk → Type 0
IsOn major step walk = IsAt major.from_u major.from_v major.to_u major.to_v step walk

-- the line has the pixel with these coordinates on the major and minor axis
abbrev pub IsPixelOf : MajorLine → ℤ → ℤ → Type 0
IsPixelOf major u v = IsTrue (is_along major.from_u major.from_v major.to_u major.to_v u v)

-- the line has pixels with this coordinate on the major axis
abbrev pub has_along : MajorLine → ℤ → Bool
has_along major u = is_towards major.from_u major.to_u u

-- its ends have the same coordinate on the minor axis
abbrev pub IsHorizontal : MajorLine → Type 0
IsHorizontal major = major.from_v ≡ major.to_v

-- the step at which the line has this coordinate on the major axis
abbrev pub major_step : MajorLine → ℤ → ℕ
major_step major u = far major.from_u u

-- the steps are those at which a pixel's coordinates lie in a span of the major axis and in one of the minor axis
abbrev pub AreStepsWithin : MajorLine → Span → Span → Span → Type 0
AreStepsWithin major u v steps =
    (a b : ℤ) → IsPixelOf major a b → (IsIn steps (major_step major a) ↔ (SpanHas u a × SpanHas v b))

-- the line by its major axis
abbrev pub major_of : Bool → Line → MajorLine
major_of true line = record { from_u = line.from.y; from_v = line.from.x; to_u = line.to.y; to_v = line.to.x }
major_of false line = record { from_u = line.from.x; from_v = line.from.y; to_u = line.to.x; to_v = line.to.y }

-- the column of a pixel with these coordinates
abbrev pub pixel_column : Bool → ℤ → ℤ → ℤ
pixel_column y_major u v = if y_major then v else u

-- the row of a pixel with these coordinates
abbrev pub pixel_row : Bool → ℤ → ℤ → ℤ
pixel_row y_major u v = if y_major then u else v

-- the part of the major axis in a region
abbrev pub along_span : Bool → Region → Span
along_span y_major region = if y_major then region.rows else region.columns

-- the part of the minor axis in a region
abbrev pub across_span : Bool → Region → Span
across_span y_major region = if y_major then region.columns else region.rows
