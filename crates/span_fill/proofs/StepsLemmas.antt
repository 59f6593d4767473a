-- Steps that are underway: the pixel here, and the step behind it.
use Rattle.std.proofs.Common.{◌≡◌, ℕ, suc, ◌+◌, ◌^◌, ◌<◌, ◌≤◌, Bool, ℤ, pos, true, false, arith, ap, sym, subst, ◌∙◌, refl}
use Rattle.std.specs.Prelude.{IsTrue, nat_le, nat_lt, ◌↔◌}
use Rattle.std.proofs.lemmas.Bool.{and_parts, and_from, le-leb, leb-true, lt-ltb, ltb-true}
use Rattle.std.proofs.lemmas.Int.{ints}
use Rattle.span_fill.specs.Clips.{SpanHas}
use Rattle.span_fill.specs.FixedWalks.{CanWalk, IsOnSurface}
use Rattle.span_fill.specs.MajorLines.{IsOn, IsPixelOf, across_span, along_span, pixel_column, major_of, length_of, pixel_row, major_step}
use Rattle.span_fill.specs.Spans.{in_region, in_span}
use Rattle.span_fill.specs.Steps.{HasAllSteps, IsStepPixel}
use Rattle.span_fill.specs.StepsInside.{IsUnderway}
use Rattle.span_fill.specs.Strokes.{far, is_along, is_y_major, on_line, step_at}
use Rattle.span_fill.specs.Walks.{IsMoved}
use Rattle.span_fill.specs.declared.grid.Grid.{Grid}
use Rattle.span_fill.specs.declared.line.Line.{Line}
use Rattle.span_fill.specs.declared.pixel.Pixel.{Pixel}
use Rattle.span_fill.specs.declared.span.Region.{Region}
use Rattle.span_fill.specs.declared.span.Span.{Span}
use Rattle.span_fill.specs.declared.walk.Walk.{Walk}
use Rattle.span_fill.proofs.LineLaw.{at_x_major, at_y_major, on_x_major, on_y_major}
use Rattle.span_fill.proofs.WalkLemmas.{moved_at, walk_along, walk_step}

-- where a walk that is underway stands
pub record IsHere (line : Line) (region : Region) (y_major : Bool) (next : ℕ) (walk : Walk) : Type 0 where
  pub on : IsPixelOf (major_of y_major line) walk.u walk.v
  pub at : major_step (major_of y_major line) walk.u ≡ next
  pub along : SpanHas (along_span y_major region) walk.u
  pub across : SpanHas (across_span y_major region) walk.v

pub here : (line : Line) (region : Region) (y_major : Bool) (next end : ℕ) (walk : Walk) → IsUnderway line region y_major next end walk → next < end → IsHere line region y_major next walk
here line region y_major next end walk way more =
    let major = major_of y_major line in
    let stands = way.stands more in
    let on = walk_along major.from_u major.from_v major.to_u major.to_v next walk stands (omega (arith, way.ends, more)) in
    let at = walk_step major.from_u major.from_v major.to_u major.to_v next walk stands (omega (arith, way.ends, more)) in
    record {
      on = on;
      at = at;
      along = way.along walk.u walk.v on (omega (arith, at)) (omega (arith, at, more));
      across = way.across walk.u walk.v on (omega (arith, at)) (omega (arith, at, more));
    }

-- a region's spans end within 8,192
along_within : (y_major : Bool) (region : Region) → region.columns.to ≤ 8192 → region.rows.to ≤ 8192 → (along_span y_major region).to ≤ 8192
along_within true region h k = k
along_within false region h k = h

across_within : (y_major : Bool) (region : Region) → region.columns.to ≤ 8192 → region.rows.to ≤ 8192 → (across_span y_major region).to ≤ 8192
across_within true region h k = h
across_within false region h k = k

-- the coordinates here are those of a row and of a column
pub here_within : (line : Line) (region : Region) (y_major : Bool) (next end : ℕ) (walk : Walk) → IsUnderway line region y_major next end walk → next < end → IsOnSurface walk
here_within line region y_major next end walk way more =
    let stands = here line region y_major next end walk way more in
    let u = stands.along in
    let v = stands.across in
    let along = along_within y_major region way.columns way.rows in
    let across = across_within y_major region way.columns way.rows in
    record {
      u_low = omega (arith, ints, u.0);
      u_high = omega (arith, ints, u.1, along);
      v_low = omega (arith, ints, v.0);
      v_high = omega (arith, ints, v.1, across);
    }

-- a position here can go on in fixed point
pub here_can_walk : (line : Line) (region : Region) (y_major : Bool) (next end : ℕ) (walk : Walk) → IsUnderway line region y_major next end walk → next < end → CanWalk walk
here_can_walk line region y_major next end walk way more =
    let stands = way.stands more in
    record {
      on = here_within line region y_major next end walk way more;
      back_low = stands.back_low;
      back_high = stands.back_high;
      rest = stands.rest_below;
      more = stands.more_within;
      small = omega (arith, stands.full, way.short);
    }

-- the step behind
pub next_way : (line : Line) (region : Region) (y_major : Bool) (next end : ℕ) (old new : Walk) → IsUnderway line region y_major next end old → next < end → IsMoved old new → IsUnderway line region y_major (next + 1) end new
next_way line region y_major next end old new way more moved =
    let major = major_of y_major line in
    let one : suc next ≡ next + 1 = omega arith in
    record {
      axis = way.axis;
      short = way.short;
      ends = way.ends;
      columns = way.columns;
      rows = way.rows;
      stands = λ h. subst (λ (n : ℕ). IsOn major n new) one (moved_at major.from_u major.from_v major.to_u major.to_v next old new (way.stands more) moved);
      along = λ u v on h k. way.along u v on (omega (arith, h)) k;
      across = λ u v on h k. way.across u v on (omega (arith, h)) k;
    }

-- a pixel of a line on its axes, and by its columns and rows
pub line_pixel : (line : Line) (y_major : Bool) (u v x y : ℤ) → y_major ≡ is_y_major line → x ≡ pixel_column y_major u v → y ≡ pixel_row y_major u v → IsPixelOf (major_of y_major line) u v → IsTrue (on_line line x y)
line_pixel line true u v x y axis e f on = on_y_major line x y (sym axis) ∙ ap (λ n. is_along line.from.y line.from.x line.to.y line.to.x n x) f ∙ ap (λ n. is_along line.from.y line.from.x line.to.y line.to.x u n) e ∙ on
line_pixel line false u v x y axis e f on = on_x_major line x y (sym axis) ∙ ap (λ n. is_along line.from.x line.from.y line.to.x line.to.y n y) e ∙ ap (λ n. is_along line.from.x line.from.y line.to.x line.to.y u n) f ∙ on

pub pixel_line : (line : Line) (y_major : Bool) (u v x y : ℤ) → y_major ≡ is_y_major line → x ≡ pixel_column y_major u v → y ≡ pixel_row y_major u v → IsTrue (on_line line x y) → IsPixelOf (major_of y_major line) u v
pixel_line line true u v x y axis e f on = sym (ap (λ n. is_along line.from.y line.from.x line.to.y line.to.x n x) f ∙ ap (λ n. is_along line.from.y line.from.x line.to.y line.to.x u n) e) ∙ sym (on_y_major line x y (sym axis)) ∙ on
pixel_line line false u v x y axis e f on = sym (ap (λ n. is_along line.from.x line.from.y line.to.x line.to.y n y) e ∙ ap (λ n. is_along line.from.x line.from.y line.to.x line.to.y u n) f) ∙ sym (on_x_major line x y (sym axis)) ∙ on

pub line_step : (line : Line) (y_major : Bool) (u v x y : ℤ) → y_major ≡ is_y_major line → x ≡ pixel_column y_major u v → y ≡ pixel_row y_major u v → step_at line x y ≡ major_step (major_of y_major line) u
line_step line true u v x y axis e f = at_y_major line x y (sym axis) ∙ ap (λ n. far line.from.y n) f
line_step line false u v x y axis e f = at_x_major line x y (sym axis) ∙ ap (λ n. far line.from.x n) e

-- the same of a region
span_test : (span : Span) (n : ℕ) → SpanHas span (pos n) → in_span span n ≡ true
span_test span n h = and_from (nat_le span.from n) (nat_lt n span.to) (le-leb span.from n (omega (arith, ints, h.0))) (lt-ltb n span.to (omega (arith, ints, h.1)))

test_span : (span : Span) (n : ℕ) → in_span span n ≡ true → SpanHas span (pos n)
test_span span n t =
    let parts = and_parts (nat_le span.from n) (nat_lt n span.to) t in
    let low = leb-true span.from n parts.0 in
    let high = ltb-true n span.to parts.1 in
    (omega (arith, ints, low), omega (arith, ints, high))

pub region_pixel : (region : Region) (y_major : Bool) (u v : ℤ) (x y : ℕ) → pos x ≡ pixel_column y_major u v → pos y ≡ pixel_row y_major u v → SpanHas (along_span y_major region) u → SpanHas (across_span y_major region) v → IsTrue (in_region region x y)
region_pixel region true u v x y e f along across =
    and_from (in_span region.columns x) (in_span region.rows y)
    (span_test region.columns x (subst (λ (n : ℤ). SpanHas region.columns n) (sym e) across))
    (span_test region.rows y (subst (λ (n : ℤ). SpanHas region.rows n) (sym f) along))
region_pixel region false u v x y e f along across =
    and_from (in_span region.columns x) (in_span region.rows y)
    (span_test region.columns x (subst (λ (n : ℤ). SpanHas region.columns n) (sym e) along))
    (span_test region.rows y (subst (λ (n : ℤ). SpanHas region.rows n) (sym f) across))

pub pixel_region : (region : Region) (y_major : Bool) (u v : ℤ) (x y : ℕ) → pos x ≡ pixel_column y_major u v → pos y ≡ pixel_row y_major u v → IsTrue (in_region region x y) → SpanHas (along_span y_major region) u × SpanHas (across_span y_major region) v
pixel_region region true u v x y e f t =
    let parts = and_parts (in_span region.columns x) (in_span region.rows y) t in
    (subst (λ (n : ℤ). SpanHas region.rows n) f (test_span region.rows y parts.1), subst (λ (n : ℤ). SpanHas region.columns n) e (test_span region.columns x parts.0))
pixel_region region false u v x y e f t =
    let parts = and_parts (in_span region.columns x) (in_span region.rows y) t in
    (subst (λ (n : ℤ). SpanHas region.columns n) e (test_span region.columns x parts.0), subst (λ (n : ℤ). SpanHas region.rows n) f (test_span region.rows y parts.1))

-- the pixel here is the line's at the next step, and the region has it
pub here_pixel : (line : Line) (region : Region) (y_major : Bool) (next end : ℕ) (walk : Walk) (pixel : Pixel) → IsUnderway line region y_major next end walk → next < end → pos pixel.x ≡ pixel_column y_major walk.u walk.v → pos pixel.y ≡ pixel_row y_major walk.u walk.v → IsStepPixel line region next pixel
here_pixel line region y_major next end walk pixel way more e f =
    let stands = here line region y_major next end walk way more in
    record {
      on = line_pixel line y_major walk.u walk.v (pos pixel.x) (pos pixel.y) way.axis e f stands.on;
      at = line_step line y_major walk.u walk.v (pos pixel.x) (pos pixel.y) way.axis e f ∙ stands.at;
      inside = region_pixel region y_major walk.u walk.v pixel.x pixel.y e f stands.along stands.across;
    }

-- the steps that were clipped are all
abbrev IsClip : Line → Region → Bool → ℕ → ℕ → Type 0
IsClip line region y_major next end =
    (a b : ℤ) → IsPixelOf (major_of y_major line) a b → ((next ≤ major_step (major_of y_major line) a) × (major_step (major_of y_major line) a < end)) ↔ (SpanHas (along_span y_major region) a × SpanHas (across_span y_major region) b)

pub all_steps : (line : Line) (region : Region) (grid : Grid) (y_major : Bool) (next end : ℕ) → y_major ≡ is_y_major line → IsClip line region y_major next end → HasAllSteps (record { line = line; region = region; grid = grid; next = next; end = end })
all_steps line region grid true next end axis clip = record {
  from = λ x y on inside.
      let within = pixel_region region true (pos y) (pos x) x y refl refl inside in
      let there = (clip (pos y) (pos x) (pixel_line line true (pos y) (pos x) (pos x) (pos y) axis refl refl on)).1 within in
      omega (arith, there.0, line_step line true (pos y) (pos x) (pos x) (pos y) axis refl refl);
  to = λ x y on inside.
      let within = pixel_region region true (pos y) (pos x) x y refl refl inside in
      let there = (clip (pos y) (pos x) (pixel_line line true (pos y) (pos x) (pos x) (pos y) axis refl refl on)).1 within in
      omega (arith, there.1, line_step line true (pos y) (pos x) (pos x) (pos y) axis refl refl);
}
all_steps line region grid false next end axis clip = record {
  from = λ x y on inside.
      let within = pixel_region region false (pos x) (pos y) x y refl refl inside in
      let there = (clip (pos x) (pos y) (pixel_line line false (pos x) (pos y) (pos x) (pos y) axis refl refl on)).1 within in
      omega (arith, there.0, line_step line false (pos x) (pos y) (pos x) (pos y) axis refl refl);
  to = λ x y on inside.
      let within = pixel_region region false (pos x) (pos y) x y refl refl inside in
      let there = (clip (pos x) (pos y) (pixel_line line false (pos x) (pos y) (pos x) (pos y) axis refl refl on)).1 within in
      omega (arith, there.1, line_step line false (pos x) (pos y) (pos x) (pos y) axis refl refl);
}

pub begun : (line : Line) (region : Region) (y_major : Bool) (next end : ℕ) (walk : Walk) → y_major ≡ is_y_major line → length_of (major_of y_major line) ≤ 2 ^ 29 + 2 → end ≤ length_of (major_of y_major line) → region.columns.to ≤ 8192 → region.rows.to ≤ 8192 → IsClip line region y_major next end → (next < end → IsOn (major_of y_major line) next walk) → IsUnderway line region y_major next end walk
begun line region y_major next end walk axis short ends columns rows clip stands = record {
  axis = axis;
  short = short;
  ends = ends;
  columns = columns;
  rows = rows;
  stands = stands;
  along = λ u v on h k. ((clip u v on).0 (h, k)).0;
  across = λ u v on h k. ((clip u v on).0 (h, k)).1;
}
