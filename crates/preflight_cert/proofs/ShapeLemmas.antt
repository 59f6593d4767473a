-- A shape has pixels only where a box that has its points lands.
use Rattle.std.proofs.Common.{◌≡◌, ℕ, ℤ, pos, negsuc, ◌+ℤ◌, ◌-ℤ◌, ◌≤ℤ◌, ◌<ℤ◌, Bool, true, false, cond, int_le, int_lt, List, [], ◌∷◌, refl, ap, sym, ◌∙◌, arith}
use Rattle.std.specs.Int.{int_max, int_min}
use Rattle.std.specs.List.{All}
use Rattle.std.proofs.lemmas.Bool.{and_parts, true≢false, eqb-true}
use Rattle.std.proofs.lemmas.Int.{ints, int_max_is, int_min_is}
use Rattle.std.proofs.lemmas.List.Elements.{All-cons, All-head, All-nil, All-tail, All-weaker}
use Rattle.mapping.specs.Boxes.{HasPoint, box_between}
use Rattle.mapping.specs.Nibs.{nib_of}
use Rattle.mapping.specs.PlacingLaws.{PlacingLaws, ShowsFrame}
use Rattle.mapping.specs.Surface.{Surface, is_index, is_pixel, placed, placed_point}
use Rattle.mapping.specs.declared.geometry.Point.{Point}
use Rattle.mapping.specs.declared.geometry.Rect.{Rect}
use Rattle.mapping.specs.declared.nib.Nib.{Nib}
use Rattle.draw_ops.specs.declared.operation.RectangleEdges.{RectangleEdges}
use Rattle.draw_ops.specs.declared.operation.RectangleEdges.TheVariants.{HalfOpen, Inclusive}
use Rattle.span_fill.specs.Fill.{in_fill}
use Rattle.span_fill.specs.WideStrokes.{WideStrokeLaws, in_wide_stroke, one_pixel, widened}
use Rattle.span_fill.specs.declared.fill_rule.FillRule.{FillRule}
use Rattle.span_fill.specs.declared.fill_rule.FillRule.TheVariants.{EvenOdd, NonZero}
use Rattle.span_fill.specs.declared.line.Line.{Line}
use Rattle.dc_stack.specs.Clip.{placed_box}
use Rattle.preflight_cert.specs.DrawingBoxLaws.{IsClosedShape, Reaches, shape_points}
use Rattle.preflight_cert.specs.FigureLines.{lines_along, placed_figures}
use Rattle.span_fill.specs.LineBoxes.{HasLine, IsBalanced, LineBoxLaws}
use Rattle.preflight_cert.specs.Outlines.{closed_lines}
use Rattle.mapping.specs.PixelBoxes.{BoxHasPixel, in_box, is_from_to}
use Rattle.mapping.specs.TestLaws.{int_le-true, int_lt-true}
use Rattle.preflight_cert.specs.Rectangles.{corner_pixels, has_inside, raised, rectangle_on}
use Rattle.preflight_cert.specs.Shape.{Shape, fill_rule_of, in_shape, inside_figures, inside_rectangle, pixel_under, shape_nib, stroke_of}
use Rattle.preflight_cert.specs.StrokedOutline.{Outline, along, outline_lines, outline_points, round}
use Rattle.preflight_cert.proofs.OutlineLemmas.{BothEnds, ends_along, ends_closed, figures_balanced}

-- a placed point of a box: the box has something, and where it lands it has the point
record IsIn (box : Rect) (s : Surface) (point : Point) : Type 0 where
  wide : box.l ≤ℤ box.r
  high : box.t ≤ℤ box.b
  there : HasPoint (placed_box s box) point

-- points of a box of the plane, where they land
module _ (placing : PlacingLaws) (s : Surface) (shows : ShowsFrame s) (box : Rect) where
  across : (v w : ℤ) → v ≤ℤ w → placed v s.width s.frame_width ≤ℤ placed w s.width s.frame_width
  across v w h = placing.keeps_order s.width s.frame_width v w shows.wide h

  upright : (v w : ℤ) → v ≤ℤ w → placed v s.height s.frame_height ≤ℤ placed w s.height s.frame_height
  upright v w h = placing.keeps_order s.height s.frame_height v w shows.high h

  point_lands : (p : Point) → HasPoint box p → IsIn box s (placed_point p s)
  point_lands p h =
      let a = h.left in let b = h.right in let c = h.top in let d = h.bottom in
      record {
        wide = omega (arith, ints, a, b);
        high = omega (arith, ints, c, d);
        there = record { left = across box.l p.x a; top = upright box.t p.y c; right = across p.x box.r b; bottom = upright p.y box.b d };
      }

-- what holds of four points holds of all four
all_four : (P : Point → Type 0) (a b c d : Point) → P a → P b → P c → P d → All P (a ∷ b ∷ c ∷ d ∷ [])
all_four P a b c d h i j k =
    All-cons P a (b ∷ c ∷ d ∷ []) h (All-cons P b (c ∷ d ∷ []) i (All-cons P c (d ∷ []) j (All-cons P d [] k (All-nil P))))

-- lines whose ends are so
abbrev AreIn : Rect → Surface → Line → Type 0
AreIn box s line = BothEnds (IsIn box s) line

has_line : (box : Rect) (s : Surface) (line : Line) → AreIn box s line → HasLine (placed_box s box) line
has_line box s line h = record { from = h.from.there; to = h.to.there }

-- one pixel widens a box by nothing
unwidened : (box : Rect) (x y : ℕ) → BoxHasPixel box x y → BoxHasPixel (widened one_pixel box) x y
unwidened box x y h =
    let l = h.left in let t = h.top in let r = h.right in let b = h.bottom in
    record { left = omega (arith, ints, l); top = omega (arith, ints, t); right = omega (arith, ints, r); bottom = omega (arith, ints, b) }

-- pixels of points and of rectangles
module _ (box : Rect) (s : Surface) where
  -- a pixel on which a point lands
  index_is : (v : ℤ) (n : ℕ) → is_index v n ≡ true → v ≡ pos n
  index_is (pos m) n t = ap pos (eqb-true m n t)
  index_is (negsuc m) n t = absurd (true≢false (sym t))

  dot_reaches : (p : Point) (x y : ℕ) → IsIn box s p → is_pixel p x y ≡ true → Reaches one_pixel box s x y
  dot_reaches p x y h t =
      let parts = and_parts (is_index p.x x) (is_index p.y y) t in
      let column = index_is p.x x parts.0 in
      let row = index_is p.y y parts.1 in
      let there = h.there in
      record {
        wide = h.wide;
        high = h.high;
        pixel = unwidened (placed_box s box) x y (record { left = rw column at there.left; top = rw row at there.top; right = rw column at there.right; bottom = rw row at there.bottom });
      }

  -- the edges of a rectangle between two points
  low_edge : (low u v : ℤ) → low ≤ℤ u → low ≤ℤ v → low ≤ℤ int_min u v
  low_edge low u v a b = omega (arith, ints, a, b, int_min_is u v)

  high_edge : (high u v : ℤ) → u ≤ℤ high → v ≤ℤ high → int_max u v ≤ℤ high
  high_edge high u v a b = omega (arith, ints, a, b, int_max_is u v)

  -- a rectangle whose last pixels lie in the box
  record IsRectangleIn (rectangle : Rect) : Type 0 where
    left : (placed_box s box).l ≤ℤ rectangle.l
    top : (placed_box s box).t ≤ℤ rectangle.t
    right : rectangle.r ≤ℤ ((placed_box s box).r +ℤ pos 1)
    bottom : rectangle.b ≤ℤ ((placed_box s box).b +ℤ pos 1)

  by_edges : (p q : Point) (edges : RectangleEdges) →
      (placed_box s box).l ≤ℤ int_min p.x q.x → (placed_box s box).t ≤ℤ int_min p.y q.y →
      int_max p.x q.x ≤ℤ (placed_box s box).r → int_max p.y q.y ≤ℤ (placed_box s box).b → IsRectangleIn (raised edges (box_between p q))
  by_edges p q HalfOpen l t r b = record { left = l; top = t; right = omega (arith, ints, r); bottom = omega (arith, ints, b) }
  by_edges p q Inclusive l t r b = record { left = l; top = t; right = omega (arith, ints, r); bottom = omega (arith, ints, b) }

  between_in : (p q : Point) (edges : RectangleEdges) → IsIn box s p → IsIn box s q → IsRectangleIn (raised edges (box_between p q))
  between_in p q edges h k =
      let l = low_edge (placed_box s box).l p.x q.x h.there.left k.there.left in
      let t = low_edge (placed_box s box).t p.y q.y h.there.top k.there.top in
      let r = high_edge (placed_box s box).r p.x q.x h.there.right k.there.right in
      let b = high_edge (placed_box s box).b p.y q.y h.there.bottom k.there.bottom in
      by_edges p q edges l t r b

  inside_reaches : (rectangle : Rect) (x y : ℕ) → box.l ≤ℤ box.r → box.t ≤ℤ box.b → IsRectangleIn rectangle → in_box rectangle x y ≡ true → Reaches one_pixel box s x y
  inside_reaches rectangle x y wide high h t =
      let parts = and_parts (is_from_to rectangle.l rectangle.r x) (is_from_to rectangle.t rectangle.b y) t in
      let columns = and_parts (int_le rectangle.l (pos x)) (int_lt (pos x) rectangle.r) parts.0 in
      let rows = and_parts (int_le rectangle.t (pos y)) (int_lt (pos y) rectangle.b) parts.1 in
      let a = int_le-true rectangle.l (pos x) columns.0 in
      let b = int_lt-true (pos x) rectangle.r columns.1 in
      let c = int_le-true rectangle.t (pos y) rows.0 in
      let d = int_lt-true (pos y) rectangle.b rows.1 in
      let l = h.left in let u = h.top in let r = h.right in let v = h.bottom in
      record {
        wide = wide;
        high = high;
        pixel = unwidened (placed_box s box) x y (record { left = omega (arith, ints, a, l); top = omega (arith, ints, c, u); right = omega (arith, ints, b, r); bottom = omega (arith, ints, d, v) });
      }

  corner_in : (x y : ℤ) → box.l ≤ℤ box.r → box.t ≤ℤ box.b →
      (placed_box s box).l ≤ℤ x → (placed_box s box).t ≤ℤ y → x ≤ℤ (placed_box s box).r → y ≤ℤ (placed_box s box).b → IsIn box s (record { x = x; y = y })
  corner_in x y wide high a b c d = record { wide = wide; high = high; there = record { left = a; top = b; right = c; bottom = d } }

  corners_in : (rectangle : Rect) → box.l ≤ℤ box.r → box.t ≤ℤ box.b → IsRectangleIn rectangle → rectangle.l <ℤ rectangle.r → rectangle.t <ℤ rectangle.b → All (IsIn box s) (corner_pixels rectangle)
  corners_in rectangle wide high h a b =
      let l = h.left in let u = h.top in let r = h.right in let v = h.bottom in
      let l_most : rectangle.l ≤ℤ (placed_box s box).r = omega (arith, ints, a, r) in
      let r_least : (placed_box s box).l ≤ℤ (rectangle.r -ℤ pos 1) = omega (arith, ints, a, l) in
      let r_most : (rectangle.r -ℤ pos 1) ≤ℤ (placed_box s box).r = omega (arith, ints, r) in
      let t_most : rectangle.t ≤ℤ (placed_box s box).b = omega (arith, ints, b, v) in
      let b_least : (placed_box s box).t ≤ℤ (rectangle.b -ℤ pos 1) = omega (arith, ints, b, u) in
      let b_most : (rectangle.b -ℤ pos 1) ≤ℤ (placed_box s box).b = omega (arith, ints, v) in
      all_four (IsIn box s) _ _ _ _
      (corner_in rectangle.l rectangle.t wide high l u l_most t_most)
      (corner_in (rectangle.r -ℤ pos 1) rectangle.t wide high r_least u r_most t_most)
      (corner_in (rectangle.r -ℤ pos 1) (rectangle.b -ℤ pos 1) wide high r_least b_least r_most b_most)
      (corner_in rectangle.l (rectangle.b -ℤ pos 1) wide high l b_least l_most b_most)

  -- the ends of the lines round it
  round_in : (rectangle : Rect) (inside : Bool) → box.l ≤ℤ box.r → box.t ≤ℤ box.b → IsRectangleIn rectangle → has_inside rectangle ≡ inside →
      All (AreIn box s) (cond inside (closed_lines (corner_pixels rectangle)) [])
  round_in rectangle false wide high h e = All-nil (AreIn box s)
  round_in rectangle true wide high h e =
      let parts = and_parts (int_lt rectangle.l rectangle.r) (int_lt rectangle.t rectangle.b) e in
      let a = int_lt-true rectangle.l rectangle.r parts.0 in
      let b = int_lt-true rectangle.t rectangle.b parts.1 in
      ends_closed (IsIn box s) (corner_pixels rectangle) (corners_in rectangle wide high h a b)

-- nothing is inside of no lines
nothing_inside : (rule : FillRule) (x y : ℕ) → in_fill rule [] x y ≡ false
nothing_inside EvenOdd x y = refl
nothing_inside NonZero x y = refl

-- pixels of lines, and inside of them
module _ (boxes : LineBoxLaws) (strokes : WideStrokeLaws) (box : Rect) (s : Surface) where
  -- a pixel of lines whose ends are so
  reached : (nib : Nib) (line : Line) (lines : List Line) (x y : ℕ) → All (AreIn box s) (line ∷ lines) → BoxHasPixel (widened nib (placed_box s box)) x y → Reaches nib box s x y
  reached nib line lines x y all pixel =
      let h = All-head (AreIn box s) line lines all in record { wide = h.from.wide; high = h.from.high; pixel = pixel }

  stroke_reaches : (nib : Nib) (lines : List Line) (x y : ℕ) → All (AreIn box s) lines → in_wide_stroke nib lines x y ≡ true → Reaches nib box s x y
  stroke_reaches nib [] x y all t = absurd (true≢false (sym t))
  stroke_reaches nib (line ∷ lines) x y all t =
      reached nib line lines x y all
      (strokes.box nib (placed_box s box) (line ∷ lines) x y (All-weaker (AreIn box s) (HasLine (placed_box s box)) (has_line box s) (line ∷ lines) all) t)

  fill_reaches : (rule : FillRule) (lines : List Line) (x y : ℕ) → IsBalanced lines → All (AreIn box s) lines → in_fill rule lines x y ≡ true → Reaches one_pixel box s x y
  fill_reaches rule [] x y balanced all t = absurd (true≢false (sym t ∙ nothing_inside rule x y))
  fill_reaches rule (line ∷ lines) x y balanced all t =
      reached one_pixel line lines x y all
      (unwidened (placed_box s box) x y
      (boxes.fill rule (placed_box s box) (line ∷ lines) x y balanced (All-weaker (AreIn box s) (HasLine (placed_box s box)) (has_line box s) (line ∷ lines) all) t))

-- pixels of each shape
module _ (placing : PlacingLaws) (boxes : LineBoxLaws) (strokes : WideStrokeLaws) (box : Rect) (s : Surface) (shows : ShowsFrame s) where
  abbrev lands : (p : Point) → HasPoint box p → IsIn box s (placed_point p s)
  lands p h = point_lands placing s shows box p h

  abbrev between : (p q : Point) (edges : RectangleEdges) → All (HasPoint box) (p ∷ q ∷ []) → IsRectangleIn box s (rectangle_on s p q edges)
  between p q edges all =
      between_in box s (placed_point p s) (placed_point q s) edges
      (lands p (All-head (HasPoint box) p (q ∷ []) all)) (lands q (All-head (HasPoint box) q [] (All-tail (HasPoint box) p (q ∷ []) all)))

  -- the lines of an outline whose points the box has lie where it lands
  outline_in : (outline : Outline) → All (HasPoint box) (outline_points outline) → All (AreIn box s) (outline_lines outline s)
  outline_in (along figures) all = ends_along s (HasPoint box) (IsIn box s) lands figures all
  outline_in (round p q edges) all =
      let a = lands p (All-head (HasPoint box) p (q ∷ []) all) in
      round_in box s (rectangle_on s p q edges) (has_inside (rectangle_on s p q edges)) a.wide a.high (between p q edges all) refl

  pub shape_reaches : (shape : Shape) (x y : ℕ) → IsClosedShape shape → All (HasPoint box) (shape_points shape) → in_shape shape s x y ≡ true → Reaches (shape_nib shape s) box s x y
  shape_reaches (pixel_under p) x y closed all t = dot_reaches box s (placed_point p s) x y (lands p (All-head (HasPoint box) p [] all)) t
  shape_reaches (inside_figures mode figures) x y closed all t =
      fill_reaches boxes strokes box s (fill_rule_of mode) (lines_along (placed_figures s figures)) x y (figures_balanced s figures closed)
      (ends_along s (HasPoint box) (IsIn box s) lands figures all) t
  shape_reaches (inside_rectangle p q edges) x y closed all t =
      let a = lands p (All-head (HasPoint box) p (q ∷ []) all) in
      inside_reaches box s (rectangle_on s p q edges) x y a.wide a.high (between p q edges all) t
  shape_reaches (stroke_of width map outline) x y closed all t =
      stroke_reaches boxes strokes box s (nib_of width map s) (outline_lines outline s) x y (outline_in outline all) t
