-- The lines around a box.
use Rattle.std.proofs.Common.{◌≡◌, ℕ, ℤ, pos, ◌≤ℤ◌, ◌<ℤ◌, ◌-ℤ◌, true, false, int_lt, List, [], ◌∷◌, All, arith, refl, sym, ◌∙◌, ap}
use Rattle.std.proofs.lemmas.Bool.{and_from, and_parts}
use Rattle.std.proofs.lemmas.Int.{ints}
use Rattle.std.proofs.lemmas.List.Elements.{All-cons, All-nil, All-same}
use Rattle.mapping.specs.declared.geometry.Point.{Point}
use Rattle.mapping.specs.declared.geometry.Rect.{Rect}
use Rattle.mapping.specs.declared.nib.Nib.{Nib}
use Rattle.mapping.specs.Boxes.{HasPoint}
use Rattle.mapping.specs.PixelBoxes.{from_to_from, in_box, is_from_to}
use Rattle.mapping.specs.TestLaws.{int_lt-true}
use Rattle.span_fill.specs.LineBoxes.{HasLine}
use Rattle.span_fill.specs.Lines.{HasNearEnds, IsNear, IsNearPoint}
use Rattle.span_fill.specs.WideStrokes.{WideStrokeLaws, in_wide_stroke, widened}
use Rattle.span_fill.specs.declared.line.Line.{Line}
use Rattle.preflight_cert.specs.Outlines.{line_from}
use Rattle.preflight_cert.specs.Rectangles.{has_inside, rectangle_lines}
use Rattle.painting.specs.RectangleBoxes.{IsNearBox}

-- what holds for each of four lines holds for all of them
all_four : (P : Line → Type 0) (a b c d : Line) → P a → P b → P c → P d → All P (a ∷ b ∷ c ∷ d ∷ [])
all_four P a b c d p q r s = All-cons P a (b ∷ c ∷ d ∷ []) p (All-cons P b (c ∷ d ∷ []) q (All-cons P c (d ∷ []) r (All-cons P d [] s (All-nil P))))

line_is : (line : Line) (p q : Point) → line.from ≡ p → line.to ≡ q → line ≡ line_from p q
line_is line p q h k = ap (λ (r : Point). line_from r line.to) h ∙ ap (λ (r : Point). line_from p r) k

-- the coordinate before an edge is within the limits of lines, if there is one within the limits before the edge
near_before : (first edge : ℤ) → first <ℤ edge → IsNear first → IsNear edge → IsNear (edge -ℤ pos 1)
near_before first edge h f e =
    let low = f.low in
    let high = e.high in
    record { low = omega (arith, ints, h, low); high = omega (arith, ints, high) }

before_edge : (n : ℕ) (edge : ℤ) → pos n ≤ℤ (edge -ℤ pos 1) → pos n <ℤ edge
before_edge n edge h = omega (arith, ints, h)

-- a box without a pixel has no lines
pub no_stroke : (nib : Nib) (box : Rect) (x y : ℕ) → has_inside box ≡ false → in_wide_stroke nib (rectangle_lines box) x y ≡ false
no_stroke nib box x y none = rw none refl

module _ (box : Rect) where
  -- the pixels at its corners
  abbrev left_top : Point
  left_top = record { x = box.l; y = box.t }

  abbrev right_top : Point
  right_top = record { x = box.r -ℤ pos 1; y = box.t }

  abbrev right_bottom : Point
  right_bottom = record { x = box.r -ℤ pos 1; y = box.b -ℤ pos 1 }

  abbrev left_bottom : Point
  left_bottom = record { x = box.l; y = box.b -ℤ pos 1 }

  -- the lines between them
  abbrev lines : List Line
  lines = line_from left_top right_top ∷ line_from right_top right_bottom ∷ line_from right_bottom left_bottom ∷ line_from left_bottom left_top ∷ []

  module _ (some : has_inside box ≡ true) where
    wide : box.l <ℤ box.r
    wide = int_lt-true box.l box.r (and_parts (int_lt box.l box.r) (int_lt box.t box.b) some).0

    high : box.t <ℤ box.b
    high = int_lt-true box.t box.b (and_parts (int_lt box.l box.r) (int_lt box.t box.b) some).1

    lines_there : lines ≡ rectangle_lines box
    lines_there = rw some refl

    -- the lines that join the corners one after another
    pub lines_are : (a b c d : Line) → a.from ≡ left_top → a.to ≡ right_top → b.from ≡ right_top → b.to ≡ right_bottom → c.from ≡ right_bottom → c.to ≡ left_bottom → d.from ≡ left_bottom → d.to ≡ left_top → (a ∷ b ∷ c ∷ d ∷ []) ≡ rectangle_lines box
    lines_are a b c d a_from a_to b_from b_to c_from c_to d_from d_to =
        rw (line_is a left_top right_top a_from a_to, line_is b right_top right_bottom b_from b_to, line_is c right_bottom left_bottom c_from c_to, line_is d left_bottom left_top d_from d_to) lines_there

    -- they are within the limits of lines
    pub lines_near : IsNearBox box → All HasNearEnds (rectangle_lines box)
    lines_near near =
        let right = near_before box.l box.r wide near.left near.right in
        let bottom = near_before box.t box.b high near.top near.bottom in
        let a : IsNearPoint left_top = record { x = near.left; y = near.top } in
        let b : IsNearPoint right_top = record { x = right; y = near.top } in
        let c : IsNearPoint right_bottom = record { x = right; y = bottom } in
        let d : IsNearPoint left_bottom = record { x = near.left; y = bottom } in
        All-same HasNearEnds (rectangle_lines box) lines (sym lines_there)
        (all_four HasNearEnds (line_from left_top right_top) (line_from right_top right_bottom) (line_from right_bottom left_bottom) (line_from left_bottom left_top)
        (record { from = a; to = b }) (record { from = b; to = c }) (record { from = c; to = d }) (record { from = d; to = a }))

    -- the box of the outermost pixels contains them, and so the rectangle contains their pixels
    abbrev outer : Rect
    outer = record { l = box.l; t = box.t; r = box.r -ℤ pos 1; b = box.b -ℤ pos 1 }

    across : (box.l ≤ℤ box.l) × (box.l ≤ℤ (box.r -ℤ pos 1)) × ((box.r -ℤ pos 1) ≤ℤ (box.r -ℤ pos 1))
    across = let order = wide in (omega (arith, ints), omega (arith, ints, order), omega (arith, ints))

    down : (box.t ≤ℤ box.t) × (box.t ≤ℤ (box.b -ℤ pos 1)) × ((box.b -ℤ pos 1) ≤ℤ (box.b -ℤ pos 1))
    down = let order = high in (omega (arith, ints), omega (arith, ints, order), omega (arith, ints))

    lines_within : All (HasLine outer) (rectangle_lines box)
    lines_within =
        let a : HasPoint outer left_top = record { left = across.0; top = down.0; right = across.1; bottom = down.1 } in
        let b : HasPoint outer right_top = record { left = across.1; top = down.0; right = across.2; bottom = down.1 } in
        let c : HasPoint outer right_bottom = record { left = across.1; top = down.1; right = across.2; bottom = down.2 } in
        let d : HasPoint outer left_bottom = record { left = across.0; top = down.1; right = across.1; bottom = down.2 } in
        All-same (HasLine outer) (rectangle_lines box) lines (sym lines_there)
        (all_four (HasLine outer) (line_from left_top right_top) (line_from right_top right_bottom) (line_from right_bottom left_bottom) (line_from left_bottom left_top)
        (record { from = a; to = b }) (record { from = b; to = c }) (record { from = c; to = d }) (record { from = d; to = a }))

    pub stroke_within : WideStrokeLaws → (nib : Nib) (x y : ℕ) → in_wide_stroke nib (rectangle_lines box) x y ≡ true → in_box (widened nib box) x y ≡ true
    stroke_within laws nib x y h =
        let there = laws.box nib outer (rectangle_lines box) x y lines_within h in
        let around = widened nib box in
        let right = there.right in
        let bottom = there.bottom in
        and_from (is_from_to around.l around.r x) (is_from_to around.t around.b y)
        (from_to_from around.l around.r x there.left (omega (arith, ints, right)))
        (from_to_from around.t around.b y there.top (omega (arith, ints, bottom)))
