-- The pixel of a point on the surface.
use Rattle.std.proofs.Common.{◌≡◌, ℕ, ℤ, pos, negsuc, Bool, true, false, ◌&&◌, ◌==◌, Option, Some, None, arith, refl, ◌∙◌, ap}
use Rattle.std.proofs.lemmas.Bool.{and_from, and_parts, false_from_ne_true}
use Rattle.mapping.specs.Surface.{is_index, is_pixel}
use Rattle.mapping.specs.TestLaws.{same_test}
use Rattle.mapping.specs.declared.geometry.Colour.{Colour}
use Rattle.mapping.specs.declared.geometry.Point.{Point}
use Rattle.canvas.specs.CanvasState.{CanvasState, HasPixel}
use Rattle.canvas.specs.Writing.{Repaints, is_at}
use Rattle.canvas.specs.WritingLaws.{IsWhole, WritingLaws}
use Rattle.dc_stack.specs.Clip.{ClipValue, in_boxes}
use Rattle.painting.specs.Dots.{indexes_of, naturals}

is_same_number : (a b : ℕ) → (a == b) ≡ true → b ≡ a
is_same_number a b h = grind (arith)

-- the components of a pair, if there is one
abbrev first_of : Option (ℕ × ℕ) → ℕ
first_of None = 0
first_of (Some pair) = pair.0

abbrev second_of : Option (ℕ × ℕ) → ℕ
second_of None = 0
second_of (Some pair) = pair.1

-- the numbers of a column and a row
numbers_are : (u v : ℤ) (x y a b : ℕ) → naturals u v ≡ Some (x, y) → (is_index u a && is_index v b) ≡ true → (a ≡ x) × (b ≡ y)
numbers_are (pos u) (pos v) x y a b e h =
    let parts = and_parts (u == a) (v == b) h in
    let column : u ≡ x = ap first_of e in
    let row : v ≡ y = ap second_of e in (is_same_number u a parts.0 ∙ column, is_same_number v b parts.1 ∙ row)
numbers_are (pos u) (negsuc v) x y a b e h = cc
numbers_are (negsuc u) v x y a b e h = cc

numbers_from : (u v : ℤ) (x y : ℕ) → naturals u v ≡ Some (x, y) → (is_index u x && is_index v y) ≡ true
numbers_from (pos u) (pos v) x y e =
    let column : u ≡ x = ap first_of e in
    let row : v ≡ y = ap second_of e in and_from (u == x) (v == y) (same u x column) (same v y row)
  where
    same : (a b : ℕ) → a ≡ b → (a == b) ≡ true
    same a b h = grind (arith)
numbers_from (pos u) (negsuc v) x y e = cc
numbers_from (negsuc u) v x y e = cc

-- there are none if a coordinate is negative
no_numbers : (u v : ℤ) (a b : ℕ) → naturals u v ≡ None → (is_index u a && is_index v b) ≡ true → ⊥
no_numbers (pos u) (pos v) a b e h = cc
no_numbers (pos u) (negsuc v) a b e h = let parts = and_parts (u == a) false h in cc
no_numbers (negsuc u) v a b e h = cc

is_at_true : (x y column row : ℕ) → is_at x y column row ≡ true → (column ≡ x) × (row ≡ y)
is_at_true x y column row h = grind (arith)

is_at_from : (x y column row : ℕ) → column ≡ x → row ≡ y → is_at x y column row ≡ true
is_at_from x y column row h k = grind (arith)

module _ (laws : WritingLaws) (clip : ClipValue) (point : Point) (canvas : CanvasState) (whole : IsWhole canvas) (f : ℕ → ℕ → Colour → Colour) where
  -- the pixel that is written
  abbrev test : ℕ → ℕ → Bool
  test a b = in_boxes clip a b && is_pixel point a b

  -- nothing is written if the canvas or the clip doesn't contain the pixel
  pub no_dot : ((a b : ℕ) → HasPixel canvas a b → in_boxes clip a b ≡ true → is_pixel point a b ≡ true → ⊥) → Repaints test f canvas canvas
  no_dot none =
      laws.none test f canvas whole (λ a b held. false_from_ne_true (test a b) (λ h. let p = and_parts (in_boxes clip a b) (is_pixel point a b) h in none a b held p.0 p.1))

  -- nothing is written if a coordinate is negative
  pub no_indexes : indexes_of point ≡ None → Repaints test f canvas canvas
  no_indexes e = no_dot (λ a b held has here. no_numbers point.x point.y a b e here)

  module _ (x y : ℕ) (e : indexes_of point ≡ Some (x, y)) where
    -- nothing is written if this pixel isn't on the canvas or not in the clip
    pub no_dot_there : (HasPixel canvas x y → in_boxes clip x y ≡ true → ⊥) → Repaints test f canvas canvas
    no_dot_there none = no_dot (λ a b held has here.
        let at = numbers_are point.x point.y x y a b e here in
        none (rw (at.0, at.1) at held) (rw (at.0, at.1) at has))

    -- otherwise the pixel is written
    pub dot_there : (new : CanvasState) → in_boxes clip x y ≡ true → Repaints (is_at x y) f canvas new → Repaints test f canvas new
    dot_there new has written =
        laws.same (is_at x y) test f f canvas new whole
        (λ a b held. same_test (is_at x y a b) (test a b)
        (λ h.
        let at = is_at_true x y a b h in
        rw (at.0, at.1) (and_from (in_boxes clip x y) (is_pixel point x y) has (numbers_from point.x point.y x y e)))
        (λ h.
        let p = and_parts (in_boxes clip a b) (is_pixel point a b) h in
        let at = numbers_are point.x point.y x y a b e p.1 in is_at_from x y a b at.0 at.1))
        (λ a b old held t. refl) written
