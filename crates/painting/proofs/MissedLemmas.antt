-- If the box of a drawing lies outside the rows of the canvas, leaving them unchanged draws it.
use Rattle.std.proofs.Common.{◌≡◌, ◌≢◌, ◌↔◌, ◌⊎◌, inl, inr, ℕ, ◌+◌, Bool, true, false, not, IsTrue, ap, ◌∙◌, ◌≤◌, ℤ, pos, ◌*ℤ◌, ◌≤ℤ◌, ◌<ℤ◌, int_lt, arith, subst, sym}
use Rattle.std.proofs.lemmas.Bool.{true≢false}
use Rattle.std.proofs.lemmas.Int.{by_lt_z, ints}
use Rattle.mapping.specs.Boxes.{IsBoundingBox}
use Rattle.mapping.specs.Floor.{FloorDivisionIsGreatest, floor_div}
use Rattle.mapping.specs.PlacingLaws.{ShowsFrame}
use Rattle.mapping.specs.Surface.{Surface}
use Rattle.mapping.specs.declared.geometry.Rect.{Rect}
use Rattle.mapping.proofs.PlacingLemmas.{times_count}
use Rattle.mapping.specs.TestLaws.{int_lt-from, int_lt-not, int_lt-true, same_test}
use Rattle.canvas.specs.CanvasState.{CanvasState, image_of}
use Rattle.canvas.specs.WritingLaws.{IsWhole}
use Rattle.dc_stack.specs.Clip.{placed_box}
use Rattle.dc_stack.specs.Drawing.{Drawing, drawing_nib, drawing_points}
use Rattle.span_fill.specs.WideStrokes.{widened}
use Rattle.preflight_cert.specs.Layer.{layers_of}
use Rattle.preflight_cert.specs.MissedRowsLaws.{LiesOutside, MissedRowsLaws}
use Rattle.painting.specs.Drawn.{DrawsLayers, HoldsRows}
use Rattle.painting.proofs.LandedBoxLemmas.{has_all}

-- a quotient is less than a number exactly if the dividend is less than that number of divisors
module _ (law : FloorDivisionIsGreatest) (a count : ℤ) (side : ℕ) (some : 1 ≤ side) where
  not_zero : pos side ≢ pos 0
  not_zero e = omega (arith, ints, some, e)

  abbrev quotient : ℤ
  quotient = floor_div a (pos side)

  before : a <ℤ (count *ℤ pos side) → quotient <ℤ count
  before h = by_lt_z quotient (count)
      (λ (fine : quotient <ℤ count). fine)
      (λ (over : count ≤ℤ quotient).
      let times = times_count (count) quotient side over in
      let low = (law a (pos side) not_zero).not_above in
      absurd (omega (arith, ints, h, low, times)))

  before_back : quotient <ℤ count → a <ℤ (count *ℤ pos side)
  before_back h = by_lt_z a (count *ℤ pos side)
      (λ (fine : a <ℤ (count *ℤ pos side)). fine)
      (λ (over : (count *ℤ pos side) ≤ℤ a). let up = (law a (pos side) not_zero).greatest (count) over in absurd (omega (arith, ints, h, up)))

  pub quotient_before : int_lt a (count *ℤ pos side) ≡ int_lt quotient (count)
  quotient_before = same_test (int_lt a (count *ℤ pos side)) (int_lt quotient (count))
      (λ t. int_lt-from quotient (count) (before (int_lt-true a (count *ℤ pos side) t)))
      (λ t. int_lt-from a (count *ℤ pos side) (before_back (int_lt-true quotient (count) t)))

-- what doesn't end above some rows lies outside them unless it begins above their end
pub outside_else : (bottom top : ℤ) (first rows : ℕ) → int_lt bottom (pos first) ≡ false → IsTrue (not (int_lt top (pos (first + rows)))) ↔ ((bottom <ℤ pos first) ⊎ (pos (first + rows) ≤ℤ top))
outside_else bottom top first rows not_above = (
  λ h. by_lt_z top (pos (first + rows)) (λ g. absurd (not_both (int_lt top (pos (first + rows))) (int_lt-from top (pos (first + rows)) g) h)) (λ g. inr g),
  λ beside. elim beside [
    | inl above ↦ absurd (true≢false (sym (int_lt-from bottom (pos first) above) ∙ not_above))
    | inr below ↦ ap not (int_lt-not top (pos (first + rows)) below)
  ],
)
  where
    not_both : (test : Bool) → test ≡ true → IsTrue (not test) → ⊥
    not_both true e h = true≢false (sym h)
    not_both false e h = true≢false (sym e)

-- a drawing has nothing on rows that it misses
pub missed_drawn :
    MissedRowsLaws → (s : Surface) (drawing : Drawing) (bounds : Rect) (canvas : CanvasState) → ShowsFrame s → IsWhole canvas → HoldsRows canvas s
    → IsBoundingBox bounds (drawing_points drawing) → LiesOutside (widened (drawing_nib drawing s) (placed_box s bounds)) canvas.first canvas.rows
    → DrawsLayers (layers_of drawing) s canvas canvas
missed_drawn laws s drawing bounds canvas shown there held least beside =
    let all = has_all bounds (drawing_points drawing) least in
    let wide : 1 ≤ s.width = subst (λ (w : ℕ). 1 ≤ w) held.width there.wide in
    let left = laws.image drawing bounds s canvas.first (image_of canvas) shown all (record { wide = there.wide; whole = there.whole }) beside in
    let none = laws.writes drawing bounds s canvas.first canvas.rows shown all wide beside in
    record { image = sym left; writes = omega (arith, none) }
