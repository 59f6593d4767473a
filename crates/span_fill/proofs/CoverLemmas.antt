-- What a pen covers, pixel by pixel, and in which box that lies.
use Rattle.std.proofs.Common.{◌≡◌, ℕ, zero, suc, ◌-◌, ◌<◌, ◌≤◌, ℤ, pos, ◌+ℤ◌, ◌-ℤ◌, ◌≤ℤ◌, ◌<ℤ◌, Bool, true, false, ◌||◌, List, [], ◌∷◌, refl, ap, sym, subst, ◌∙◌, arith}
use Rattle.std.specs.Prelude.{unsigned_abs}
use Rattle.std.specs.List.{All}
use Rattle.std.proofs.Math.Nat.{div-le_self}
use Rattle.std.proofs.lemmas.Bool.{true≢false, or_left, or_right}
use Rattle.std.proofs.lemmas.Int.{ints, by_lt_z}
use Rattle.std.proofs.lemmas.List.Elements.{All-head, All-tail}
use Rattle.mapping.specs.Nibs.{IsNib, reach_before, reach_after}
use Rattle.mapping.specs.PixelBoxes.{BoxHasPixel}
use Rattle.mapping.specs.TestLaws.{by_either, same_test}
use Rattle.mapping.specs.declared.geometry.Rect.{Rect}
use Rattle.mapping.specs.declared.nib.Nib.{Nib}
use Rattle.span_fill.specs.LineBoxes.{HasLine}
use Rattle.span_fill.specs.Strokes.{in_stroke, on_line}
use Rattle.span_fill.specs.WideStrokes.{IsCovered, any_below, covers_by_rows, in_wide_stroke, on_wide_line, one_pixel, row_of, widened}
use Rattle.span_fill.specs.declared.line.Line.{Line}
use Rattle.span_fill.proofs.LineBoxLemmas.{on_line_has}

-- a number below n that passes a test
pub record PassesBelow (test : ℕ → Bool) (n : ℕ) : Type 0 where
  pub at : ℕ
  pub below : at < n
  pub passes : test at ≡ true

pub any_passes : (test : ℕ → Bool) (n : ℕ) → any_below test n ≡ true → PassesBelow test n
any_passes test zero t = absurd (true≢false (sym t))
any_passes test (suc n) t =
    by_either (test n) (any_below test n) t
    (λ (h : test n ≡ true). record { at = n; below = omega arith; passes = h })
    (λ (h : any_below test n ≡ true). let there = any_passes test n h in let k = there.below in record { at = there.at; below = omega (arith, k); passes = there.passes })

pub any_from : (test : ℕ → Bool) (n i : ℕ) → i < n → test i ≡ true → any_below test n ≡ true
any_from test zero i h t = absurd (omega (arith, h))
any_from test (suc n) i h t =
    by_lt_z (pos i) (pos n)
    (λ (g : pos i <ℤ pos n). or_right (test n) (any_below test n) (any_from test n i (omega (arith, ints, g)) t))
    (λ (g : pos n ≤ℤ pos i). let e : i ≡ n = omega (arith, ints, g, h) in or_left (test n) (any_below test n) (subst (λ (k : ℕ). test k ≡ true) e t))

-- the reach before and behind, and the pixel itself
pub reaches : (n : ℕ) → reach_before n ≤ n - 1
reaches n = div-le_self (n - 1) 2

-- how far a place is, seen from the last that a nib reaches
place_of : (n : ℕ) (x u : ℤ) → 1 ≤ n → (u -ℤ pos (reach_before n)) ≤ℤ x → x ≤ℤ (u +ℤ pos (reach_after n)) → pos (unsigned_abs (x +ℤ pos (reach_before n) -ℤ u)) ≡ x +ℤ pos (reach_before n) -ℤ u
place_of n x u some left right = omega (arith, ints, left)

pub covered : (nib : Nib) (line : Line) (x y : ℤ) → on_wide_line nib line x y ≡ true → IsCovered nib line x y
covered nib line x y t =
    let i = any_passes (λ i. any_below (λ j. on_line line (x +ℤ pos (reach_before nib.x) -ℤ pos i) (y +ℤ pos (reach_before nib.y) -ℤ pos j)) nib.y) nib.x t in
    let j = any_passes (λ j. on_line line (x +ℤ pos (reach_before nib.x) -ℤ pos i.at) (y +ℤ pos (reach_before nib.y) -ℤ pos j)) nib.y i.passes in
    let a = i.below in
    let b = j.below in
    let c = reaches nib.x in
    let d = reaches nib.y in
    record {
      u = x +ℤ pos (reach_before nib.x) -ℤ pos i.at;
      v = y +ℤ pos (reach_before nib.y) -ℤ pos j.at;
      on = j.passes;
      left = omega (arith, ints);
      right = omega (arith, ints, a, c);
      above = omega (arith, ints);
      below = omega (arith, ints, b, d);
    }

pub covers : (nib : Nib) (line : Line) (x y : ℤ) → IsNib nib → IsCovered nib line x y → on_wide_line nib line x y ≡ true
covers nib line x y is h =
    let some_x = is.x.not_empty in
    let some_y = is.y.not_empty in
    let left = h.left in
    let right = h.right in
    let above = h.above in
    let below = h.below in
    let a = reaches nib.x in
    let b = reaches nib.y in
    let i = unsigned_abs (x +ℤ pos (reach_before nib.x) -ℤ h.u) in
    let j = unsigned_abs (y +ℤ pos (reach_before nib.y) -ℤ h.v) in
    let e = place_of nib.x x h.u some_x left right in
    let f = place_of nib.y y h.v some_y above below in
    let u : h.u ≡ x +ℤ pos (reach_before nib.x) -ℤ pos i = omega (arith, ints, e) in
    let v : h.v ≡ y +ℤ pos (reach_before nib.y) -ℤ pos j = omega (arith, ints, f) in
    let on : on_line line (x +ℤ pos (reach_before nib.x) -ℤ pos i) (y +ℤ pos (reach_before nib.y) -ℤ pos j) ≡ true =
    subst (λ (n : ℤ). on_line line n (y +ℤ pos (reach_before nib.y) -ℤ pos j) ≡ true) u (subst (λ (n : ℤ). on_line line h.u n ≡ true) v h.on) in
    any_from (λ i. any_below (λ j. on_line line (x +ℤ pos (reach_before nib.x) -ℤ pos i) (y +ℤ pos (reach_before nib.y) -ℤ pos j)) nib.y) nib.x i (omega (arith, ints, e, right, a, some_x))
    (any_from (λ j. on_line line (x +ℤ pos (reach_before nib.x) -ℤ pos i) (y +ℤ pos (reach_before nib.y) -ℤ pos j)) nib.y j (omega (arith, ints, f, below, b, some_y)) on)

-- what a nib covers, row by row
one_row : (nib : Nib) → IsNib nib → IsNib (row_of nib)
one_row nib is = record { x = is.x; y = record { not_empty = omega arith; within = omega arith } }

to_row : (nib : Nib) (line : Line) (x y : ℤ) → IsNib nib → on_wide_line nib line x y ≡ true → covers_by_rows nib line x y ≡ true
to_row nib line x y is t =
    let c = covered nib line x y t in
    let above = c.above in
    let below = c.below in
    let some = is.y.not_empty in
    let reach = reaches nib.y in
    let j = unsigned_abs (y +ℤ pos (reach_before nib.y) -ℤ c.v) in
    let e = place_of nib.y y c.v some above below in
    let here : IsCovered (row_of nib) line x (y +ℤ pos (reach_before nib.y) -ℤ pos j) =
    record { u = c.u; v = c.v; on = c.on; left = c.left; right = c.right; above = omega (arith, ints, e); below = omega (arith, ints, e) } in
    any_from (λ j. on_wide_line (row_of nib) line x (y +ℤ pos (reach_before nib.y) -ℤ pos j)) nib.y j (omega (arith, ints, e, below, reach, some))
    (covers (row_of nib) line x (y +ℤ pos (reach_before nib.y) -ℤ pos j) (one_row nib is) here)

from_row : (nib : Nib) (line : Line) (x y : ℤ) → IsNib nib → covers_by_rows nib line x y ≡ true → on_wide_line nib line x y ≡ true
from_row nib line x y is t =
    let j = any_passes (λ j. on_wide_line (row_of nib) line x (y +ℤ pos (reach_before nib.y) -ℤ pos j)) nib.y t in
    let within = j.below in
    let c = covered (row_of nib) line x (y +ℤ pos (reach_before nib.y) -ℤ pos j.at) j.passes in
    let above = c.above in
    let below = c.below in
    let reach = reaches nib.y in
    covers nib line x y is (record { u = c.u; v = c.v; on = c.on; left = c.left; right = c.right; above = omega (arith, ints, above, below); below = omega (arith, ints, above, below, within, reach) })

pub by_rows : (nib : Nib) (line : Line) (x y : ℤ) → IsNib nib → on_wide_line nib line x y ≡ covers_by_rows nib line x y
by_rows nib line x y is = same_test (on_wide_line nib line x y) (covers_by_rows nib line x y) (to_row nib line x y is) (from_row nib line x y is)

no_other : (b : Bool) → ((b || false) || false) ≡ b
no_other true = refl
no_other false = refl

-- a nib of one pixel
one_at : (line : Line) (x y : ℤ) → on_wide_line one_pixel line x y ≡ on_line line x y
one_at line x y =
    let a : x +ℤ pos (reach_before 1) -ℤ pos 0 ≡ x = omega (arith, ints) in
    let b : y +ℤ pos (reach_before 1) -ℤ pos 0 ≡ y = omega (arith, ints) in
    let e = ap (λ n. on_line line n (y +ℤ pos (reach_before 1) -ℤ pos 0)) a ∙ ap (λ n. on_line line x n) b in
    no_other (on_line line (x +ℤ pos (reach_before 1) -ℤ pos 0) (y +ℤ pos (reach_before 1) -ℤ pos 0)) ∙ e

pub one_of : (lines : List Line) (x y : ℕ) → in_wide_stroke one_pixel lines x y ≡ in_stroke lines x y
one_of [] x y = refl
one_of (line ∷ lines) x y =
    ap (λ b. b || in_wide_stroke one_pixel lines x y) (one_at line (pos x) (pos y)) ∙ ap (λ b. on_line line (pos x) (pos y) || b) (one_of lines x y)

-- all that is covered lies near to a box that has the lines
line_lies : (nib : Nib) (box : Rect) (line : Line) (x y : ℕ) → HasLine box line → on_wide_line nib line (pos x) (pos y) ≡ true → BoxHasPixel (widened nib box) x y
line_lies nib box line x y h t =
    let c = covered nib line (pos x) (pos y) t in
    let there = on_line_has box line c.u c.v h c.on in
    let l = there.left in let r = there.right in let a = there.top in let b = there.bottom in
    let left = c.left in let right = c.right in let above = c.above in let below = c.below in
    record { left = omega (arith, ints, l, left); top = omega (arith, ints, a, above); right = omega (arith, ints, r, right); bottom = omega (arith, ints, b, below) }

pub stroke_lies : (nib : Nib) (box : Rect) (lines : List Line) (x y : ℕ) → All (HasLine box) lines → in_wide_stroke nib lines x y ≡ true → BoxHasPixel (widened nib box) x y
stroke_lies nib box [] x y all t = absurd (true≢false (sym t))
stroke_lies nib box (line ∷ lines) x y all t =
    by_either (on_wide_line nib line (pos x) (pos y)) (in_wide_stroke nib lines x y) t
    (λ (here : on_wide_line nib line (pos x) (pos y) ≡ true). line_lies nib box line x y (All-head (HasLine box) line lines all) here)
    (λ (there : in_wide_stroke nib lines x y ≡ true). stroke_lies nib box lines x y (All-tail (HasLine box) line lines all) there)
