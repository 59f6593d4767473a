-- In rows above and below the ends of lines, there is nothing of them.
use Rattle.std.proofs.Common.{◌≡◌, inl, inr, ◌⊎◌, ℕ, ◌+◌, ◌*◌, ℤ, pos, ◌*ℤ◌, ◌≤ℤ◌, ◌<ℤ◌, true, false, int_le, int_lt, List, [], ◌∷◌, refl, ap, sym, ◌∙◌, arith}
use Rattle.std.specs.List.{All}
use Rattle.std.proofs.lemmas.Bool.{and_parts, false_from_ne_true}
use Rattle.std.proofs.lemmas.Int.{ints, by_lt_z}
use Rattle.std.proofs.lemmas.List.Elements.{All-head, All-tail, All-weaker}
use Rattle.std.proofs.lemmas.List.Folds.{list_any_none}
use Rattle.mapping.specs.TestLaws.{int_le-true, int_lt-true}
use Rattle.mapping.specs.declared.geometry.Point.{Point}
use Rattle.span_fill.specs.Fill.{crossed_downwards, crossed_upwards, crossing_dividend, down, has_row, in_fill, is_crossed, is_inside}
use Rattle.span_fill.specs.RowLaws.{LiesBetween, RowLaws}
use Rattle.span_fill.specs.Strokes.{in_stroke, is_along, is_y_major, is_towards, on_line}
use Rattle.span_fill.specs.declared.fill_rule.FillRule.{FillRule}
use Rattle.span_fill.specs.declared.fill_rule.FillRule.TheVariants.{EvenOdd, NonZero}
use Rattle.span_fill.specs.declared.line.Line.{Line}
use Rattle.span_fill.proofs.HullLemmas.{fall_hull, rise_hull}
use Rattle.span_fill.proofs.LineLaw.{by_axis, on_x_major, on_y_major}
use Rattle.span_fill.proofs.StepLemmas.{along_parts, by_towards}

-- a row is above the first one, or below the last one
abbrev IsOutside : ℤ → ℤ → ℤ → Type 0
IsOutside first last y = (y <ℤ first) ⊎ (last <ℤ y)

-- a coordinate isn't both outside and inside
not_both : (first last y : ℤ) → IsOutside first last y → first ≤ℤ y → y ≤ℤ last → ⊥
not_both first last y (inl above) low high = omega (arith, ints, above, low)
not_both first last y (inr below) low high = omega (arith, ints, below, high)

-- no line crosses a row outside of its ends
not_crossed : (upper lower : Point) (first last : ℤ) (x y : ℕ) → first ≤ℤ upper.y → lower.y ≤ℤ last → IsOutside first last (pos y) → is_crossed upper lower x y ≡ false
not_crossed upper lower first last x y low high out =
    false_from_ne_true (is_crossed upper lower x y)
    (λ t.
    let has = (and_parts (has_row upper lower y) (int_le (crossing_dividend upper lower y) (pos (2 * x + 1) *ℤ down upper lower)) t).0 in
    let ends = and_parts (int_le upper.y (pos y)) (int_lt (pos y) lower.y) has in
    let after = int_le-true upper.y (pos y) ends.0 in
    let before = int_lt-true (pos y) lower.y ends.1 in
    not_both first last (pos y) out (omega (arith, ints, low, after)) (omega (arith, ints, high, before)))

-- so none of them is counted
no_downwards : (lines : List Line) (first last : ℤ) (x y : ℕ) → All (LiesBetween first last) lines → IsOutside first last (pos y) → crossed_downwards lines x y ≡ 0
no_downwards [] first last x y all out = refl
no_downwards (line ∷ lines) first last x y all out =
    let lies = All-head (LiesBetween first last) line lines all in
    let rest = no_downwards lines first last x y (All-tail (LiesBetween first last) line lines all) out in
    rw (not_crossed line.from line.to first last x y lies.from_first lies.to_last out) (omega (arith, rest))

no_upwards : (lines : List Line) (first last : ℤ) (x y : ℕ) → All (LiesBetween first last) lines → IsOutside first last (pos y) → crossed_upwards lines x y ≡ 0
no_upwards [] first last x y all out = refl
no_upwards (line ∷ lines) first last x y all out =
    let lies = All-head (LiesBetween first last) line lines all in
    let rest = no_upwards lines first last x y (All-tail (LiesBetween first last) line lines all) out in
    rw (not_crossed line.to line.from first last x y lies.to_first lies.from_last out) (omega (arith, rest))

-- where no line is counted is no inside
none_inside : (rule : FillRule) → is_inside rule 0 0 ≡ false
none_inside EvenOdd = refl
none_inside NonZero = refl

no_fill : (rule : FillRule) (lines : List Line) (first last : ℤ) (x y : ℕ) → All (LiesBetween first last) lines → IsOutside first last (pos y) → in_fill rule lines x y ≡ false
no_fill rule lines first last x y all out =
    ap (λ n. is_inside rule n (crossed_upwards lines x y)) (no_downwards lines first last x y all out)
    ∙ ap (λ n. is_inside rule 0 n) (no_upwards lines first last x y all out)
    ∙ none_inside rule

-- a coordinate on the way from one to another lies where both do
towards_not : (a b first last u : ℤ) → first ≤ℤ a → a ≤ℤ last → first ≤ℤ b → b ≤ℤ last → IsOutside first last u → is_towards a b u ≡ true → ⊥
towards_not a b first last u a_low a_high b_low b_high out t =
    by_towards a b u t
    (λ h k. not_both first last u out (omega (arith, ints, a_low, h)) (omega (arith, ints, b_high, k)))
    (λ h k. not_both first last u out (omega (arith, ints, b_low, h)) (omega (arith, ints, a_high, k)))

-- and so does the one on the shorter axis
along_not : (u0 v0 u1 v1 first last u v : ℤ) → first ≤ℤ v0 → v0 ≤ℤ last → first ≤ℤ v1 → v1 ≤ℤ last → IsOutside first last v → is_along u0 v0 u1 v1 u v ≡ true → ⊥
along_not u0 v0 u1 v1 first last u v low high low_end high_end out on =
    by_lt_z v1 v0
    (λ (falls : v1 <ℤ v0).
    let hull = fall_hull u0 v0 u1 v1 u v on (omega (arith, ints, falls)) in
    let least = hull.0 in
    let greatest = hull.1 in
    not_both first last v out (omega (arith, ints, low_end, least)) (omega (arith, ints, high, greatest)))
    (λ (rises : v0 ≤ℤ v1).
    let hull = rise_hull u0 v0 u1 v1 u v on rises in
    let least = hull.0 in
    let greatest = hull.1 in
    not_both first last v out (omega (arith, ints, low, least)) (omega (arith, ints, high_end, greatest)))

-- no line has a pixel in a row outside of its ends
not_on : (line : Line) (first last x y : ℤ) → LiesBetween first last line → IsOutside first last y → on_line line x y ≡ false
not_on line first last x y lies out =
    false_from_ne_true (on_line line x y)
    (λ t. by_axis line
    (λ (e : is_y_major line ≡ true).
    let on = sym (on_y_major line x y e) ∙ t in
    let towards = (along_parts line.from.y line.from.x line.to.y line.to.x y x on).0 in
    towards_not line.from.y line.to.y first last y lies.from_first lies.from_last lies.to_first lies.to_last out towards)
    (λ (e : is_y_major line ≡ false).
    let on = sym (on_x_major line x y e) ∙ t in
    along_not line.from.x line.from.y line.to.x line.to.y first last x y lies.from_first lies.from_last lies.to_first lies.to_last out on))

no_stroke : (lines : List Line) (first last : ℤ) (x y : ℕ) → All (LiesBetween first last) lines → IsOutside first last (pos y) → in_stroke lines x y ≡ false
no_stroke lines first last x y all out =
    list_any_none (λ line. on_line line (pos x) (pos y)) lines
    (All-weaker (LiesBetween first last) (λ line. on_line line (pos x) (pos y) ≡ false) (λ line lies. not_on line first last (pos x) (pos y) lies out) lines all)

pub row_law : RowLaws
row_law = record {
  fill = no_fill;
  stroke = no_stroke;
}
