-- The columns of a strip at a row are the pixels of its line there.
use Rattle.std.proofs.Common.{◌≡◌, zero, suc, ◌≤◌, ℤ, pos, negsuc, neg_ℤ, ◌+ℤ◌, ◌-ℤ◌, ◌*ℤ◌, ◌≤ℤ◌, ◌<ℤ◌, true, false, arith, refl, ap, sym, subst, ◌∙◌}
use Rattle.std.specs.Prelude.{int_lt, ◌↔◌, IsTrue}
use Rattle.std.proofs.Math.IntN.{*ℤ-zero}
use Rattle.std.proofs.lemmas.Int.{ints, by_lt_z}
use Rattle.mapping.specs.declared.geometry.Point.{Point}
use Rattle.span_fill.specs.MajorLines.{major_of, length_of, rise_of}
use Rattle.span_fill.specs.Steppers.{IsStepper}
use Rattle.span_fill.specs.RowSlopes.{x_major_row_slope, row_slope_of, total_of, turn_of}
use Rattle.span_fill.specs.WideEdges.{high_of, low_of}
use Rattle.span_fill.specs.Strokes.{far, is_y_major, is_towards, on_line}
use Rattle.span_fill.specs.declared.major_line.MajorLine.{MajorLine}
use Rattle.span_fill.specs.declared.stepper.Stepper.{Stepper}
use Rattle.span_fill.specs.declared.line.Line.{Line}
use Rattle.span_fill.specs.declared.row_slope.RowSlope.{RowSlope}
use Rattle.span_fill.proofs.LineLaw.{on_y_major}
use Rattle.mapping.proofs.Products.{mul_add, mul_one}
use Rattle.span_fill.proofs.StepLemmas.{IsNearest, along_from, along_parts, by_towards, far_down, far_up, nearest_only}
use Rattle.span_fill.proofs.WideEdgeLemmas.{ends_down, ends_up, falling_near, rising_near, y_major_column, flipped}

-- what is divided one row on
pub total_more : (slope : RowSlope) (start : Point) (row : ℤ) → total_of slope start row +ℤ slope.step ≡ total_of slope start (row +ℤ pos 1)
total_more slope start row =
    let next = mul_add slope.step (row -ℤ start.y) (pos 1) in
    let once = mul_one slope.step in
    let place : (row +ℤ pos 1) -ℤ start.y ≡ (row -ℤ start.y) +ℤ pos 1 = omega (arith, ints) in
    let e : slope.step *ℤ ((row +ℤ pos 1) -ℤ start.y) ≡ slope.step *ℤ (row -ℤ start.y) +ℤ slope.step = ap (λ n. slope.step *ℤ n) place ∙ omega (arith, ints, next, once) in
    omega (arith, ints, e)

-- a steep line
pub y_major_exact : (line : Line) (row : ℤ) (x : ℤ) (stepper : Stepper) → true ≡ is_y_major line → 1 ≤ length_of (major_of true line) →
    is_towards line.from.y line.to.y row ≡ true →
    IsStepper (total_of (row_slope_of true (major_of true line)) line.from row) (row_slope_of true (major_of true line)).divisor stepper →
    ((stepper.column ≤ℤ x) × (x <ℤ (stepper.column +ℤ pos 1))) ↔ IsTrue (on_line line x row)
y_major_exact line row x stepper axis some towards is =
    let major = major_of true line in
    let long = far line.from.y line.to.y in
    let step = far line.from.y row in
    let divided = y_major_column (pos long) (turn_of major) row line.from.y line.from.x stepper.column stepper.rest is.divided in
    let same = flipped major row towards in
    let low = is.rest_low in
    let high = is.rest_high in
    let near : IsNearest long (rise_of major) step (stepper.column -ℤ line.from.x) = record { low = omega (arith, ints, divided, same, low); high = omega (arith, ints, divided, same, high) } in
    let on = on_y_major line x row (sym axis) in (
      λ h. let least = h.0 in
          let most = h.1 in
          let place : stepper.column -ℤ line.from.x ≡ x -ℤ line.from.x = omega (arith, ints, least, most) in
          on ∙ along_from line.from.y line.from.x line.to.y line.to.x row x towards (subst (λ (p : ℤ). IsNearest long (rise_of major) step p) place near),
      λ t. let there = (along_parts line.from.y line.from.x line.to.y line.to.x row x (sym on ∙ t)).1 in
          let place = nearest_only long (rise_of major) step (stepper.column -ℤ line.from.x) (x -ℤ line.from.x) some near there in
          (omega (arith, ints, place), omega (arith, ints, place)),
    )

-- another line, by how it turns
pub record IsFlatRow (major : MajorLine) (row : ℤ) (turn : ℤ) (column rest next left : ℤ) : Type 0 where
  pub here : total_of (x_major_row_slope (int_lt major.from_u major.to_u) (pos (length_of major)) turn) (record { x = major.from_u; y = major.from_v }) row
      ≡ (x_major_row_slope (int_lt major.from_u major.to_u) (pos (length_of major)) turn).divisor *ℤ column +ℤ rest
  pub low : pos 0 ≤ℤ rest
  pub high : rest <ℤ (x_major_row_slope (int_lt major.from_u major.to_u) (pos (length_of major)) turn).divisor
  pub there : total_of (x_major_row_slope (int_lt major.from_u major.to_u) (pos (length_of major)) turn) (record { x = major.from_u; y = major.from_v }) row +ℤ (x_major_row_slope (int_lt major.from_u major.to_u) (pos (length_of major)) turn).step
      ≡ (x_major_row_slope (int_lt major.from_u major.to_u) (pos (length_of major)) turn).divisor *ℤ next +ℤ left
  pub left_low : pos 0 ≤ℤ left
  pub left_high : left <ℤ (x_major_row_slope (int_lt major.from_u major.to_u) (pos (length_of major)) turn).divisor

-- a level line has all of its columns in its row
horizontal_up : (major : MajorLine) (row : ℤ) (u column rest next left : ℤ) → major.from_u <ℤ major.to_u → is_towards major.from_u major.to_u u ≡ true →
    row ≡ major.from_v → IsFlatRow major row (pos 0) column rest next left →
    (low_of false column next ≤ℤ u) × (u <ℤ high_of false column next)
horizontal_up major row u column rest next left up towards horizontal x_major =
    let test : int_lt major.from_u major.to_u ≡ true = grind (arith, ints, up) in
    let here = rw test at x_major.here in
    let there = rw test at x_major.there in
    let low = x_major.low in
    let high = rw test at x_major.high in
    let left_low = x_major.left_low in
    let left_high = rw test at x_major.left_high in
    let none : row -ℤ major.from_v ≡ pos 0 = omega (arith, ints, horizontal) in
    let product : pos (length_of major) *ℤ (row -ℤ major.from_v) ≡ pos 0 = ap (λ n. pos (length_of major) *ℤ n) none ∙ *ℤ-zero (pos (length_of major)) in
    let first : column ≡ major.from_u = omega (arith, ints, here, low, high, product) in
    let last : next ≡ major.from_u +ℤ pos (length_of major) = omega (arith, ints, there, left_low, left_high, product) in
    let whole = far_up major.from_u major.to_u (omega (arith, ints, up)) in
    let ends = ends_up column next (omega (arith, ints, first, last)) in
    by_towards major.from_u major.to_u u towards
    (λ h k. rw (ends.0, ends.1) (omega (arith, ints, h, first), omega (arith, ints, k, last, whole)))
    (λ h k. absurd (omega (arith, ints, up, h, k)))

horizontal_down : (major : MajorLine) (row : ℤ) (u column rest next left : ℤ) → major.to_u ≤ℤ major.from_u → is_towards major.from_u major.to_u u ≡ true →
    row ≡ major.from_v → IsFlatRow major row (pos 0) column rest next left →
    (low_of false column next ≤ℤ u) × (u <ℤ high_of false column next)
horizontal_down major row u column rest next left down towards horizontal x_major =
    let test : int_lt major.from_u major.to_u ≡ false = grind (arith, ints, down) in
    let here = rw test at x_major.here in
    let there = rw test at x_major.there in
    let low = x_major.low in
    let high = rw test at x_major.high in
    let left_low = x_major.left_low in
    let left_high = rw test at x_major.left_high in
    let none : row -ℤ major.from_v ≡ pos 0 = omega (arith, ints, horizontal) in
    let product : neg_ℤ (pos (length_of major)) *ℤ (row -ℤ major.from_v) ≡ pos 0 = ap (λ n. neg_ℤ (pos (length_of major)) *ℤ n) none ∙ *ℤ-zero (neg_ℤ (pos (length_of major))) in
    let first : column ≡ major.from_u +ℤ pos 1 = omega (arith, ints, here, low, high, product) in
    let last : next ≡ major.from_u +ℤ pos 1 -ℤ pos (length_of major) = omega (arith, ints, there, left_low, left_high, product) in
    let whole = far_down major.from_u major.to_u down in
    let ends = ends_down column next (omega (arith, ints, first, last)) in
    by_towards major.from_u major.to_u u towards
    (λ h k. absurd (omega (arith, ints, down, h, k)))
    (λ h k. rw (ends.0, ends.1) (omega (arith, ints, h, last, whole), omega (arith, ints, k, first)))

pub x_major_near : (major : MajorLine) (row : ℤ) (u turn column rest next left : ℤ) → turn_of major ≡ turn → 1 ≤ length_of major →
    is_towards major.from_u major.to_u u ≡ true → (turn ≡ pos 0 → row ≡ major.from_v) →
    IsFlatRow major row turn column rest next left →
    IsNearest (length_of major) (rise_of major) (far major.from_u u) (row -ℤ major.from_v) ↔ ((low_of false column next ≤ℤ u) × (u <ℤ high_of false column next))
x_major_near major row u (pos (suc t)) column rest next left turns some towards horizontal x_major =
    let same = subst (λ (n : ℤ). pos (far major.from_u u) *ℤ rise_of major ≡ (u -ℤ major.from_u) *ℤ n) turns (flipped major u towards) in
    rising_near (length_of major) (rise_of major) (far major.from_u u) (pos (suc t)) u major.from_u (row -ℤ major.from_v) column rest next left (omega (arith, ints)) same x_major.here x_major.low x_major.high x_major.there x_major.left_low x_major.left_high
x_major_near major row u (negsuc t) column rest next left turns some towards horizontal x_major =
    let same = subst (λ (n : ℤ). pos (far major.from_u u) *ℤ rise_of major ≡ (u -ℤ major.from_u) *ℤ n) turns (flipped major u towards) in
    falling_near (length_of major) (rise_of major) (far major.from_u u) (negsuc t) u major.from_u (row -ℤ major.from_v) column rest next left (omega (arith, ints)) same x_major.here x_major.low x_major.high x_major.there x_major.left_low x_major.left_high
x_major_near major row u (pos zero) column rest next left turns some towards horizontal x_major =
    let step = far major.from_u u in
    let same = subst (λ (n : ℤ). pos step *ℤ rise_of major ≡ (u -ℤ major.from_u) *ℤ n) turns (flipped major u towards) in
    let zero_rise = *ℤ-zero (u -ℤ major.from_u) in
    let here = horizontal refl in
    let none : row -ℤ major.from_v ≡ pos 0 = omega (arith, ints, here) in
    let product : pos (length_of major) *ℤ (row -ℤ major.from_v) ≡ pos 0 = ap (λ n. pos (length_of major) *ℤ n) none ∙ *ℤ-zero (pos (length_of major)) in
    let near : IsNearest (length_of major) (rise_of major) step (row -ℤ major.from_v) = record { low = omega (arith, ints, same, zero_rise, product); high = omega (arith, ints, same, zero_rise, product, some) } in
    let ends =
    by_lt_z major.from_u major.to_u
    (λ up. horizontal_up major row u column rest next left up towards here x_major)
    (λ down. horizontal_down major row u column rest next left down towards here x_major) in
    (λ h. ends, λ h. near)

-- a line that doesn't turn is level
pub no_turn : (major : MajorLine) → turn_of major ≡ pos 0 → major.from_v ≡ major.to_v
no_turn major e =
    by_lt_z major.from_u major.to_u
    (λ up. let test : int_lt major.from_u major.to_u ≡ true = grind (arith, ints, up) in
    let none = rw test at e in omega (arith, ints, none))
    (λ down. let test : int_lt major.from_u major.to_u ≡ false = grind (arith, ints, down) in
    let none = rw test at e in omega (arith, ints, none))
