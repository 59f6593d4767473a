-- The columns that a line has in several rows are one interval.
use Rattle.std.proofs.Common.{◌≡◌, ℕ, zero, suc, ◌≤◌, Bool, true, false, ℤ, pos, neg_ℤ, ◌+ℤ◌, ◌-ℤ◌, ◌*ℤ◌, ◌≤ℤ◌, ◌<ℤ◌, refl, ap, sym, subst, ◌∙◌, arith}
use Rattle.std.specs.Prelude.{int_le, ◌↔◌, IsTrue, if◌then◌else◌}
use Rattle.std.specs.Int.{int_div_euclid}
use Rattle.std.proofs.lemmas.Bool.{true≢false}
use Rattle.std.proofs.lemmas.Int.{ints, by_lt_z}
use Rattle.mapping.specs.declared.geometry.Point.{Point}
use Rattle.span_fill.specs.MajorLines.{major_of, length_of}
use Rattle.span_fill.specs.Steppers.{IsStepper}
use Rattle.span_fill.specs.RowSlopes.{row_slope_of, total_of, turn_of}
use Rattle.span_fill.specs.WideEdges.{high_of, low_of}
use Rattle.span_fill.specs.Strokes.{is_y_major, is_towards, on_line}
use Rattle.span_fill.specs.declared.stepper.Stepper.{Stepper}
use Rattle.span_fill.specs.declared.line.Line.{Line}
use Rattle.span_fill.specs.declared.row_slope.RowSlope.{RowSlope}
use Rattle.span_fill.specs.WideEdges.{IsRowOf, column_in, high_over, last_in, low_over}
use Rattle.span_fill.proofs.ChainLemmas.{HasOne, falls, rises, union_down, union_up}
use Rattle.span_fill.proofs.FloorLemmas.{floor_above, floor_high, floor_least, floor_low, floor_one}
use Rattle.span_fill.proofs.LineLaw.{on_x_major}
use Rattle.mapping.proofs.Products.{mul_add}
use Rattle.span_fill.proofs.StepLemmas.{along_from, along_parts}
use Rattle.span_fill.proofs.WideEdgeExact.{IsFlatRow, x_major_near, no_turn, y_major_exact, total_more}
use Rattle.span_fill.proofs.WideEdgeLemmas.{ends_down, ends_up}

-- the cut there
abbrev stepper_in : RowSlope → Point → ℤ → Stepper
stepper_in slope start row = record { column = column_in slope start row; rest = total_of slope start row -ℤ slope.divisor *ℤ column_in slope start row }

stepper_is : (slope : RowSlope) (start : Point) (row : ℤ) → pos 1 ≤ℤ slope.divisor → IsStepper (total_of slope start row) slope.divisor (stepper_in slope start row)
stepper_is slope start row some =
    let a = floor_low (total_of slope start row) slope.divisor some in
    let b = floor_high (total_of slope start row) slope.divisor some in
    record { divided = omega (arith, ints); rest_low = omega (arith, ints, a); rest_high = omega (arith, ints, b) }

-- each cut there has this column
pub column_is : (total divisor : ℤ) (stepper : Stepper) → IsStepper total divisor stepper → int_div_euclid total divisor ≡ stepper.column
column_is total divisor stepper is =
    let low = is.rest_low in
    let high = is.rest_high in
    let divided = is.divided in
    floor_one total divisor stepper.column (omega (arith, ints, low, high)) (omega (arith, ints, divided, low)) (omega (arith, ints, divided, high))

-- u is one of its columns in the row
pub record HasColumn (y_major : Bool) (slope : RowSlope) (start : Point) (row u : ℤ) : Type 0 where
  pub low : low_of y_major (column_in slope start row) (column_in slope start (row +ℤ pos 1)) ≤ℤ u
  pub high : u <ℤ high_of y_major (column_in slope start row) (column_in slope start (row +ℤ pos 1))

pub row_exact : (y_major : Bool) (line : Line) (row u : ℤ) → y_major ≡ is_y_major line → 1 ≤ length_of (major_of y_major line) → pos 1 ≤ℤ (row_slope_of y_major (major_of y_major line)).divisor → IsRowOf y_major line row
    → IsTrue (on_line line u row) ↔ ((y_major ≡ false → is_towards line.from.x line.to.x u ≡ true) × HasColumn y_major (row_slope_of y_major (major_of y_major line)) line.from row u)
row_exact true line row u axis some divides here =
    let exact = y_major_exact line row u (stepper_in (row_slope_of true (major_of true line)) line.from row) axis some (here.towards refl) (stepper_is (row_slope_of true (major_of true line)) line.from row divides) in (
      λ t. let ends = exact.1 t in ((λ e. absurd (true≢false e)), record { low = ends.0; high = ends.1 }),
      λ h. exact.0 (h.1.low, h.1.high),
    )
row_exact false line row u axis some divides here =
    let major = major_of false line in
    let slope = row_slope_of false major in
    let on = on_x_major line u row (sym axis) in
    let stepper = stepper_is slope line.from row divides in
    let next = stepper_is slope line.from (row +ℤ pos 1) divides in
    let x_major : IsFlatRow major row (turn_of major) (column_in slope line.from row) (stepper_in slope line.from row).rest (column_in slope line.from (row +ℤ pos 1)) (stepper_in slope line.from (row +ℤ pos 1)).rest = record {
      here = stepper.divided;
      low = stepper.rest_low;
      high = stepper.rest_high;
      there = total_more slope line.from row ∙ next.divided;
      left_low = next.rest_low;
      left_high = next.rest_high;
    } in
    let x_major_horizontal : turn_of major ≡ pos 0 → row ≡ major.from_v = λ e. here.horizontal (no_turn major e) in (
      λ t. let parts = along_parts line.from.x line.from.y line.to.x line.to.y u row (sym on ∙ t) in
          let ends = (x_major_near major row u (turn_of major) (column_in slope line.from row) (stepper_in slope line.from row).rest (column_in slope line.from (row +ℤ pos 1)) (stepper_in slope line.from (row +ℤ pos 1)).rest refl some parts.0 x_major_horizontal x_major).0 parts.1 in
          ((λ e. parts.0), record { low = ends.0; high = ends.1 }),
      λ h. let towards = h.0 refl in
          let near = (x_major_near major row u (turn_of major) (column_in slope line.from row) (stepper_in slope line.from row).rest (column_in slope line.from (row +ℤ pos 1)) (stepper_in slope line.from (row +ℤ pos 1)).rest refl some towards x_major_horizontal x_major).1 (h.1.low, h.1.high) in
          on ∙ along_from line.from.x line.from.y line.to.x line.to.y u row towards near,
    )

-- floors of fractions that are in order, and of such that are at most one apart
floor_order : (a b e : ℤ) → pos 1 ≤ℤ e → a ≤ℤ b → int_div_euclid a e ≤ℤ int_div_euclid b e
floor_order a b e some h = let low = floor_low a e some in floor_least b e (int_div_euclid a e) some (omega (arith, ints, low, h))

floor_next : (a b e : ℤ) → pos 1 ≤ℤ e → a ≤ℤ (b +ℤ e) → int_div_euclid a e ≤ℤ (int_div_euclid b e +ℤ pos 1)
floor_next a b e some h =
    let high = floor_high b e some in
    let two = mul_add e (int_div_euclid b e) (pos 2) in
    let twice : e *ℤ pos 2 ≡ e +ℤ e = omega (arith, ints) in
    let above = floor_above a e (int_div_euclid b e +ℤ pos 2) some (omega (arith, ints, high, h, two, twice)) in
    omega (arith, ints, above)

-- the columns of a line in rows from one on
column_up : (slope : RowSlope) (start : Point) (row : ℤ) → pos 1 ≤ℤ slope.divisor → pos 0 ≤ℤ slope.step → column_in slope start row ≤ℤ column_in slope start (row +ℤ pos 1)
column_up slope start row some up =
    let more = total_more slope start row in floor_order (total_of slope start row) (total_of slope start (row +ℤ pos 1)) slope.divisor some (omega (arith, ints, more, up))

column_down : (slope : RowSlope) (start : Point) (row : ℤ) → pos 1 ≤ℤ slope.divisor → slope.step ≤ℤ pos 0 → column_in slope start (row +ℤ pos 1) ≤ℤ column_in slope start row
column_down slope start row some down =
    let more = total_more slope start row in floor_order (total_of slope start (row +ℤ pos 1)) (total_of slope start row) slope.divisor some (omega (arith, ints, more, down))

-- of a steep line they are at most one apart
near_up : (slope : RowSlope) (start : Point) (row : ℤ) → pos 1 ≤ℤ slope.divisor → slope.step ≤ℤ slope.divisor → column_in slope start (row +ℤ pos 1) ≤ℤ (column_in slope start row +ℤ pos 1)
near_up slope start row some near =
    let more = total_more slope start row in floor_next (total_of slope start (row +ℤ pos 1)) (total_of slope start row) slope.divisor some (omega (arith, ints, more, near))

near_down : (slope : RowSlope) (start : Point) (row : ℤ) → pos 1 ≤ℤ slope.divisor → neg_ℤ slope.divisor ≤ℤ slope.step → column_in slope start row ≤ℤ (column_in slope start (row +ℤ pos 1) +ℤ pos 1)
near_down slope start row some near =
    let more = total_more slope start row in floor_next (total_of slope start row) (total_of slope start (row +ℤ pos 1)) slope.divisor some (omega (arith, ints, more, near))

-- u is one of its columns in one of the rows from `top` on, the n-th behind it the last
pub record HasColumnOf (y_major : Bool) (slope : RowSlope) (start : Point) (top u : ℤ) (n : ℕ) : Type 0 where
  pub after : ℕ
  pub within : after ≤ n
  pub has : HasColumn y_major slope start (top +ℤ pos after) u

abbrev lows : Bool → RowSlope → Point → ℤ → ℕ → ℤ
lows y_major slope start top k = low_of y_major (column_in slope start (top +ℤ pos k)) (column_in slope start (top +ℤ pos k +ℤ pos 1))

abbrev highs : Bool → RowSlope → Point → ℤ → ℕ → ℤ
highs y_major slope start top k = high_of y_major (column_in slope start (top +ℤ pos k)) (column_in slope start (top +ℤ pos k +ℤ pos 1))

next_row : (top : ℤ) (k : ℕ) → top +ℤ pos (suc k) ≡ top +ℤ pos k +ℤ pos 1
next_row top k = omega (arith, ints)

next_column : (slope : RowSlope) (start : Point) (top : ℤ) (k : ℕ) → column_in slope start (top +ℤ pos (suc k)) ≡ column_in slope start (top +ℤ pos k +ℤ pos 1)
next_column slope start top k = ap (λ (r : ℤ). column_in slope start r) (next_row top k)

as_one : (y_major : Bool) (slope : RowSlope) (start : Point) (top u : ℤ) (n : ℕ) → HasColumnOf y_major slope start top u n ↔ HasOne (lows y_major slope start top) (highs y_major slope start top) u n
as_one y_major slope start top u n = (
  λ h. record { at = h.after; within = h.within; low = h.has.low; high = h.has.high },
  λ h. record { after = h.at; within = h.within; has = record { low = h.low; high = h.high } },
)

-- intervals that are the same
same_one : (p q r s : ℕ → ℤ) (u : ℤ) (n : ℕ) → ((k : ℕ) → p k ≡ r k) → ((k : ℕ) → q k ≡ s k) → HasOne p q u n → HasOne r s u n
same_one p q r s u n e f h = record {
  at = h.at;
  within = h.within;
  low = subst (λ (v : ℤ). v ≤ℤ u) (e h.at) h.low;
  high = subst (λ (v : ℤ). u <ℤ v) (f h.at) h.high;
}

-- the lesser and the greater of the columns of the first and the last row
over_up : (y_major : Bool) (a b : ℤ) → a ≤ℤ b → (low_over a b ≡ a) × (high_over y_major a b ≡ (if y_major then b +ℤ pos 1 else b))
over_up true a b h = let test : int_le a b ≡ true = grind (arith, ints, h) in (rw test refl, rw test refl)
over_up false a b h = let test : int_le a b ≡ true = grind (arith, ints, h) in (rw test refl, rw test refl)

below : (y_major : Bool) (a b : ℤ) → int_le a b ≡ false → (low_over a b ≡ b) × (high_over y_major a b ≡ (if y_major then a +ℤ pos 1 else a))
below true a b test = (rw test refl, rw test refl)
below false a b test = (rw test refl, rw test refl)

equal : (y_major : Bool) (a b : ℤ) → a ≡ b → int_le a b ≡ true → (low_over a b ≡ b) × (high_over y_major a b ≡ (if y_major then a +ℤ pos 1 else a))
equal true a b same test = (rw test same, rw test (ap (λ (v : ℤ). v +ℤ pos 1) (sym same)))
equal false a b same test = (rw test same, rw test (sym same))

over_down : (y_major : Bool) (a b : ℤ) → b ≤ℤ a → (low_over a b ≡ b) × (high_over y_major a b ≡ (if y_major then a +ℤ pos 1 else a))
over_down y_major a b h =
    by_lt_z b a
    (λ (g : b <ℤ a). let test : int_le a b ≡ false = grind (arith, ints, g) in below y_major a b test)
    (λ (g : a ≤ℤ b). let same : a ≡ b = omega (arith, ints, g, h) in let test : int_le a b ≡ true = grind (arith, ints, g) in equal y_major a b same test)

abbrev pub here_at : RowSlope → Point → ℤ → ℕ → ℤ
here_at slope start top k = column_in slope start (top +ℤ pos k)

abbrev pub next_at : RowSlope → Point → ℤ → ℕ → ℤ
next_at slope start top k = column_in slope start (top +ℤ pos k +ℤ pos 1)

first_at : (slope : RowSlope) (start : Point) (top : ℤ) → here_at slope start top zero ≡ column_in slope start top
first_at slope start top = ap (λ (r : ℤ). column_in slope start r) (omega (arith, ints))

-- columns that don't fall from row to row, and columns that don't rise
here_up : (slope : RowSlope) (start : Point) (top : ℤ) → pos 1 ≤ℤ slope.divisor → pos 0 ≤ℤ slope.step → (k : ℕ) → here_at slope start top k ≤ℤ here_at slope start top (suc k)
here_up slope start top some up k = subst (λ (v : ℤ). here_at slope start top k ≤ℤ v) (sym (next_column slope start top k)) (column_up slope start (top +ℤ pos k) some up)

here_down : (slope : RowSlope) (start : Point) (top : ℤ) → pos 1 ≤ℤ slope.divisor → slope.step ≤ℤ pos 0 → (k : ℕ) → here_at slope start top (suc k) ≤ℤ here_at slope start top k
here_down slope start top some down k = subst (λ (v : ℤ). v ≤ℤ here_at slope start top k) (sym (next_column slope start top k)) (column_down slope start (top +ℤ pos k) some down)

next_up : (slope : RowSlope) (start : Point) (top : ℤ) → pos 1 ≤ℤ slope.divisor → pos 0 ≤ℤ slope.step → (k : ℕ) → next_at slope start top k ≤ℤ next_at slope start top (suc k)
next_up slope start top some up k =
    let e = next_column slope start top k in
    subst (λ (v : ℤ). v ≤ℤ next_at slope start top (suc k)) e (column_up slope start (top +ℤ pos (suc k)) some up)

next_down : (slope : RowSlope) (start : Point) (top : ℤ) → pos 1 ≤ℤ slope.divisor → slope.step ≤ℤ pos 0 → (k : ℕ) → next_at slope start top (suc k) ≤ℤ next_at slope start top k
next_down slope start top some down k =
    let e = next_column slope start top k in
    subst (λ (v : ℤ). next_at slope start top (suc k) ≤ℤ v) e (column_down slope start (top +ℤ pos (suc k)) some down)

-- a line that isn't steep
x_major_up : (slope : RowSlope) (start : Point) (top u : ℤ) (n : ℕ) → pos 1 ≤ℤ slope.divisor → pos 0 ≤ℤ slope.step →
    HasColumnOf false slope start top u n ↔ ((column_in slope start top ≤ℤ u) × (u <ℤ next_at slope start top n))
x_major_up slope start top u n some up =
    let one = as_one false slope start top u n in
    let low : (k : ℕ) → lows false slope start top k ≡ here_at slope start top k = λ k. (ends_up _ _ (column_up slope start (top +ℤ pos k) some up)).0 in
    let high : (k : ℕ) → highs false slope start top k ≡ next_at slope start top k = λ k. (ends_up _ _ (column_up slope start (top +ℤ pos k) some up)).1 in
    let union =
    union_up (here_at slope start top) (next_at slope start top) u n (here_up slope start top some up) (next_up slope start top some up)
    (λ k. let e = next_column slope start top k in omega (arith, ints, e)) in
    let first = first_at slope start top in (
      λ h. let ends = union.0 (same_one _ _ _ _ u n low high (one.0 h)) in let a = ends.0 in (omega (arith, ints, a, first), ends.1),
      λ h. let a = h.0 in one.1 (same_one _ _ _ _ u n (λ k. sym (low k)) (λ k. sym (high k)) (union.1 (omega (arith, ints, a, first), h.1))),
    )

x_major_down : (slope : RowSlope) (start : Point) (top u : ℤ) (n : ℕ) → pos 1 ≤ℤ slope.divisor → slope.step ≤ℤ pos 0 →
    HasColumnOf false slope start top u n ↔ ((next_at slope start top n ≤ℤ u) × (u <ℤ column_in slope start top))
x_major_down slope start top u n some down =
    let one = as_one false slope start top u n in
    let low : (k : ℕ) → lows false slope start top k ≡ next_at slope start top k = λ k. (ends_down _ _ (column_down slope start (top +ℤ pos k) some down)).0 in
    let high : (k : ℕ) → highs false slope start top k ≡ here_at slope start top k = λ k. (ends_down _ _ (column_down slope start (top +ℤ pos k) some down)).1 in
    let union =
    union_down (next_at slope start top) (here_at slope start top) u n (next_down slope start top some down) (here_down slope start top some down)
    (λ k. let e = next_column slope start top k in omega (arith, ints, e)) in
    let first = first_at slope start top in (
      λ h. let ends = union.0 (same_one _ _ _ _ u n low high (one.0 h)) in let a = ends.1 in (ends.0, omega (arith, ints, a, first)),
      λ h. let a = h.1 in one.1 (same_one _ _ _ _ u n (λ k. sym (low k)) (λ k. sym (high k)) (union.1 (h.0, omega (arith, ints, a, first)))),
    )

-- a steep one
abbrev after_at : RowSlope → Point → ℤ → ℕ → ℤ
after_at slope start top k = here_at slope start top k +ℤ pos 1

y_major_up : (slope : RowSlope) (start : Point) (top u : ℤ) (n : ℕ) → pos 1 ≤ℤ slope.divisor → pos 0 ≤ℤ slope.step → slope.step ≤ℤ slope.divisor →
    HasColumnOf true slope start top u n ↔ ((column_in slope start top ≤ℤ u) × (u <ℤ (here_at slope start top n +ℤ pos 1)))
y_major_up slope start top u n some up near =
    let one = as_one true slope start top u n in
    let union =
    union_up (here_at slope start top) (after_at slope start top) u n (here_up slope start top some up)
    (λ k. let h = here_up slope start top some up k in omega (arith, ints, h))
    (λ k. let e = next_column slope start top k in let h = near_up slope start (top +ℤ pos k) some near in omega (arith, ints, e, h)) in
    let first = first_at slope start top in (
      λ h. let ends = union.0 (same_one _ _ _ _ u n (λ k. refl) (λ k. refl) (one.0 h)) in let a = ends.0 in (omega (arith, ints, a, first), ends.1),
      λ h. let a = h.0 in one.1 (same_one _ _ _ _ u n (λ k. refl) (λ k. refl) (union.1 (omega (arith, ints, a, first), h.1))),
    )

y_major_down : (slope : RowSlope) (start : Point) (top u : ℤ) (n : ℕ) → pos 1 ≤ℤ slope.divisor → slope.step ≤ℤ pos 0 → neg_ℤ slope.divisor ≤ℤ slope.step →
    HasColumnOf true slope start top u n ↔ ((here_at slope start top n ≤ℤ u) × (u <ℤ (column_in slope start top +ℤ pos 1)))
y_major_down slope start top u n some down near =
    let one = as_one true slope start top u n in
    let union =
    union_down (here_at slope start top) (after_at slope start top) u n (here_down slope start top some down)
    (λ k. let h = here_down slope start top some down k in omega (arith, ints, h))
    (λ k. let e = next_column slope start top k in let h = near_down slope start (top +ℤ pos k) some near in omega (arith, ints, e, h)) in
    let first = first_at slope start top in (
      λ h. let ends = union.0 (same_one _ _ _ _ u n (λ k. refl) (λ k. refl) (one.0 h)) in let a = ends.1 in (ends.0, omega (arith, ints, a, first)),
      λ h. let a = h.1 in one.1 (same_one _ _ _ _ u n (λ k. refl) (λ k. refl) (union.1 (h.0, omega (arith, ints, a, first)))),
    )

-- Of any line, the columns of several rows lie between those of the first and of the last.
pub rows_union : (y_major : Bool) (slope : RowSlope) (start : Point) (top u : ℤ) (n : ℕ) → pos 1 ≤ℤ slope.divisor
    → (y_major ≡ true → (neg_ℤ slope.divisor ≤ℤ slope.step) × (slope.step ≤ℤ slope.divisor)) →
    HasColumnOf y_major slope start top u n ↔ ((low_over (column_in slope start top) (column_in slope start (last_in y_major top n)) ≤ℤ u)
    × (u <ℤ high_over y_major (column_in slope start top) (column_in slope start (last_in y_major top n))))
rows_union true slope start top u n some near =
    by_lt_z slope.step (pos 0)
    (λ (g : slope.step <ℤ pos 0).
    let down : slope.step ≤ℤ pos 0 = omega (arith, ints, g) in
    let order = falls (here_at slope start top) (here_down slope start top some down) zero n (omega arith) in
    let first = first_at slope start top in
    let ends = over_down true (column_in slope start top) (here_at slope start top n) (omega (arith, ints, order, first)) in
    rw (ends.0, ends.1) (y_major_down slope start top u n some down (near refl).0))
    (λ (up : pos 0 ≤ℤ slope.step).
    let order = rises (here_at slope start top) (here_up slope start top some up) zero n (omega arith) in
    let first = first_at slope start top in
    let ends = over_up true (column_in slope start top) (here_at slope start top n) (omega (arith, ints, order, first)) in
    rw (ends.0, ends.1) (y_major_up slope start top u n some up (near refl).1))
rows_union false slope start top u n some near =
    by_lt_z slope.step (pos 0)
    (λ (g : slope.step <ℤ pos 0).
    let down : slope.step ≤ℤ pos 0 = omega (arith, ints, g) in
    let order = falls (here_at slope start top) (here_down slope start top some down) zero n (omega arith) in
    let last = column_down slope start (top +ℤ pos n) some down in
    let first = first_at slope start top in
    let ends = over_down false (column_in slope start top) (next_at slope start top n) (omega (arith, ints, order, first, last)) in
    rw (ends.0, ends.1) (x_major_down slope start top u n some down))
    (λ (up : pos 0 ≤ℤ slope.step).
    let order = rises (here_at slope start top) (here_up slope start top some up) zero n (omega arith) in
    let last = column_up slope start (top +ℤ pos n) some up in
    let first = first_at slope start top in
    let ends = over_up false (column_in slope start top) (next_at slope start top n) (omega (arith, ints, order, first, last)) in
    rw (ends.0, ends.1) (x_major_up slope start top u n some up))
