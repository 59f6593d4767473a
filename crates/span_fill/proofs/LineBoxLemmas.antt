-- The pixels of lines lie in each box that has the lines.
use Rattle.std.proofs.Common.{◌≡◌, ℕ, ◌+◌, ◌*◌, ◌%◌, ℤ, pos, ◌+ℤ◌, ◌-ℤ◌, ◌*ℤ◌, ◌≤ℤ◌, ◌<ℤ◌, true, false, ◌==◌, not, int_le, int_lt, List, [], ◌∷◌, inl, inr, refl, ap, ◌∙◌, sym, arith}
use Rattle.std.specs.List.{All}
use Rattle.std.proofs.lemmas.Bool.{and_parts, and_from, eq-eqb, eqb-true, false_from_ne_true, true≢false}
use Rattle.std.proofs.lemmas.Int.{ints, by_lt_z}
use Rattle.std.proofs.lemmas.List.Elements.{All-head, All-tail, All-weaker}
use Rattle.mapping.specs.declared.geometry.Point.{Point}
use Rattle.mapping.specs.declared.geometry.Rect.{Rect}
use Rattle.span_fill.specs.Fill.{crossed_downwards, crossed_upwards, crossing_dividend, down, has_row, in_fill, is_crossed, is_inside}
use Rattle.span_fill.specs.Strokes.{in_stroke, is_y_major, on_line}
use Rattle.span_fill.specs.declared.fill_rule.FillRule.{FillRule}
use Rattle.span_fill.specs.declared.fill_rule.FillRule.TheVariants.{EvenOdd, NonZero}
use Rattle.span_fill.specs.declared.line.Line.{Line}
use Rattle.span_fill.proofs.HullLemmas.{LiesFromTo, along_lies, towards_lies}
use Rattle.span_fill.specs.RowLaws.{LiesBetween}
use Rattle.span_fill.proofs.RowLawLemmas.{row_law}
use Rattle.span_fill.proofs.LineLaw.{by_axis, on_x_major, on_y_major}
use Rattle.mapping.proofs.Products.{mul_add, mul_comm_ℤ, mul_one, mul_order, mul_sub, mul_twice, sub_mul, twice_mul}
use Rattle.span_fill.proofs.StepLemmas.{along_parts}
use Rattle.mapping.specs.Boxes.{HasPoint}
use Rattle.mapping.specs.PixelBoxes.{BoxHasPixel}
use Rattle.mapping.specs.TestLaws.{int_le-from, int_le-true, int_lt-true, by_either, by_test}
use Rattle.span_fill.specs.LineBoxes.{HasLine, IsBalanced, LineBoxLaws, met_downwards, met_upwards}

in_columns : (box : Rect) (point : Point) → HasPoint box point → LiesFromTo box.l box.r point.x
in_columns box point h = record { least = h.left; most = h.right }

in_rows : (box : Rect) (point : Point) → HasPoint box point → LiesFromTo box.t box.b point.y
in_rows box point h = record { least = h.top; most = h.bottom }

-- a pixel of a line
pub on_line_has : (box : Rect) (line : Line) (x y : ℤ) → HasLine box line → on_line line x y ≡ true → HasPoint box (record { x = x; y = y })
on_line_has box line x y h t =
    by_axis line
    (λ (e : is_y_major line ≡ true).
    let on = sym (on_y_major line x y e) ∙ t in
    let towards = (along_parts line.from.y line.from.x line.to.y line.to.x y x on).0 in
    let row = towards_lies box.t box.b line.from.y line.to.y y (in_rows box line.from h.from) (in_rows box line.to h.to) towards in
    let column = along_lies box.l box.r line.from.y line.from.x line.to.y line.to.x y x (in_columns box line.from h.from) (in_columns box line.to h.to) on in
    record { left = column.least; top = row.least; right = column.most; bottom = row.most })
    (λ (e : is_y_major line ≡ false).
    let on = sym (on_x_major line x y e) ∙ t in
    let towards = (along_parts line.from.x line.from.y line.to.x line.to.y x y on).0 in
    let column = towards_lies box.l box.r line.from.x line.to.x x (in_columns box line.from h.from) (in_columns box line.to h.to) towards in
    let row = along_lies box.t box.b line.from.x line.from.y line.to.x line.to.y x y (in_rows box line.from h.from) (in_rows box line.to h.to) on in
    record { left = column.least; top = row.least; right = column.most; bottom = row.most })

stroke_lies : (box : Rect) (lines : List Line) (x y : ℕ) → All (HasLine box) lines → in_stroke lines x y ≡ true → BoxHasPixel box x y
stroke_lies box [] x y all t = absurd (true≢false (sym t))
stroke_lies box (line ∷ lines) x y all t =
    by_either (on_line line (pos x) (pos y)) (in_stroke lines x y) t
    (λ (here : on_line line (pos x) (pos y) ≡ true). on_line_has box line (pos x) (pos y) (All-head (HasLine box) line lines all) here)
    (λ (there : in_stroke lines x y ≡ true). stroke_lies box lines x y (All-tail (HasLine box) line lines all) there)

-- the middle of a row, seen from a line's ends
abbrev below_upper : Point → ℕ → ℤ
below_upper upper y = pos (2 * y + 1) -ℤ pos 2 *ℤ upper.y

abbrev above_lower : Point → Point → ℕ → ℤ
above_lower upper lower y = pos 2 *ℤ down upper lower -ℤ below_upper upper y

-- a crossing lies between the ends: it is so much of the one and so much of the other
crossing_is : (upper lower : Point) (y : ℕ) → crossing_dividend upper lower y ≡ above_lower upper lower y *ℤ upper.x +ℤ below_upper upper y *ℤ lower.x
crossing_is upper lower y =
    let a = mul_sub (below_upper upper y) lower.x upper.x in
    let b = sub_mul (pos 2 *ℤ down upper lower) (below_upper upper y) upper.x in omega (arith, ints, a, b)

record MeetsRow (upper lower : Point) (y : ℕ) : Type 0 where
  high : pos 1 ≤ℤ down upper lower
  over : pos 0 ≤ℤ below_upper upper y
  under : pos 0 ≤ℤ above_lower upper lower y

meets_row : (upper lower : Point) (y : ℕ) → has_row upper lower y ≡ true → MeetsRow upper lower y
meets_row upper lower y t =
    let parts = and_parts (int_le upper.y (pos y)) (int_lt (pos y) lower.y) t in
    let a = int_le-true upper.y (pos y) parts.0 in
    let b = int_lt-true (pos y) lower.y parts.1 in
    record { high = omega (arith, ints, a, b); over = omega (arith, ints, a, b); under = omega (arith, ints, a, b) }

-- so it isn't before a column where neither end is, nor behind one
crossing_from : (upper lower : Point) (y : ℕ) (low : ℤ) → MeetsRow upper lower y → low ≤ℤ upper.x → low ≤ℤ lower.x →
    ((pos 2 *ℤ down upper lower) *ℤ low) ≤ℤ crossing_dividend upper lower y
crossing_from upper lower y low meets a b =
    let first = mul_order (above_lower upper lower y) low upper.x meets.under a in
    let second = mul_order (below_upper upper y) low lower.x meets.over b in
    let whole = sub_mul (pos 2 *ℤ down upper lower) (below_upper upper y) low in
    let is = crossing_is upper lower y in omega (arith, ints, first, second, whole, is)

crossing_to : (upper lower : Point) (y : ℕ) (high : ℤ) → MeetsRow upper lower y → upper.x ≤ℤ high → lower.x ≤ℤ high →
    crossing_dividend upper lower y ≤ℤ ((pos 2 *ℤ down upper lower) *ℤ high)
crossing_to upper lower y high meets a b =
    let first = mul_order (above_lower upper lower y) upper.x high meets.under a in
    let second = mul_order (below_upper upper y) lower.x high meets.over b in
    let whole = sub_mul (pos 2 *ℤ down upper lower) (below_upper upper y) high in
    let is = crossing_is upper lower y in omega (arith, ints, first, second, whole, is)

-- the middle of a column, multiplied
middle_is : (d : ℤ) (x : ℕ) → pos (2 * x + 1) *ℤ d ≡ pos 2 *ℤ (d *ℤ pos x) +ℤ d
middle_is d x =
    let e : pos (2 * x + 1) ≡ pos 2 *ℤ pos x +ℤ pos 1 = omega (arith, ints) in
    mul_comm_ℤ (pos (2 * x + 1)) d ∙ ap (λ (n : ℤ). d *ℤ n) e ∙ mul_add d (pos 2 *ℤ pos x) (pos 1)
    ∙ (let a = mul_twice d (pos x) in let b = mul_one d in omega (arith, ints, a, b))

-- a pixel to the left of both ends isn't crossed
left_not_crossed : (upper lower : Point) (x y : ℕ) (low : ℤ) → low ≤ℤ upper.x → low ≤ℤ lower.x → pos x <ℤ low → is_crossed upper lower x y ≡ false
left_not_crossed upper lower x y low a b left =
    false_from_ne_true (is_crossed upper lower x y)
    (λ t.
    let parts = and_parts (has_row upper lower y) (int_le (crossing_dividend upper lower y) (pos (2 * x + 1) *ℤ down upper lower)) t in
    let meets = meets_row upper lower y parts.0 in
    let crossed = int_le-true (crossing_dividend upper lower y) (pos (2 * x + 1) *ℤ down upper lower) parts.1 in
    let least = crossing_from upper lower y low meets a b in
    let high = meets.high in
    let next = mul_order (pos 2 *ℤ down upper lower) (pos x +ℤ pos 1) low (omega (arith, ints, high)) (omega (arith, ints, left)) in
    let twice = twice_mul (down upper lower) (pos x +ℤ pos 1) in
    let more = mul_add (down upper lower) (pos x) (pos 1) in
    let once = mul_one (down upper lower) in
    let middle = middle_is (down upper lower) x in
    omega (arith, ints, crossed, least, next, twice, more, once, middle, high))

-- and one to the right of both is, where the line meets the row at all
right_crossed : (upper lower : Point) (x y : ℕ) (high : ℤ) → upper.x ≤ℤ high → lower.x ≤ℤ high → high <ℤ pos x → is_crossed upper lower x y ≡ has_row upper lower y
right_crossed upper lower x y high a b right =
    by_test (has_row upper lower y)
    (λ (t : has_row upper lower y ≡ true).
    let meets = meets_row upper lower y t in
    let most = crossing_to upper lower y high meets a b in
    let some = meets.high in
    let next = mul_order (pos 2 *ℤ down upper lower) high (pos x) (omega (arith, ints, some)) (omega (arith, ints, right)) in
    let twice = twice_mul (down upper lower) (pos x) in
    let middle = middle_is (down upper lower) x in
    and_from (has_row upper lower y) (int_le (crossing_dividend upper lower y) (pos (2 * x + 1) *ℤ down upper lower)) t
    (int_le-from (crossing_dividend upper lower y) (pos (2 * x + 1) *ℤ down upper lower) (omega (arith, ints, most, next, twice, middle, some)))
    ∙ sym t)
    (λ (f : has_row upper lower y ≡ false). rw f refl)

-- so to the left of a box none of its lines is counted
module _ (box : Rect) (x y : ℕ) (left : pos x <ℤ box.l) where
  left_down : (lines : List Line) → All (HasLine box) lines → crossed_downwards lines x y ≡ 0
  left_down [] all = refl
  left_down (line ∷ lines) all =
      let h = All-head (HasLine box) line lines all in
      let rest = left_down lines (All-tail (HasLine box) line lines all) in
      rw (left_not_crossed line.from line.to x y box.l h.from.left h.to.left left) (omega (arith, rest))

  left_up : (lines : List Line) → All (HasLine box) lines → crossed_upwards lines x y ≡ 0
  left_up [] all = refl
  left_up (line ∷ lines) all =
      let h = All-head (HasLine box) line lines all in
      let rest = left_up lines (All-tail (HasLine box) line lines all) in
      rw (left_not_crossed line.to line.from x y box.l h.to.left h.from.left left) (omega (arith, rest))

-- and to its right each that meets the row is
module _ (box : Rect) (x y : ℕ) (right : box.r <ℤ pos x) where
  right_down : (lines : List Line) → All (HasLine box) lines → crossed_downwards lines x y ≡ met_downwards lines y
  right_down [] all = refl
  right_down (line ∷ lines) all =
      let h = All-head (HasLine box) line lines all in
      let rest = right_down lines (All-tail (HasLine box) line lines all) in
      rw (right_crossed line.from line.to x y box.r h.from.right h.to.right right, rest) refl

  right_up : (lines : List Line) → All (HasLine box) lines → crossed_upwards lines x y ≡ met_upwards lines y
  right_up [] all = refl
  right_up (line ∷ lines) all =
      let h = All-head (HasLine box) line lines all in
      let rest = right_up lines (All-tail (HasLine box) line lines all) in
      rw (right_crossed line.to line.from x y box.r h.to.right h.from.right right, rest) refl

-- as many downwards as upwards is no inside
even_not : (n : ℕ) → ((n + n) % 2 == 1) ≡ false
even_not n = false_from_ne_true _ (λ t. let e = eqb-true _ _ t in omega arith)

same_not : (n : ℕ) → not (n == n) ≡ false
same_not n = rw (eq-eqb n n refl) refl

not_inside : (rule : FillRule) (n : ℕ) → is_inside rule n n ≡ false
not_inside EvenOdd n = even_not n
not_inside NonZero n = same_not n

not_inside_of : (rule : FillRule) (m n : ℕ) → m ≡ n → is_inside rule m n ≡ true → ⊥
not_inside_of rule m n e t = true≢false (sym t ∙ ap (λ (k : ℕ). is_inside rule k n) e ∙ not_inside rule n)

-- the rows of a box
row_low : (rule : FillRule) (box : Rect) (lines : List Line) (x y : ℕ) → All (HasLine box) lines → in_fill rule lines x y ≡ true → (box.t ≤ℤ pos y) × (pos y ≤ℤ box.b)
row_low rule box lines x y all t =
    let within = All-weaker (HasLine box) (LiesBetween box.t box.b) (λ line h. record { from_first = h.from.top; from_last = h.from.bottom; to_first = h.to.top; to_last = h.to.bottom }) lines all in (
      by_lt_z (pos y) box.t
          (λ (g : pos y <ℤ box.t). absurd (true≢false (sym t ∙ row_law.fill rule lines box.t box.b x y within (inl g))))
          (λ (g : box.t ≤ℤ pos y). g),
      by_lt_z box.b (pos y)
          (λ (g : box.b <ℤ pos y). absurd (true≢false (sym t ∙ row_law.fill rule lines box.t box.b x y within (inr g))))
          (λ (g : pos y ≤ℤ box.b). g),
    )

fill_lies : (rule : FillRule) (box : Rect) (lines : List Line) (x y : ℕ) → IsBalanced lines → All (HasLine box) lines → in_fill rule lines x y ≡ true → BoxHasPixel box x y
fill_lies rule box lines x y balanced all t =
    let rows = row_low rule box lines x y all t in
    record {
      left = by_lt_z (pos x) box.l
          (λ (g : pos x <ℤ box.l). absurd (not_inside_of rule _ _ (left_down box x y g lines all ∙ sym (left_up box x y g lines all)) t))
          (λ (g : box.l ≤ℤ pos x). g);
      top = rows.0;
      right = by_lt_z box.r (pos x)
          (λ (g : box.r <ℤ pos x). absurd (not_inside_of rule _ _ (right_down box x y g lines all ∙ balanced y ∙ sym (right_up box x y g lines all)) t))
          (λ (g : pos x ≤ℤ box.r). g);
      bottom = rows.1;
    }

pub line_box_laws : LineBoxLaws
line_box_laws = record { stroke = stroke_lies; fill = fill_lies }
