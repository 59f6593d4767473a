-- The columns of a strip's row are the pixels of its line there.
use Rattle.std.proofs.Common.{◌≡◌, ℕ, ℤ, pos, negsuc, neg_ℤ, ◌+ℤ◌, ◌-ℤ◌, ◌*ℤ◌, ◌≤ℤ◌, ◌<ℤ◌, true, false, arith, refl, ap, sym, ◌∙◌}
use Rattle.std.specs.Prelude.{int_lt, int_le, ◌↔◌}
use Rattle.std.proofs.lemmas.Int.{ints, by_lt_z}
use Rattle.span_fill.specs.MajorLines.{rise_of}
use Rattle.span_fill.specs.RowSlopes.{turn_of}
use Rattle.span_fill.specs.WideEdges.{high_of, low_of}
use Rattle.span_fill.specs.Strokes.{far, is_towards}
use Rattle.span_fill.specs.declared.major_line.MajorLine.{MajorLine}
use Rattle.mapping.proofs.Products.{mul_add, mul_comm_ℤ, mul_neg, mul_one, mul_order, mul_order_back, mul_sub, neg_mul, twice_mul}
use Rattle.span_fill.proofs.StepLemmas.{IsNearest, by_towards, dividend, far_down, far_up}

-- a step's share of the rise is that of the coordinate that grows
flipped_up : (u0 v0 u1 v1 u : ℤ) → u0 <ℤ u1 → is_towards u0 u1 u ≡ true → pos (far u0 u) *ℤ (v1 -ℤ v0) ≡ (u -ℤ u0) *ℤ (v1 -ℤ v0)
flipped_up u0 v0 u1 v1 u up t =
    let there : pos (far u0 u) ≡ u -ℤ u0 = by_towards u0 u1 u t (λ h k. far_up u0 u h) (λ h k. absurd (omega (arith, ints, up, h, k))) in
    ap (λ n. n *ℤ (v1 -ℤ v0)) there

flipped_down : (u0 v0 u1 v1 u : ℤ) → u1 ≤ℤ u0 → is_towards u0 u1 u ≡ true → pos (far u0 u) *ℤ (v1 -ℤ v0) ≡ (u -ℤ u0) *ℤ neg_ℤ (v1 -ℤ v0)
flipped_down u0 v0 u1 v1 u down t =
    let there : pos (far u0 u) ≡ neg_ℤ (u -ℤ u0) = by_towards u0 u1 u t (λ h k. absurd (omega (arith, ints, down, h, k))) (λ h k. omega (arith, ints, far_down u0 u k)) in
    ap (λ n. n *ℤ (v1 -ℤ v0)) there ∙ neg_mul (u -ℤ u0) (v1 -ℤ v0) ∙ sym (mul_neg (u -ℤ u0) (v1 -ℤ v0))

pub flipped : (major : MajorLine) (u : ℤ) → is_towards major.from_u major.to_u u ≡ true → pos (far major.from_u u) *ℤ rise_of major ≡ (u -ℤ major.from_u) *ℤ turn_of major
flipped major u t =
    by_lt_z major.from_u major.to_u
    (λ up. let test : int_lt major.from_u major.to_u ≡ true = grind (arith, ints, up) in
    rw test (flipped_up major.from_u major.from_v major.to_u major.to_v u up t))
    (λ down. let test : int_lt major.from_u major.to_u ≡ false = grind (arith, ints, down) in
    rw test (flipped_down major.from_u major.from_v major.to_u major.to_v u down t))

-- a steep line: its column is the floor
pub y_major_column : (long turn u u0 v0 column rest : ℤ) →
    (pos 2 *ℤ turn) *ℤ (u -ℤ u0) +ℤ long +ℤ (pos 2 *ℤ long) *ℤ v0 ≡ (pos 2 *ℤ long) *ℤ column +ℤ rest →
    pos 2 *ℤ ((u -ℤ u0) *ℤ turn) +ℤ long ≡ pos 2 *ℤ (long *ℤ (column -ℤ v0)) +ℤ rest
y_major_column long turn u u0 v0 column rest e =
    omega (arith, ints, e, twice_mul turn (u -ℤ u0), twice_mul long v0, twice_mul long column, mul_sub long column v0, mul_comm_ℤ turn (u -ℤ u0))

-- a line that goes down to the right has reached a row from its column on
pub rising_column : (long turn u u0 b column rest : ℤ) → pos 1 ≤ℤ turn →
    (pos 2 *ℤ long) *ℤ b +ℤ (pos 2 *ℤ turn -ℤ pos 1 -ℤ long) +ℤ (pos 2 *ℤ turn) *ℤ u0 ≡ (pos 2 *ℤ turn) *ℤ column +ℤ rest →
    pos 0 ≤ℤ rest → rest <ℤ (pos 2 *ℤ turn) →
    ((pos 2 *ℤ (long *ℤ b)) ≤ℤ (pos 2 *ℤ ((u -ℤ u0) *ℤ turn) +ℤ long)) ↔ (column ≤ℤ u)
rising_column long turn u u0 b column rest some e low high =
    let divisor = pos 2 *ℤ turn in
    let times = twice_mul long b in
    let shift = twice_mul turn (u -ℤ u0) in
    let flipped = mul_comm_ℤ turn (u -ℤ u0) in
    let parted = mul_sub divisor u u0 in (
      λ h. mul_order_back divisor column u (omega (arith, ints, some)) (omega (arith, ints, h, e, low, high, times, shift, flipped, parted)),
      λ h. let grown = mul_order divisor column u (omega (arith, ints, some)) h in
          omega (arith, ints, grown, e, low, high, times, shift, flipped, parted),
    )

-- and one that goes up to the right is behind it before its column
pub falling_column : (long turn u u0 b column rest : ℤ) → turn ≤ℤ negsuc 0 →
    neg_ℤ (pos 2 *ℤ long) *ℤ b +ℤ (long -ℤ pos 2 *ℤ turn) +ℤ neg_ℤ (pos 2 *ℤ turn) *ℤ u0 ≡ neg_ℤ (pos 2 *ℤ turn) *ℤ column +ℤ rest →
    pos 0 ≤ℤ rest → rest <ℤ neg_ℤ (pos 2 *ℤ turn) →
    ((pos 2 *ℤ (long *ℤ b)) ≤ℤ (pos 2 *ℤ ((u -ℤ u0) *ℤ turn) +ℤ long)) ↔ (u <ℤ column)
falling_column long turn u u0 b column rest some e low high =
    let divisor = neg_ℤ (pos 2 *ℤ turn) in
    let times = twice_mul long b in
    let signs = neg_mul (pos 2 *ℤ long) b in
    let shift = twice_mul turn (u -ℤ u0) in
    let shift_sign = neg_mul (pos 2 *ℤ turn) (u -ℤ u0) in
    let flipped = mul_comm_ℤ turn (u -ℤ u0) in
    let parted = mul_sub divisor u u0 in
    let next = mul_add divisor u (pos 1) in
    let once = mul_one divisor in (
      λ h. let back = mul_order_back divisor (u +ℤ pos 1) column (omega (arith, ints, some)) (omega (arith, ints, h, e, low, high, times, signs, shift, shift_sign, flipped, parted, next, once)) in
          omega (arith, ints, back),
      λ h. let grown = mul_order divisor (u +ℤ pos 1) column (omega (arith, ints, some)) (omega (arith, ints, h)) in
          omega (arith, ints, grown, e, low, high, times, signs, shift, shift_sign, flipped, parted, next, once),
    )

-- the lesser and the greater of two columns
pub ends_up : (column next : ℤ) → column ≤ℤ next → (low_of false column next ≡ column) × (high_of false column next ≡ next)
ends_up column next h = let test : int_le column next ≡ true = grind (arith, ints, h) in (rw test refl, rw test refl)

pub ends_down : (column next : ℤ) → next ≤ℤ column → (low_of false column next ≡ next) × (high_of false column next ≡ column)
ends_down column next h =
    by_lt_z next column
    (λ g. let test : int_le column next ≡ false = grind (arith, ints, g) in (rw test refl, rw test refl))
    (λ g. let test : int_le column next ≡ true = grind (arith, ints, g) in
    let same : column ≡ next = omega (arith, ints, g, h) in
    (rw test same, rw test (sym same)))

-- two bounds of a coordinate, as those of a place
near_between : (long : ℕ) (short : ℤ) (k : ℕ) (value b : ℤ) → dividend long short k ≡ value →
    IsNearest long short k b ↔ (((pos 2 *ℤ (pos long *ℤ b)) ≤ℤ value) × (value <ℤ (pos 2 *ℤ (pos long *ℤ (b +ℤ pos 1)))))
near_between long short k value b e =
    let next = mul_add (pos long) b (pos 1) in
    let once = mul_one (pos long) in (
      λ h. let low = h.low in let high = h.high in (omega (arith, ints, low, e), omega (arith, ints, high, e, next, once)),
      λ h. let low = h.0 in let high = h.1 in record { low = omega (arith, ints, low, e); high = omega (arith, ints, high, e, next, once) },
    )

pub rising_near : (long : ℕ) (short : ℤ) (k : ℕ) (turn u u0 b column rest next left : ℤ) → pos 1 ≤ℤ turn → pos k *ℤ short ≡ (u -ℤ u0) *ℤ turn →
    (pos 2 *ℤ pos long) *ℤ b +ℤ (pos 2 *ℤ turn -ℤ pos 1 -ℤ pos long) +ℤ (pos 2 *ℤ turn) *ℤ u0 ≡ (pos 2 *ℤ turn) *ℤ column +ℤ rest →
    pos 0 ≤ℤ rest → rest <ℤ (pos 2 *ℤ turn) →
    (pos 2 *ℤ pos long) *ℤ b +ℤ (pos 2 *ℤ turn -ℤ pos 1 -ℤ pos long) +ℤ (pos 2 *ℤ turn) *ℤ u0 +ℤ pos 2 *ℤ pos long ≡ (pos 2 *ℤ turn) *ℤ next +ℤ left →
    pos 0 ≤ℤ left → left <ℤ (pos 2 *ℤ turn) →
    IsNearest long short k b ↔ ((low_of false column next ≤ℤ u) × (u <ℤ high_of false column next))
rising_near long short k turn u u0 b column rest next left some same here low high there left_low left_high =
    let value = pos 2 *ℤ ((u -ℤ u0) *ℤ turn) +ℤ pos long in
    let near = near_between long short k value b (omega (arith, ints, same)) in
    let more = mul_add (pos 2 *ℤ pos long) b (pos 1) in
    let once = mul_one (pos 2 *ℤ pos long) in
    let first = rising_column (pos long) turn u u0 b column rest some here low high in
    let second = rising_column (pos long) turn u u0 (b +ℤ pos 1) next left some (omega (arith, ints, there, more, once)) left_low left_high in
    let order : column ≤ℤ next = mul_order_back (pos 2 *ℤ turn) column next (omega (arith, ints, some)) (omega (arith, ints, here, there, low, left_high)) in
    let ends = ends_up column next order in
    rw (ends.0, ends.1) (
      (λ h. let parts = near.0 h in (
        first.0 parts.0,
        by_lt_z u next (λ (g : u <ℤ next). g) (λ (g : next ≤ℤ u). let over = second.1 g in absurd (omega (arith, ints, over, parts.1))),
      )),
      (λ h. near.1 (
        first.1 h.0,
        by_lt_z value (pos 2 *ℤ (pos long *ℤ (b +ℤ pos 1)))
            (λ (g : value <ℤ (pos 2 *ℤ (pos long *ℤ (b +ℤ pos 1)))). g)
            (λ (g : (pos 2 *ℤ (pos long *ℤ (b +ℤ pos 1))) ≤ℤ value). let over = second.0 g in absurd (omega (arith, ints, over, h.1))),
      )),
    )

pub falling_near : (long : ℕ) (short : ℤ) (k : ℕ) (turn u u0 b column rest next left : ℤ) → turn ≤ℤ negsuc 0 → pos k *ℤ short ≡ (u -ℤ u0) *ℤ turn →
    neg_ℤ (pos 2 *ℤ pos long) *ℤ b +ℤ (pos long -ℤ pos 2 *ℤ turn) +ℤ neg_ℤ (pos 2 *ℤ turn) *ℤ u0 ≡ neg_ℤ (pos 2 *ℤ turn) *ℤ column +ℤ rest →
    pos 0 ≤ℤ rest → rest <ℤ neg_ℤ (pos 2 *ℤ turn) →
    neg_ℤ (pos 2 *ℤ pos long) *ℤ b +ℤ (pos long -ℤ pos 2 *ℤ turn) +ℤ neg_ℤ (pos 2 *ℤ turn) *ℤ u0 +ℤ neg_ℤ (pos 2 *ℤ pos long) ≡ neg_ℤ (pos 2 *ℤ turn) *ℤ next +ℤ left →
    pos 0 ≤ℤ left → left <ℤ neg_ℤ (pos 2 *ℤ turn) →
    IsNearest long short k b ↔ ((low_of false column next ≤ℤ u) × (u <ℤ high_of false column next))
falling_near long short k turn u u0 b column rest next left some same here low high there left_low left_high =
    let value = pos 2 *ℤ ((u -ℤ u0) *ℤ turn) +ℤ pos long in
    let near = near_between long short k value b (omega (arith, ints, same)) in
    let more = mul_add (neg_ℤ (pos 2 *ℤ pos long)) b (pos 1) in
    let once = mul_one (neg_ℤ (pos 2 *ℤ pos long)) in
    let first = falling_column (pos long) turn u u0 b column rest some here low high in
    let second = falling_column (pos long) turn u u0 (b +ℤ pos 1) next left some (omega (arith, ints, there, more, once)) left_low left_high in
    let order : next ≤ℤ column = mul_order_back (neg_ℤ (pos 2 *ℤ turn)) next column (omega (arith, ints, some)) (omega (arith, ints, here, there, high, left_low)) in
    let ends = ends_down column next order in
    rw (ends.0, ends.1) (
      (λ h. let parts = near.0 h in (
        by_lt_z u next (λ (g : u <ℤ next). let over = second.1 g in absurd (omega (arith, ints, over, parts.1))) (λ (g : next ≤ℤ u). g),
        first.0 parts.0,
      )),
      (λ h. near.1 (
        first.1 h.1,
        by_lt_z value (pos 2 *ℤ (pos long *ℤ (b +ℤ pos 1)))
            (λ (g : value <ℤ (pos 2 *ℤ (pos long *ℤ (b +ℤ pos 1)))). g)
            (λ (g : (pos 2 *ℤ (pos long *ℤ (b +ℤ pos 1))) ≤ℤ value). let over = second.0 g in absurd (omega (arith, ints, over, h.0))),
      )),
    )
