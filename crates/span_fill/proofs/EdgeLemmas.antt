-- Where an edge crosses a row: bounds of its numbers, the step to the next row, and the columns behind it.
use Rattle.std.proofs.Common.{FitsSigned, w64, ◌≡◌, inl, inr, if◌then◌else◌, ℕ, suc, ◌+◌, ◌*◌, ◌^◌, ◌<◌, ◌≤◌, ℤ, pos, negsuc, neg_ℤ, ◌+ℤ◌, ◌-ℤ◌, ◌*ℤ◌, ◌≤ℤ◌, ◌<ℤ◌, int_le, nat_le, refl, sym, ap, ◌∙◌, lit≤, arith}
use Rattle.std.specs.Int.{int_div_euclid}
use Rattle.std.proofs.lemmas.Int.{ints}
use Rattle.std.proofs.lemmas.Bool.{cases_Bool}
use Rattle.std.proofs.lemmas.Bool.Decides.{nat_tests}
use Rattle.mapping.specs.declared.geometry.Point.{Point}
use Rattle.std.proofs.Math.Nat.{mul-le-mul}
use Rattle.mapping.specs.Floor.{floor_div}
use Rattle.mapping.specs.Limits.{IsWithin, place_limit}
use Rattle.mapping.specs.TestLaws.{int_le-false, int_le-from, int_le-true, same_test}
use Rattle.span_fill.specs.Edges.{EdgeCanMove, IsEdge, active_at, active_with, column_dividend, column_of, near_column, moved, moved_rest, remainder_of}
use Rattle.span_fill.specs.Fill.{across, crossing_dividend, crossing_divisor, down}
use Rattle.span_fill.specs.Lines.{IsNear}
use Rattle.span_fill.specs.declared.edge.Edge.{Edge}
use Rattle.span_fill.proofs.FloorLemmas.{floor_above, floor_high, floor_least, floor_low, floor_one}
use Rattle.mapping.proofs.Products.{add_mul, mul_comm_ℤ, mul_neg, mul_order, mul_order_back, mul_twice, order_mul, twice_mul}

-- what a near coordinate is, in numbers
pub near_within : (v : ℤ) → IsNear v → IsWithin (2 ^ 28 + 1) v
unfolding place_limit
near_within v h = let low = h.low in let high = h.high in record { low = omega (arith, ints, low); high = omega (arith, ints, high) }

-- a number within such bounds fits 64 bits
pub within_fits : (n : ℕ) (v : ℤ) → n < 2 ^ 63 → IsWithin n v → FitsSigned w64 v
within_fits n (pos v) h k = let high = k.high in record { sfits = omega (arith, ints, high) }
within_fits n (negsuc v) h k = let low = k.low in record { sfits = omega (arith, ints, low) }

-- wider bounds
pub within_wider : (m n : ℕ) (v : ℤ) → m ≤ n → IsWithin m v → IsWithin n v
within_wider m n v h k = let low = k.low in let high = k.high in record { low = omega (arith, ints, low); high = omega (arith, ints, high) }

-- a product of numbers within bounds
pub product_within : (m n : ℕ) (a b : ℤ) → IsWithin m a → IsWithin n b → IsWithin (m * n) (a *ℤ b)
product_within m n (pos a) (pos b) h k =
    let x : a ≤ m = omega (arith, ints, h.high) in let y : b ≤ n = omega (arith, ints, k.high) in
    let e : a * b ≤ m * n = mul-le-mul x y in record { low = omega (arith, ints, e); high = omega (arith, ints, e) }
product_within m n (pos a) (negsuc b) h k =
    let x : a ≤ m = omega (arith, ints, h.high) in let y : suc b ≤ n = omega (arith, ints, k.low) in
    let e : a * suc b ≤ m * n = mul-le-mul x y in record { low = omega (arith, ints, e); high = omega (arith, ints, e) }
product_within m n (negsuc a) (pos b) h k =
    let x : suc a ≤ m = omega (arith, ints, h.low) in let y : b ≤ n = omega (arith, ints, k.high) in
    let e : suc a * b ≤ m * n = mul-le-mul x y in record { low = omega (arith, ints, e); high = omega (arith, ints, e) }
product_within m n (negsuc a) (negsuc b) h k =
    let x : suc a ≤ m = omega (arith, ints, h.low) in let y : suc b ≤ n = omega (arith, ints, k.low) in
    let e : suc a * suc b ≤ m * n = mul-le-mul x y in record { low = omega (arith, ints, e); high = omega (arith, ints, e) }

-- the floor over a divisor above 0 is what Euclidean division gives
pub floor_positive : (a e : ℤ) → pos 1 ≤ℤ e → floor_div a e ≡ int_div_euclid a e
floor_positive a (pos e) h = refl
floor_positive a (negsuc e) h = absurd (omega (arith, ints, h))

-- a floor is as near to 0 as its dividend
pub floor_within : (n : ℕ) (a e : ℤ) → pos 1 ≤ℤ e → IsWithin n a → IsWithin n (floor_div a e)
floor_within n a e h k =
    let is = floor_positive a e h in
    let low = k.low in let high = k.high in
    let down = mul_order (pos n) (pos 1) e (omega (arith, ints)) h in
    let up = mul_order (pos (suc n)) (pos 1) e (omega (arith, ints)) h in
    let down_is = mul_comm_ℤ (pos n) e in
    let up_is = mul_comm_ℤ (pos (suc n)) e in
    let negative = mul_neg e (pos n) in
    let least = floor_least a e (neg_ℤ (pos n)) h (omega (arith, ints, low, down, down_is, negative)) in
    let most = floor_above a e (pos (suc n)) h (omega (arith, ints, high, up, up_is)) in
    record { low = omega (arith, ints, is, least); high = omega (arith, ints, is, most) }

-- what is left is from 0 up to before the divisor
pub rest_bounds : (a e : ℤ) → pos 1 ≤ℤ e → (pos 0 ≤ℤ remainder_of a e) × (remainder_of a e <ℤ e)
rest_bounds a e h =
    let is = ap (λ q. q *ℤ e) (floor_positive a e h) in
    let flipped = mul_comm_ℤ (int_div_euclid a e) e in
    let low = floor_low a e h in
    let high = floor_high a e h in
    (omega (arith, ints, is, flipped, low), omega (arith, ints, is, flipped, high))

-- the floor and the rest are the only such numbers
pub floor_and_rest : (a e q r : ℤ) → pos 1 ≤ℤ e → a ≡ q *ℤ e +ℤ r → pos 0 ≤ℤ r → r <ℤ e → (floor_div a e ≡ q) × (remainder_of a e ≡ r)
floor_and_rest a e q r h is low high =
    let flipped = mul_comm_ℤ q e in
    let floor : floor_div a e ≡ q = floor_positive a e h ∙ floor_one a e q h (omega (arith, ints, is, flipped, low)) (omega (arith, ints, is, flipped, high)) in
    let times = ap (λ n. n *ℤ e) floor in
    (floor, omega (arith, ints, times, is))

-- the numbers of an edge where it crosses a row, one row on
dividend_moves : (upper lower : Point) (y : ℕ) → crossing_dividend upper lower (suc y) ≡ crossing_dividend upper lower y +ℤ pos 2 *ℤ across upper lower
dividend_moves upper lower y =
    let rows : pos (2 * suc y + 1) -ℤ pos 2 *ℤ upper.y ≡ (pos (2 * y + 1) -ℤ pos 2 *ℤ upper.y) +ℤ pos 2 = omega (arith, ints) in
    let e = ap (λ n. n *ℤ across upper lower) rows ∙ add_mul (pos (2 * y + 1) -ℤ pos 2 *ℤ upper.y) (pos 2) (across upper lower) in
    omega (arith, ints, e)

column_moves : (upper lower : Point) (y : ℕ) → column_dividend upper lower (suc y) ≡ column_dividend upper lower y +ℤ pos 2 *ℤ across upper lower
column_moves upper lower y = let e = dividend_moves upper lower y in omega (arith, ints, e)

-- the divisor is above 0
divisor_low : (edge : Edge) → IsEdge edge → pos 1 ≤ℤ crossing_divisor edge.upper edge.lower
divisor_low edge h = let order = h.order in omega (arith, ints, order)

-- a sum of fractions by one divisor, with a carry or without
carried : (a b e q r s m : ℤ) → pos 1 ≤ℤ e → a ≡ q *ℤ e +ℤ r → b ≡ s *ℤ e +ℤ m → pos 0 ≤ℤ r → r <ℤ e → pos 0 ≤ℤ m → m <ℤ e → (floor_div (a +ℤ b) e ≡ q +ℤ s +ℤ (if int_le e (r +ℤ m) then pos 1 else pos 0)) × (remainder_of (a +ℤ b) e ≡ r +ℤ m -ℤ (if int_le e (r +ℤ m) then e else pos 0))
carried a b e q r s m h a_is b_is r_low r_high m_low m_high =
    let sum = add_mul q s e in
    elim (cases_Bool (int_le e (r +ℤ m))) [
      | inl t ↦ let over : e ≤ℤ (r +ℤ m) = int_le-true e (r +ℤ m) t in
          let once : pos 1 *ℤ e ≡ e = omega (arith, ints) in
          let more = add_mul (q +ℤ s) (pos 1) e in
          rw t (floor_and_rest (a +ℤ b) e (q +ℤ s +ℤ pos 1) (r +ℤ m -ℤ e) h (omega (arith, ints, a_is, b_is, sum, more, once)) (omega (arith, ints, over)) (omega (arith, ints, r_high, m_high)))
      | inr f ↦ let under : (r +ℤ m) <ℤ e = int_le-false e (r +ℤ m) f in
          let none : q +ℤ s +ℤ pos 0 ≡ q +ℤ s = omega (arith, ints) in
          let rest : r +ℤ m -ℤ pos 0 ≡ r +ℤ m = omega (arith, ints) in
          rw (f, none, rest) (floor_and_rest (a +ℤ b) e (q +ℤ s) (r +ℤ m) h (omega (arith, ints, a_is, b_is, sum)) (omega (arith, ints, r_low, m_low)) under)
    ]

-- a fraction's parts make it
parts_of : (a e : ℤ) → a ≡ floor_div a e *ℤ e +ℤ remainder_of a e
parts_of a e = omega (arith, ints)

-- by additions the edge is where it crosses the next row
pub moved_is_next : (edge : Edge) (y : ℕ) → IsEdge edge → moved (active_at y edge) ≡ active_at (suc y) edge
moved_is_next edge y h =
    let e = crossing_divisor edge.upper edge.lower in
    let positive = divisor_low edge h in
    let a = column_dividend edge.upper edge.lower y in
    let b = pos 2 *ℤ across edge.upper edge.lower in
    let r = rest_bounds a e positive in
    let m = rest_bounds b e positive in
    let next = carried a b e _ _ _ _ positive (parts_of a e) (parts_of b e) r.0 r.1 m.0 m.1 in
    let sum = column_moves edge.upper edge.lower y in
    let column = ap (λ n. floor_div n e) sum ∙ next.0 in
    let rest = ap (λ n. remainder_of n e) sum ∙ next.1 in
    ap (λ q. active_with edge q (moved_rest (active_at y edge))) (sym column) ∙ ap (λ r. active_with edge (floor_div (column_dividend edge.upper edge.lower (suc y)) e) r) (sym rest)

-- how large the numbers are
across_within : (edge : Edge) → IsEdge edge → IsWithin (2 ^ 30) (across edge.upper edge.lower)
across_within edge h =
    let upper = near_within _ h.upper.x in
    let lower = near_within _ h.lower.x in
    record { low = omega (arith, ints, upper.high, lower.low); high = omega (arith, ints, upper.low, lower.high) }

divisor_within : (edge : Edge) → IsEdge edge → IsWithin (2 ^ 31) (crossing_divisor edge.upper edge.lower)
divisor_within edge h =
    let upper = near_within _ h.upper.y in
    let lower = near_within _ h.lower.y in
    record { low = omega (arith, ints, upper.high, lower.low); high = omega (arith, ints, upper.low, lower.high) }

rows_within : (edge : Edge) (y : ℕ) → IsEdge edge → y ≤ 8192 → IsWithin (2 ^ 31) (pos (2 * y + 1) -ℤ pos 2 *ℤ edge.upper.y)
rows_within edge y h row =
    let upper = near_within _ h.upper.y in
    record { low = omega (arith, ints, upper.high); high = omega (arith, ints, upper.low) }

dividend_within : (edge : Edge) (y : ℕ) → IsEdge edge → y ≤ 8192 → IsWithin (2 ^ 62) (crossing_dividend edge.upper edge.lower y)
dividend_within edge y h row =
    let a = product_within (2 ^ 31) (2 ^ 30) _ _ (divisor_within edge h) (within_wider _ (2 ^ 30) _ (lit≤ tt) (near_within _ h.upper.x)) in
    let b = product_within (2 ^ 31) (2 ^ 30) _ _ (rows_within edge y h row) (across_within edge h) in
    record { low = omega (arith, ints, a.low, b.low); high = omega (arith, ints, a.high, b.high) }

column_within : (edge : Edge) (y : ℕ) → IsEdge edge → y ≤ 8192 → IsWithin (2 ^ 62 + 2 ^ 31) (column_dividend edge.upper edge.lower y)
column_within edge y h row =
    let near = dividend_within edge y h row in
    let divisor = divisor_within edge h in
    let order = h.order in
    record { low = omega (arith, ints, near.low, order); high = omega (arith, ints, near.high, divisor.high) }

-- the numbers leave room
pub can_move : (edge : Edge) (y : ℕ) → IsEdge edge → y ≤ 8192 → EdgeCanMove (active_at y edge)
can_move edge y h row =
    let positive = divisor_low edge h in
    let width = across_within edge h in
    let widths : IsWithin (2 ^ 31) (pos 2 *ℤ across edge.upper edge.lower) = record { low = omega (arith, ints, width.low); high = omega (arith, ints, width.high) } in
    let rest = rest_bounds (column_dividend edge.upper edge.lower y) (crossing_divisor edge.upper edge.lower) positive in
    let more = rest_bounds (pos 2 *ℤ across edge.upper edge.lower) (crossing_divisor edge.upper edge.lower) positive in
    record {
      column = floor_within (2 ^ 62 + 2 ^ 31) _ _ positive (column_within edge y h row);
      step = floor_within (2 ^ 31) _ _ positive widths;
      divisor = (divisor_within edge h).high;
      rest_low = rest.0;
      rest_high = rest.1;
      more_low = more.0;
      more_high = more.1;
    }

-- a column, where a number that may lie outside of all columns is to be crossed
column_reports : (place : ℤ) (x : ℕ) → x < 8192 → nat_le (near_column place) x ≡ int_le place (pos x)
column_reports (pos n) x h = grind (arith, ints, nat_tests)
column_reports (negsuc n) x h = grind (arith, ints, nat_tests)

odd_times : (x : ℕ) (d : ℤ) → pos (2 * x + 1) *ℤ d ≡ pos 2 *ℤ (pos x *ℤ d) +ℤ d
odd_times x d =
    let parts : pos (2 * x + 1) ≡ pos 2 *ℤ pos x +ℤ pos 1 = omega (arith, ints) in
    let e = ap (λ n. n *ℤ d) parts ∙ add_mul (pos 2 *ℤ pos x) (pos 1) d in
    let twice = twice_mul (pos x) d in
    let once : pos 1 *ℤ d ≡ d = omega (arith, ints) in
    omega (arith, ints, e, twice, once)

-- tests that hold for the same numbers
same_tests : (a b c d : ℤ) → (a ≤ℤ b → c ≤ℤ d) → (c ≤ℤ d → a ≤ℤ b) → int_le a b ≡ int_le c d
same_tests a b c d there back = same_test _ _ (λ t. int_le-from c d (there (int_le-true a b t))) (λ t. int_le-from a b (back (int_le-true c d t)))

-- the floor of what is half a divisor more, but for 1, is the first column that is not before
floor_reports : (d a q r : ℤ) (x : ℕ) → pos 1 ≤ℤ d → (a +ℤ d -ℤ pos 1) ≡ q *ℤ (pos 2 *ℤ d) +ℤ r → pos 0 ≤ℤ r → r <ℤ (pos 2 *ℤ d) → int_le q (pos x) ≡ int_le a (pos (2 * x + 1) *ℤ d)
floor_reports d a q r x positive is low high =
    let twice = mul_twice q d in
    let odd = odd_times x d in
    let flipped = mul_comm_ℤ q d in
    let flipped_x = mul_comm_ℤ (pos x) d in
    same_tests q (pos x) a (pos (2 * x + 1) *ℤ d)
    (λ h. let e = order_mul q (pos x) d (omega (arith, ints, positive)) h in omega (arith, ints, is, twice, odd, e, high))
    (λ h. mul_order_back d q (pos x) positive (omega (arith, ints, is, twice, odd, h, low, flipped, flipped_x, positive)))

-- an edge's column tells where it is crossed
pub column_crossed : (edge : Edge) (y x : ℕ) → IsEdge edge → x < 8192 → nat_le (column_of (active_at y edge)) x ≡ int_le (crossing_dividend edge.upper edge.lower y) (pos (2 * x + 1) *ℤ down edge.upper edge.lower)
column_crossed edge y x h below =
    let order = h.order in
    let rest = rest_bounds (column_dividend edge.upper edge.lower y) (crossing_divisor edge.upper edge.lower) (divisor_low edge h) in
    let parts = parts_of (column_dividend edge.upper edge.lower y) (crossing_divisor edge.upper edge.lower) in
    column_reports _ x below ∙ floor_reports (down edge.upper edge.lower) (crossing_dividend edge.upper edge.lower y) _ _ x (omega (arith, ints, order)) parts rest.0 rest.1
