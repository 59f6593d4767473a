-- From which step on a line has reached a coordinate.
use Rattle.std.proofs.Common.{◌≡◌, ℕ, ◌<◌, ◌≤◌, ℤ, pos, neg_ℤ, ◌+ℤ◌, ◌-ℤ◌, ◌*ℤ◌, ◌≤ℤ◌, ◌<ℤ◌, true, arith, ap, ◌∙◌}
use Rattle.std.specs.Prelude.{◌↔◌}
use Rattle.std.proofs.lemmas.Int.{ints, by_lt_z}
use Rattle.span_fill.specs.Strokes.{far, is_along}
use Rattle.span_fill.proofs.HullLemmas.{LiesFromTo, along_lies, towards_lies}
use Rattle.mapping.proofs.Products.{mul_add, mul_comm_ℤ, mul_one, mul_order, neg_mul, mul_order_back, mul_sub, mul_twice, twice_mul}
use Rattle.span_fill.proofs.StepLemmas.{IsNearest, along_parts, along_within, by_towards, dividend, far_up, far_down}

-- the count behind a quotient is the first whose multiple reaches one more than what was divided
pub reach_divided : (amount : ℤ) (each : ℕ) (quotient rest : ℤ) (count k : ℕ) →
    amount -ℤ pos 1 ≡ pos each *ℤ quotient +ℤ rest → pos 0 ≤ℤ rest → rest <ℤ pos each → pos count ≡ quotient +ℤ pos 1 →
    count ≤ k ↔ (amount ≤ℤ (pos each *ℤ pos k))
reach_divided amount each quotient rest count k whole low below is =
    let some : pos 1 ≤ℤ pos each = omega (arith, ints, low, below) in
    let next = mul_add (pos each) quotient (pos 1) in
    let once = mul_one (pos each) in (
      λ h. let grown = mul_order (pos each) (quotient +ℤ pos 1) (pos k) (omega (arith, ints, some)) (omega (arith, ints, is, h)) in
          omega (arith, ints, grown, next, once, whole, below),
      λ h. let back = mul_order_back (pos each) (quotient +ℤ pos 1) (pos k) some (omega (arith, ints, next, once, whole, low, h)) in
          omega (arith, ints, back, is),
    )

-- a place against a bound, by the dividend
nearest_reaches : (long : ℕ) (short : ℤ) (step : ℕ) (place bound : ℤ) → 1 ≤ long → IsNearest long short step place →
    ((pos 2 *ℤ (pos long *ℤ bound)) ≤ℤ dividend long short step) ↔ (bound ≤ℤ place)
nearest_reaches long short step place bound some near =
    let low = near.low in
    let high = near.high in (
      λ h. mul_order_back (pos long) bound place (omega (arith, ints, some)) (omega (arith, ints, h, high)),
      λ h. let grown = mul_order (pos long) bound place (omega (arith, ints)) h in omega (arith, ints, grown, low),
    )

-- the amount that a line must reach
amount_is : (long : ℕ) (bound : ℤ) → pos long *ℤ (pos 2 *ℤ bound -ℤ pos 1) ≡ pos 2 *ℤ (pos long *ℤ bound) -ℤ pos long
amount_is long bound =
    omega (arith, ints, mul_sub (pos long) (pos 2 *ℤ bound) (pos 1), mul_twice (pos long) bound, mul_one (pos long))

-- where the line has a pixel, a line that doesn't fall has reached a bound from the first such step on
pub rise_exact : (u0 v0 u1 v1 u v bound amount each : ℤ) (first : ℕ) → is_along u0 v0 u1 v1 u v ≡ true →
    amount ≡ pos (far u0 u1) *ℤ (pos 2 *ℤ (bound -ℤ v0) -ℤ pos 1) → each ≡ pos 2 *ℤ (v1 -ℤ v0) →
    ((k : ℕ) → k < far u0 u1 → first ≤ k ↔ (amount ≤ℤ (each *ℤ pos k))) →
    first ≤ far u0 u ↔ (bound ≤ℤ v)
rise_exact u0 v0 u1 v1 u v bound amount each first on amount_here each_here exact =
    let within = along_within u0 v0 u1 v1 u v on in
    let near = (along_parts u0 v0 u1 v1 u v on).1 in
    let step = far u0 u in
    let reached = exact step within in
    let reaches = nearest_reaches (far u0 u1) (v1 -ℤ v0) step (v -ℤ v0) (bound -ℤ v0) (omega (arith, within)) near in
    let grown : each *ℤ pos step ≡ pos 2 *ℤ (pos step *ℤ (v1 -ℤ v0)) = ap (λ e. e *ℤ pos step) each_here ∙ twice_mul (v1 -ℤ v0) (pos step) ∙ ap (λ n. pos 2 *ℤ n) (mul_comm_ℤ (v1 -ℤ v0) (pos step)) in
    let wanted = amount_here ∙ amount_is (far u0 u1) (bound -ℤ v0) in (
      λ h. let there = reached.0 h in
          let place = reaches.0 (omega (arith, ints, there, grown, wanted)) in
          omega (arith, ints, place),
      λ h. let there = reaches.1 (omega (arith, ints, h)) in
          reached.1 (omega (arith, ints, there, grown, wanted)),
    )

-- and one that falls is before it
pub fall_exact : (u0 v0 u1 v1 u v bound amount each : ℤ) (first : ℕ) → is_along u0 v0 u1 v1 u v ≡ true →
    amount ≡ pos 1 -ℤ pos (far u0 u1) *ℤ (pos 2 *ℤ (bound -ℤ v0) -ℤ pos 1) → each ≡ neg_ℤ (pos 2 *ℤ (v1 -ℤ v0)) →
    ((k : ℕ) → k < far u0 u1 → first ≤ k ↔ (amount ≤ℤ (each *ℤ pos k))) →
    first ≤ far u0 u ↔ (v <ℤ bound)
fall_exact u0 v0 u1 v1 u v bound amount each first on amount_here each_here exact =
    let within = along_within u0 v0 u1 v1 u v on in
    let near = (along_parts u0 v0 u1 v1 u v on).1 in
    let step = far u0 u in
    let reached = exact step within in
    let reaches = nearest_reaches (far u0 u1) (v1 -ℤ v0) step (v -ℤ v0) (bound -ℤ v0) (omega (arith, within)) near in
    let falls : each *ℤ pos step ≡ neg_ℤ (pos 2 *ℤ (pos step *ℤ (v1 -ℤ v0))) =
    ap (λ e. e *ℤ pos step) each_here ∙ neg_mul (pos 2 *ℤ (v1 -ℤ v0)) (pos step) ∙ ap neg_ℤ (twice_mul (v1 -ℤ v0) (pos step) ∙ ap (λ n. pos 2 *ℤ n) (mul_comm_ℤ (v1 -ℤ v0) (pos step))) in
    let odd = amount_is (far u0 u1) (bound -ℤ v0) in (
      λ h. let there = reached.0 h in
          by_lt_z v bound (λ (g : v <ℤ bound). g)
          (λ (g : bound ≤ℤ v). let over = reaches.1 (omega (arith, ints, g)) in
          absurd (omega (arith, ints, over, there, falls, amount_here, odd))),
      λ h. by_lt_z (dividend (far u0 u1) (v1 -ℤ v0) step) (pos 2 *ℤ (pos (far u0 u1) *ℤ (bound -ℤ v0)))
          (λ (g : dividend (far u0 u1) (v1 -ℤ v0) step <ℤ (pos 2 *ℤ (pos (far u0 u1) *ℤ (bound -ℤ v0)))). reached.1 (omega (arith, ints, g, falls, amount_here, odd)))
          (λ (g : (pos 2 *ℤ (pos (far u0 u1) *ℤ (bound -ℤ v0))) ≤ℤ dividend (far u0 u1) (v1 -ℤ v0) step).
          let place = reaches.0 g in absurd (omega (arith, ints, place, h))),
    )

-- along the longer axis a coordinate is as far as the step tells
pub run_up_exact : (u0 v0 u1 v1 u v bound distance : ℤ) (first : ℕ) → is_along u0 v0 u1 v1 u v ≡ true → u0 <ℤ u1 →
    distance ≡ bound -ℤ u0 → ((k : ℕ) → k < far u0 u1 → first ≤ k ↔ (distance ≤ℤ pos k)) →
    first ≤ far u0 u ↔ (bound ≤ℤ u)
run_up_exact u0 v0 u1 v1 u v bound distance first on up is exact =
    let within = along_within u0 v0 u1 v1 u v on in
    let reached = exact (far u0 u) within in
    let there : pos (far u0 u) ≡ u -ℤ u0 =
    by_towards u0 u1 u (along_parts u0 v0 u1 v1 u v on).0
    (λ h k. far_up u0 u h)
    (λ h k. absurd (omega (arith, ints, up, h, k))) in (
      λ h. let far_enough = reached.0 h in omega (arith, ints, far_enough, there, is),
      λ h. reached.1 (omega (arith, ints, h, there, is)),
    )

pub run_down_exact : (u0 v0 u1 v1 u v bound distance : ℤ) (first : ℕ) → is_along u0 v0 u1 v1 u v ≡ true → u1 ≤ℤ u0 →
    distance ≡ pos 1 -ℤ (bound -ℤ u0) → ((k : ℕ) → k < far u0 u1 → first ≤ k ↔ (distance ≤ℤ pos k)) →
    first ≤ far u0 u ↔ (u <ℤ bound)
run_down_exact u0 v0 u1 v1 u v bound distance first on down is exact =
    let within = along_within u0 v0 u1 v1 u v on in
    let reached = exact (far u0 u) within in
    let there : pos (far u0 u) ≡ u0 -ℤ u =
    by_towards u0 u1 u (along_parts u0 v0 u1 v1 u v on).0
    (λ h k. absurd (omega (arith, ints, down, h, k)))
    (λ h k. far_down u0 u k) in (
      λ h. let far_enough = reached.0 h in omega (arith, ints, far_enough, there, is),
      λ h. reached.1 (omega (arith, ints, h, there, is)),
    )

-- two such steps are the ends of a span
pub between_rising : (from to low high k : ℕ) (z : ℤ) → (from ≤ k ↔ (pos low ≤ℤ z)) → (to ≤ k ↔ (pos high ≤ℤ z)) →
    ((from ≤ k) × (k < to)) ↔ ((pos low ≤ℤ z) × (z <ℤ pos high))
between_rising from to low high k z f t = (
  λ h. (f.0 h.0, by_lt_z z (pos high) (λ (g : z <ℤ pos high). g) (λ (g : pos high ≤ℤ z). let after = t.1 g in absurd (omega (arith, after, h.1)))),
  λ h. (f.1 h.0, by_lt_z (pos k) (pos to) (λ (g : pos k <ℤ pos to). omega (arith, ints, g)) (λ (g : pos to ≤ℤ pos k). let over = t.0 (omega (arith, ints, g)) in absurd (omega (arith, ints, over, h.1)))),
)

pub between_falling : (from to low high k : ℕ) (z : ℤ) → (from ≤ k ↔ (z <ℤ pos high)) → (to ≤ k ↔ (z <ℤ pos low)) →
    ((from ≤ k) × (k < to)) ↔ ((pos low ≤ℤ z) × (z <ℤ pos high))
between_falling from to low high k z f t = (
  λ h. (by_lt_z z (pos low) (λ (g : z <ℤ pos low). let after = t.1 g in absurd (omega (arith, after, h.1))) (λ (g : pos low ≤ℤ z). g), f.0 h.0),
  λ h. (f.1 h.1, by_lt_z (pos k) (pos to) (λ (g : pos k <ℤ pos to). omega (arith, ints, g)) (λ (g : pos to ≤ℤ pos k). let under = t.0 (omega (arith, ints, g)) in absurd (omega (arith, ints, under, h.0)))),
)

-- the coordinates that a span contains are those from its first to its last
lies_in : (from to : ℕ) (z : ℤ) → (pos from ≤ℤ z) × (z <ℤ pos to) → LiesFromTo (pos from) (pos to -ℤ pos 1) z
lies_in from to z h = let last = h.1 in record { least = h.0; most = omega (arith, ints, last) }

contained : (from to : ℕ) (z : ℤ) → LiesFromTo (pos from) (pos to -ℤ pos 1) z → (pos from ≤ℤ z) × (z <ℤ pos to)
contained from to z h = let last = h.most in (h.least, omega (arith, ints, last))

-- a span that contains both ends of a line contains its pixels, along the longer axis and along the shorter one
pub along_contained : (u0 v0 u1 v1 u v : ℤ) (from to : ℕ) → is_along u0 v0 u1 v1 u v ≡ true →
    ((pos from ≤ℤ u0) × (u0 <ℤ pos to)) × ((pos from ≤ℤ u1) × (u1 <ℤ pos to)) → (pos from ≤ℤ u) × (u <ℤ pos to)
along_contained u0 v0 u1 v1 u v from to on ends =
    let towards = (along_parts u0 v0 u1 v1 u v on).0 in
    contained from to u (towards_lies (pos from) (pos to -ℤ pos 1) u0 u1 u (lies_in from to u0 ends.0) (lies_in from to u1 ends.1) towards)

pub across_contained : (u0 v0 u1 v1 u v : ℤ) (from to : ℕ) → is_along u0 v0 u1 v1 u v ≡ true →
    ((pos from ≤ℤ v0) × (v0 <ℤ pos to)) × ((pos from ≤ℤ v1) × (v1 <ℤ pos to)) → (pos from ≤ℤ v) × (v <ℤ pos to)
across_contained u0 v0 u1 v1 u v from to on ends =
    contained from to v (along_lies (pos from) (pos to -ℤ pos 1) u0 v0 u1 v1 u v (lies_in from to v0 ends.0) (lies_in from to v1 ends.1) on)
