-- Between which coordinates a line lies.
use Rattle.std.proofs.Common.{◌≡◌, ℤ, pos, neg_ℤ, ◌+ℤ◌, ◌-ℤ◌, ◌*ℤ◌, ◌≤ℤ◌, ◌<ℤ◌, true, arith, ap, ◌∙◌}
use Rattle.std.specs.Prelude.{◌↔◌}
use Rattle.std.proofs.Math.IntN.{*ℤ-zero}
use Rattle.std.proofs.lemmas.Int.{ints, by_lt_z}
use Rattle.span_fill.specs.Strokes.{far, is_along, is_towards}
use Rattle.mapping.proofs.Products.{mul_neg, mul_not_negative, mul_order, mul_order_back, order_mul}
use Rattle.span_fill.proofs.StepLemmas.{along_parts, along_within, by_towards, towards_down, towards_up}

-- towards a greater coordinate, and towards one that isn't greater
pub run_up_ends : (a b u : ℤ) → a <ℤ b → (is_towards a b u ≡ true) ↔ ((a ≤ℤ u) × (u <ℤ b))
run_up_ends a b u up = (
  λ t. by_towards a b u t (λ h k. (h, k)) (λ h k. absurd (omega (arith, ints, up, h, k))),
  λ h. towards_up a b u h.0 h.1,
)

pub run_down_ends : (a b u from to : ℤ) → b ≤ℤ a → from ≡ b +ℤ pos 1 → to ≡ a +ℤ pos 1 → (is_towards a b u ≡ true) ↔ ((from ≤ℤ u) × (u <ℤ to))
run_down_ends a b u from to down e f = (
  λ t. by_towards a b u t
      (λ h k. absurd (omega (arith, ints, down, h, k)))
      (λ h k. (omega (arith, ints, h, e), omega (arith, ints, k, f))),
  λ h. let low = h.0 in let high = h.1 in towards_down a b u (omega (arith, ints, low, e)) (omega (arith, ints, high, f)),
)

-- a line that doesn't fall lies between its ends
pub rise_hull : (u0 v0 u1 v1 u v : ℤ) → is_along u0 v0 u1 v1 u v ≡ true → v0 ≤ℤ v1 → (v0 ≤ℤ v) × (v ≤ℤ v1)
rise_hull u0 v0 u1 v1 u v on rises =
    let within = along_within u0 v0 u1 v1 u v on in
    let near = (along_parts u0 v0 u1 v1 u v on).1 in
    let low = near.low in
    let high = near.high in
    let some : pos 1 ≤ℤ pos (far u0 u1) = omega (arith, ints, within) in
    let rise : pos 0 ≤ℤ (v1 -ℤ v0) = omega (arith, ints, rises) in
    let grown = mul_not_negative (pos (far u0 u)) (v1 -ℤ v0) (omega (arith, ints)) rise in
    let most = order_mul (pos (far u0 u)) (pos (far u0 u1)) (v1 -ℤ v0) rise (omega (arith, ints, within)) in
    let least = mul_order_back (pos (far u0 u1)) (pos 0) (v -ℤ v0) some (omega (arith, ints, high, grown, some, *ℤ-zero (pos (far u0 u1)))) in
    let greatest = mul_order_back (pos (far u0 u1)) (v -ℤ v0) (v1 -ℤ v0) some (omega (arith, ints, low, most, some)) in
    (omega (arith, ints, least), omega (arith, ints, greatest))

-- and so does one that falls
pub fall_hull : (u0 v0 u1 v1 u v : ℤ) → is_along u0 v0 u1 v1 u v ≡ true → v1 ≤ℤ v0 → (v1 ≤ℤ v) × (v ≤ℤ v0)
fall_hull u0 v0 u1 v1 u v on falls =
    let within = along_within u0 v0 u1 v1 u v on in
    let near = (along_parts u0 v0 u1 v1 u v on).1 in
    let low = near.low in
    let high = near.high in
    let some : pos 1 ≤ℤ pos (far u0 u1) = omega (arith, ints, within) in
    let fall : (v1 -ℤ v0) ≤ℤ pos 0 = omega (arith, ints, falls) in
    let fallen = mul_order (pos (far u0 u)) (v1 -ℤ v0) (pos 0) (omega (arith, ints)) fall in
    let opposite : pos 0 ≤ℤ (v0 -ℤ v1) = omega (arith, ints, falls) in
    let flipped : v1 -ℤ v0 ≡ neg_ℤ (v0 -ℤ v1) = omega (arith, ints) in
    let deepest = order_mul (pos (far u0 u)) (pos (far u0 u1)) (v0 -ℤ v1) opposite (omega (arith, ints, within)) in
    let step_sign : pos (far u0 u) *ℤ (v1 -ℤ v0) ≡ neg_ℤ (pos (far u0 u) *ℤ (v0 -ℤ v1)) = ap (λ n. pos (far u0 u) *ℤ n) flipped ∙ mul_neg (pos (far u0 u)) (v0 -ℤ v1) in
    let whole_sign : pos (far u0 u1) *ℤ (v1 -ℤ v0) ≡ neg_ℤ (pos (far u0 u1) *ℤ (v0 -ℤ v1)) = ap (λ n. pos (far u0 u1) *ℤ n) flipped ∙ mul_neg (pos (far u0 u1)) (v0 -ℤ v1) in
    let greatest = mul_order_back (pos (far u0 u1)) (v -ℤ v0) (pos 0) some (omega (arith, ints, low, fallen, some, *ℤ-zero (pos (far u0 u1)), *ℤ-zero (pos (far u0 u)))) in
    let least = mul_order_back (pos (far u0 u1)) (v1 -ℤ v0) (v -ℤ v0) some (omega (arith, ints, high, deepest, step_sign, whole_sign, some)) in
    (omega (arith, ints, least), omega (arith, ints, greatest))

-- a coordinate lies from one to another
pub record LiesFromTo (low high u : ℤ) : Type 0 where
  pub least : low ≤ℤ u
  pub most : u ≤ℤ high

-- on the way from one coordinate to another
pub towards_lies : (low high a b u : ℤ) → LiesFromTo low high a → LiesFromTo low high b → is_towards a b u ≡ true → LiesFromTo low high u
towards_lies low high a b u from to t =
    let c = from.least in let d = from.most in let e = to.least in let f = to.most in
    by_towards a b u t
    (λ h k. record { least = omega (arith, ints, c, h); most = omega (arith, ints, f, k) })
    (λ h k. record { least = omega (arith, ints, e, h); most = omega (arith, ints, d, k) })

-- and along the shorter axis
pub along_lies : (low high u0 v0 u1 v1 u v : ℤ) → LiesFromTo low high v0 → LiesFromTo low high v1 → is_along u0 v0 u1 v1 u v ≡ true → LiesFromTo low high v
along_lies low high u0 v0 u1 v1 u v from to on =
    let c = from.least in let d = from.most in let e = to.least in let f = to.most in
    by_lt_z v1 v0
    (λ (falls : v1 <ℤ v0).
    let hull = fall_hull u0 v0 u1 v1 u v on (omega (arith, ints, falls)) in
    let least = hull.0 in let greatest = hull.1 in
    record { least = omega (arith, ints, e, least); most = omega (arith, ints, d, greatest) })
    (λ (rises : v0 ≤ℤ v1).
    let hull = rise_hull u0 v0 u1 v1 u v on rises in
    let least = hull.0 in let greatest = hull.1 in
    record { least = omega (arith, ints, c, least); most = omega (arith, ints, f, greatest) })
