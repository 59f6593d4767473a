-- Of a line each step along its longer axis has one pixel.
use Rattle.std.proofs.Common.{◌≡◌, ℕ, ◌<◌, ◌≤◌, ℤ, pos, neg_ℤ, ◌+ℤ◌, ◌-ℤ◌, ◌*ℤ◌, ◌≤ℤ◌, ◌<ℤ◌, int_le, true, ◌&&◌, arith, sym, subst, ◌∙◌}
use Rattle.std.specs.Prelude.{int_lt}
use Rattle.std.specs.Int.{int_div_euclid}
use Rattle.std.proofs.lemmas.Int.{ints, by_lt_z}
use Rattle.std.proofs.lemmas.Bool.{and_parts, and_from, or_left, or_right}
use Rattle.mapping.specs.TestLaws.{by_either, int_le-from, int_le-true, int_lt-from, int_lt-true}
use Rattle.span_fill.specs.Strokes.{far, is_along, is_towards, is_nearest}
use Rattle.mapping.proofs.Products.{twice_mul}
use Rattle.span_fill.proofs.FloorLemmas.{floor_low, floor_high, floor_one}

-- how far two coordinates are apart, on either side
pub far_up : (a b : ℤ) → a ≤ℤ b → pos (far a b) ≡ b -ℤ a
far_up a b h = omega (arith, ints)

pub far_down : (a b : ℤ) → b ≤ℤ a → pos (far a b) ≡ a -ℤ b
far_down a b h = omega (arith, ints)

-- a coordinate between the first and the last, on either side
pub towards_up : (a b u : ℤ) → a ≤ℤ u → u <ℤ b → is_towards a b u ≡ true
towards_up a b u h k = or_left (int_le a u && int_lt u b) (int_lt b u && int_le u a) (and_from (int_le a u) (int_lt u b) (int_le-from a u h) (int_lt-from u b k))

pub towards_down : (a b u : ℤ) → b <ℤ u → u ≤ℤ a → is_towards a b u ≡ true
towards_down a b u h k = or_right (int_le a u && int_lt u b) (int_lt b u && int_le u a) (and_from (int_lt b u) (int_le u a) (int_lt-from b u h) (int_le-from u a k))

pub by_towards : {P : Type 0} (a b u : ℤ) → is_towards a b u ≡ true → (a ≤ℤ u → u <ℤ b → P) → (b <ℤ u → u ≤ℤ a → P) → P
by_towards a b u t up down =
    by_either (int_le a u && int_lt u b) (int_lt b u && int_le u a) t
    (λ h. let parts = and_parts (int_le a u) (int_lt u b) h in up (int_le-true a u parts.0) (int_lt-true u b parts.1))
    (λ h. let parts = and_parts (int_lt b u) (int_le u a) h in down (int_lt-true b u parts.0) (int_le-true u a parts.1))

-- a coordinate is within as many steps as there are, and is the only one of its step
pub towards_within : (a b u : ℤ) → is_towards a b u ≡ true → far a u < far a b
towards_within a b u t =
    by_towards a b u t
    (λ h k. omega (arith, ints, far_up a u h, far_up a b (omega (arith, ints, h, k)), h, k))
    (λ h k. omega (arith, ints, far_down a u k, far_down a b (omega (arith, ints, h, k)), h, k))

pub towards_only : (a b u w : ℤ) → is_towards a b u ≡ true → is_towards a b w ≡ true → far a u ≡ far a w → u ≡ w
towards_only a b u w t s e =
    by_towards a b u t
    (λ h k. by_towards a b w s
    (λ m n. omega (arith, ints, far_up a u h, far_up a w m, e))
    (λ m n. absurd (omega (arith, ints, h, k, m, n))))
    (λ h k. by_towards a b w s
    (λ m n. absurd (omega (arith, ints, h, k, m, n)))
    (λ m n. omega (arith, ints, far_down a u k, far_down a w n, e)))

-- the coordinate of a step
pub record HasCoordinate (a b : ℤ) (step : ℕ) : Type 0 where
  pub u : ℤ
  pub towards : is_towards a b u ≡ true
  pub at : far a u ≡ step

coordinate_up : (a b : ℤ) (step : ℕ) → a <ℤ b → step < far a b → HasCoordinate a b step
coordinate_up a b step h k =
    let whole = far_up a b (omega (arith, ints, h)) in
    let there = far_up a (a +ℤ pos step) (omega (arith, ints)) in
    record {
      u = a +ℤ pos step;
      towards = towards_up a b (a +ℤ pos step) (omega (arith, ints)) (omega (arith, ints, whole, k));
      at = omega (arith, ints, there);
    }

coordinate_down : (a b : ℤ) (step : ℕ) → b ≤ℤ a → step < far a b → HasCoordinate a b step
coordinate_down a b step h k =
    let whole = far_down a b h in
    let there = far_down a (a -ℤ pos step) (omega (arith, ints)) in
    record {
      u = a -ℤ pos step;
      towards = towards_down a b (a -ℤ pos step) (omega (arith, ints, whole, k)) (omega (arith, ints));
      at = omega (arith, ints, there);
    }

pub coordinate : (a b : ℤ) (step : ℕ) → step < far a b → HasCoordinate a b step
coordinate a b step k = by_lt_z a b (λ h. coordinate_up a b step h k) (λ h. coordinate_down a b step h k)

-- what the floor is taken of at a step
abbrev pub dividend : ℕ → ℤ → ℕ → ℤ
dividend long short step = pos 2 *ℤ (pos step *ℤ short) +ℤ pos long

-- the nearest place as a fact: its double's multiple is at most the dividend, and the next one is above it
pub record IsNearest (long : ℕ) (short : ℤ) (step : ℕ) (place : ℤ) : Type 0 where
  pub low : (pos 2 *ℤ (pos long *ℤ place)) ≤ℤ dividend long short step
  pub high : dividend long short step <ℤ (pos 2 *ℤ (pos long *ℤ place) +ℤ pos 2 *ℤ pos long)

-- twice how far a place is off the line, times the steps
abbrev twice_off : ℕ → ℤ → ℕ → ℤ → ℤ
twice_off long short step place = pos 2 *ℤ (pos step *ℤ short -ℤ pos long *ℤ place)

pub nearest_fact : (long : ℕ) (short : ℤ) (step : ℕ) (place : ℤ) → is_nearest long short step place ≡ true → IsNearest long short step place
nearest_fact long short step place t =
    let off = twice_off long short step place in
    let parts = and_parts (int_le (neg_ℤ (pos long)) off) (int_lt off (pos long)) t in
    let low = int_le-true (neg_ℤ (pos long)) off parts.0 in
    let high = int_lt-true off (pos long) parts.1 in
    record { low = omega (arith, ints, low, high); high = omega (arith, ints, low, high) }

pub nearest_test : (long : ℕ) (short : ℤ) (step : ℕ) (place : ℤ) → IsNearest long short step place → is_nearest long short step place ≡ true
nearest_test long short step place h =
    let off = twice_off long short step place in
    let low = h.low in
    let high = h.high in
    and_from (int_le (neg_ℤ (pos long)) off) (int_lt off (pos long))
    (int_le-from (neg_ℤ (pos long)) off (omega (arith, ints, low, high)))
    (int_lt-from off (pos long) (omega (arith, ints, low, high)))

-- it is the floor, and the floor is it
some_long : (long : ℕ) → 1 ≤ long → pos 1 ≤ℤ (pos 2 *ℤ pos long)
some_long long h = omega (arith, ints)

pub nearest_floor : (long : ℕ) (short : ℤ) (step : ℕ) (place : ℤ) → 1 ≤ long → IsNearest long short step place → int_div_euclid (dividend long short step) (pos 2 *ℤ pos long) ≡ place
nearest_floor long short step place some h =
    let low = h.low in
    let high = h.high in
    let e = twice_mul (pos long) place in
    floor_one (dividend long short step) (pos 2 *ℤ pos long) place (some_long long some) (omega (arith, ints, low, e)) (omega (arith, ints, high, e))

pub floor_nearest : (long : ℕ) (short : ℤ) (step : ℕ) → 1 ≤ long → IsNearest long short step (int_div_euclid (dividend long short step) (pos 2 *ℤ pos long))
floor_nearest long short step some =
    let place = int_div_euclid (dividend long short step) (pos 2 *ℤ pos long) in
    let e = twice_mul (pos long) place in
    let low = floor_low (dividend long short step) (pos 2 *ℤ pos long) (some_long long some) in
    let high = floor_high (dividend long short step) (pos 2 *ℤ pos long) (some_long long some) in
    record { low = omega (arith, ints, low, e); high = omega (arith, ints, high, e) }

pub nearest_only : (long : ℕ) (short : ℤ) (step : ℕ) (v w : ℤ) → 1 ≤ long → IsNearest long short step v → IsNearest long short step w → v ≡ w
nearest_only long short step v w some h k = sym (nearest_floor long short step v some h) ∙ nearest_floor long short step w some k

-- a pixel on a line, as its parts
pub along_parts : (u0 v0 u1 v1 u v : ℤ) → is_along u0 v0 u1 v1 u v ≡ true → (is_towards u0 u1 u ≡ true) × IsNearest (far u0 u1) (v1 -ℤ v0) (far u0 u) (v -ℤ v0)
along_parts u0 v0 u1 v1 u v t =
    let parts = and_parts (is_towards u0 u1 u) (is_nearest (far u0 u1) (v1 -ℤ v0) (far u0 u) (v -ℤ v0)) t in
    (parts.0, nearest_fact (far u0 u1) (v1 -ℤ v0) (far u0 u) (v -ℤ v0) parts.1)

pub along_from : (u0 v0 u1 v1 u v : ℤ) → is_towards u0 u1 u ≡ true → IsNearest (far u0 u1) (v1 -ℤ v0) (far u0 u) (v -ℤ v0) → is_along u0 v0 u1 v1 u v ≡ true
along_from u0 v0 u1 v1 u v t h =
    and_from (is_towards u0 u1 u) (is_nearest (far u0 u1) (v1 -ℤ v0) (far u0 u) (v -ℤ v0)) t (nearest_test (far u0 u1) (v1 -ℤ v0) (far u0 u) (v -ℤ v0) h)

-- one pixel for each step, along one axis
pub record HasAlong (u0 v0 u1 v1 : ℤ) (step : ℕ) : Type 0 where
  pub u : ℤ
  pub v : ℤ
  pub on : is_along u0 v0 u1 v1 u v ≡ true
  pub at : far u0 u ≡ step

pub along_each : (u0 v0 u1 v1 : ℤ) (step : ℕ) → step < far u0 u1 → HasAlong u0 v0 u1 v1 step
along_each u0 v0 u1 v1 step k =
    let c = coordinate u0 u1 step k in
    let place = int_div_euclid (dividend (far u0 u1) (v1 -ℤ v0) (far u0 c.u)) (pos 2 *ℤ pos (far u0 u1)) in
    let back : v0 +ℤ place -ℤ v0 ≡ place = omega (arith, ints) in
    let near = floor_nearest (far u0 u1) (v1 -ℤ v0) (far u0 c.u) (omega arith) in
    record {
      u = c.u;
      v = v0 +ℤ place;
      on = along_from u0 v0 u1 v1 c.u (v0 +ℤ place) c.towards (subst (λ (w : ℤ). IsNearest (far u0 u1) (v1 -ℤ v0) (far u0 c.u) w) (sym back) near);
      at = c.at;
    }

pub along_within : (u0 v0 u1 v1 u v : ℤ) → is_along u0 v0 u1 v1 u v ≡ true → far u0 u < far u0 u1
along_within u0 v0 u1 v1 u v t = towards_within u0 u1 u (along_parts u0 v0 u1 v1 u v t).0

pub along_only : (u0 v0 u1 v1 u v w z : ℤ) → is_along u0 v0 u1 v1 u v ≡ true → is_along u0 v0 u1 v1 w z ≡ true → far u0 u ≡ far u0 w → (u ≡ w) × (v ≡ z)
along_only u0 v0 u1 v1 u v w z t s e =
    let parts = along_parts u0 v0 u1 v1 u v t in
    let others = along_parts u0 v0 u1 v1 w z s in
    let within = towards_within u0 u1 u parts.0 in
    let there = subst (λ (n : ℕ). IsNearest (far u0 u1) (v1 -ℤ v0) n (z -ℤ v0)) (sym e) others.1 in
    let same = nearest_only (far u0 u1) (v1 -ℤ v0) (far u0 u) (v -ℤ v0) (z -ℤ v0) (omega (arith, within)) parts.1 there in
    (towards_only u0 u1 u w parts.0 others.0 e, omega (arith, ints, same))
