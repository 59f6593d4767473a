-- What lands within the limit of placed coordinates, without a division.
use Rattle.std.proofs.Common.{◌≡◌, ℕ, suc, ◌≤◌, ℤ, pos, neg_ℤ, ◌*ℤ◌, ◌≤ℤ◌, ◌<ℤ◌, Bool, true, false, ◌&&◌, int_le, int_lt, arith, sym, ap, ◌∙◌}
use Rattle.std.proofs.lemmas.Int.{ints, by_lt_z}
use Rattle.std.proofs.lemmas.Bool.{and_parts, and_from}
use Rattle.mapping.specs.Floor.{floor_div}
use Rattle.mapping.specs.Limits.{is_within}
use Rattle.mapping.proofs.FloorLemmas.{floor_is_greatest}
use Rattle.mapping.proofs.PlacingLemmas.{not_zero, times_count}
use Rattle.mapping.specs.TestLaws.{int_le-false, int_le-from, int_le-not, int_le-true, int_lt-true, int_lt-from, same_test}

-- a fraction isn't below a limit where the dividend isn't below that many divisors
low : (a l : ℤ) (side : ℕ) → 1 ≤ side → (l *ℤ pos side) ≤ℤ a → l ≤ℤ floor_div a (pos side)
low a l side one h = (floor_is_greatest a (pos side) (not_zero side one)).greatest l h

low_back : (a l : ℤ) (side : ℕ) → 1 ≤ side → l ≤ℤ floor_div a (pos side) → (l *ℤ pos side) ≤ℤ a
low_back a l side one h =
    let times = times_count l (floor_div a (pos side)) side h in
    let there = (floor_is_greatest a (pos side) (not_zero side one)).not_above in
    omega (arith, ints, times, there)

-- and not above one where the dividend is below one divisor more
high : (a : ℤ) (l side : ℕ) → 1 ≤ side → a <ℤ (pos (suc l) *ℤ pos side) → floor_div a (pos side) ≤ℤ pos l
high a l side one h =
    by_lt_z (pos l) (floor_div a (pos side))
    (λ (above : pos l <ℤ floor_div a (pos side)). let back = low_back a (pos (suc l)) side one (omega (arith, ints, above)) in absurd (omega (arith, ints, back, h)))
    (λ (fine : floor_div a (pos side) ≤ℤ pos l). fine)

high_back : (a : ℤ) (l side : ℕ) → 1 ≤ side → floor_div a (pos side) ≤ℤ pos l → a <ℤ (pos (suc l) *ℤ pos side)
high_back a l side one h =
    by_lt_z a (pos (suc l) *ℤ pos side)
    (λ (fine : a <ℤ (pos (suc l) *ℤ pos side)). fine)
    (λ (above : (pos (suc l) *ℤ pos side) ≤ℤ a). let there = low a (pos (suc l)) side one above in absurd (omega (arith, ints, there, h)))

-- the limits of a coordinate v, multiplied: those that its product is tested against
pub record AreLimits (l side : ℕ) (from to : ℤ) : Type 0 where
  pub not_empty : 1 ≤ side
  pub low : from ≡ neg_ℤ (pos l) *ℤ pos side
  pub high : to ≡ pos (suc l) *ℤ pos side

within_by : (a : ℤ) (l side : ℕ) → 1 ≤ side → (neg_ℤ (pos l) *ℤ pos side) ≤ℤ a → int_lt a (pos (suc l) *ℤ pos side) ≡ is_within l (floor_div a (pos side))
within_by a l side one h =
    let q = floor_div a (pos side) in
    same_test (int_lt a (pos (suc l) *ℤ pos side)) (is_within l q)
    (λ t. and_from (int_le (neg_ℤ (pos l)) q) (int_le q (pos l)) (int_le-from _ _ (low a (neg_ℤ (pos l)) side one h)) (int_le-from _ _ (high a l side one (int_lt-true _ _ t))))
    (λ t. let parts = and_parts (int_le (neg_ℤ (pos l)) q) (int_le q (pos l)) t in int_lt-from _ _ (high_back a l side one (int_le-true _ _ parts.1)))

without : (a : ℤ) (l side : ℕ) → 1 ≤ side → a <ℤ (neg_ℤ (pos l) *ℤ pos side) → is_within l (floor_div a (pos side)) ≡ false
without a l side one h =
    let q = floor_div a (pos side) in
    ap (λ (b : Bool). b && int_le q (pos l))
    (int_le-not (neg_ℤ (pos l)) q (λ (g : neg_ℤ (pos l) ≤ℤ q). let back = low_back a (neg_ℤ (pos l)) side one g in omega (arith, ints, back, h)))

-- where the product isn't below the lower one, the upper one decides
pub above_low :
    (a low high whole : ℤ) (l side : ℕ) → AreLimits l side low high → a ≡ whole → int_le low a ≡ true
    → int_lt a high ≡ is_within l (floor_div whole (pos side))
above_low a low high whole l side are e h =
    let there : (neg_ℤ (pos l) *ℤ pos side) ≤ℤ whole = rw (are.low, e) at (int_le-true low a h) in
    rw (e, are.high) (within_by whole l side are.not_empty there)

-- and where it is, it is not within
pub below_low :
    (a low high whole : ℤ) (l side : ℕ) → AreLimits l side low high → a ≡ whole → int_le low a ≡ false
    → int_le low a ≡ is_within l (floor_div whole (pos side))
below_low a low high whole l side are e h =
    let there : whole <ℤ (neg_ℤ (pos l) *ℤ pos side) = rw (are.low, e) at (int_le-false low a h) in
    h ∙ sym (without whole l side are.not_empty there)
