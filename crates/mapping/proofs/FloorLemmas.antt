-- The floor of a fraction is the greatest whole number not above it.
use Rattle.std.proofs.Common.{◌≡◌, ◌≢◌, ℕ, zero, suc, ◌+◌, ◌*◌, ◌/◌, ◌%◌, ◌<◌, ◌≤◌, ℤ, pos, negsuc, neg_ℤ, ◌*ℤ◌, ◌≤ℤ◌, arith, refl, ap, ◌∙◌}
use Rattle.std.proofs.Math.Nat.{mul-div_cancel}
use Rattle.std.proofs.lemmas.Int.{ints}
use Rattle.std.proofs.lemmas.Nat.{le-div, div_below, div-add-mod', mod_below}
use Rattle.mapping.specs.Floor.{floor_div, IsNotAbove, IsGreatestNotAbove, FloorDivisionIsGreatest}

-- what division of counts says: the quotient's multiple is at most n, and the next one is above it
quotient_low : (n d : ℕ) → n / suc d * suc d ≤ n
quotient_low n d = omega (arith, div-add-mod' n (suc d))

quotient_high : (n d : ℕ) → n < (n / suc d + 1) * suc d
quotient_high n d = let below : n % suc d < suc d = mod_below n (suc d) (omega arith) in omega (arith, div-add-mod' n (suc d))

-- the floor over a divisor above 0 isn't above the fraction
low : (a : ℤ) (d : ℕ) → IsNotAbove (floor_div a (pos (suc d))) a (pos (suc d))
low (pos n) d = let h = quotient_low n d in omega (arith, ints, h)
low (negsuc n) d = let h = quotient_high n d in omega (arith, ints, h)

greatest : (a : ℤ) (d : ℕ) (q : ℤ) → IsNotAbove q a (pos (suc d)) → q ≤ℤ floor_div a (pos (suc d))
greatest (pos n) d (pos k) h = let fits : k * suc d ≤ n = omega (arith, ints, h) in let e = le-div k n (suc d) (omega arith) fits in omega (arith, ints, e)
greatest (pos n) d (negsuc k) h = omega (arith, ints)
greatest (negsuc n) d (pos k) h = absurd (omega (arith, ints, h))
greatest (negsuc n) d (negsuc k) h =
    let above : n < suc k * suc d = omega (arith, ints, h) in let e = div_below n (suc d) (suc k) (omega arith) above in omega (arith, ints, e)

-- a fraction stays as it is when both signs are turned
negated : (q a : ℤ) (d : ℕ) → IsNotAbove q (neg_ℤ a) (pos (suc d)) → IsNotAbove q a (negsuc d)
negated q a d h = omega (arith, ints, h)

negated_back : (q a : ℤ) (d : ℕ) → IsNotAbove q a (negsuc d) → IsNotAbove q (neg_ℤ a) (pos (suc d))
negated_back q a d h = omega (arith, ints, h)

pub floor_is_greatest : FloorDivisionIsGreatest
floor_is_greatest a (pos zero) ne = absurd (ne refl)
floor_is_greatest a (pos (suc d)) ne = record { not_above = low a d; greatest = greatest a d }
floor_is_greatest a (negsuc d) ne =
    record { not_above = negated _ a d (low (neg_ℤ a) d); greatest = λ q h. greatest (neg_ℤ a) d q (negated_back q a d h) }

-- a number below 0, divided
below : (n k : ℕ) → floor_div (neg_ℤ (pos (suc n))) (pos (suc k)) ≡ negsuc (n / suc k)
below n k = refl

-- the last number below the next multiple has the same quotient
last_of : (m k : ℕ) → (m * suc k + k) / suc k ≡ m
last_of m k =
    let least : m ≤ (m * suc k + k) / suc k = le-div m _ (suc k) (omega arith) (omega arith) in
    let most : (m * suc k + k) / suc k < suc m = div_below _ (suc k) (suc m) (omega arith) (omega arith) in
    omega arith

-- the floor of a multiple, over what it is a multiple of
multiple : (d : ℤ) (k : ℕ) → floor_div (d *ℤ pos (suc k)) (pos (suc k)) ≡ d
multiple (pos m) k = ap pos (mul-div_cancel m (omega arith))
multiple (negsuc m) k =
    let next : suc m * suc k ≡ suc (m * suc k + k) = omega arith in
    ap (λ (n : ℕ). floor_div (neg_ℤ (pos n)) (pos (suc k))) next ∙ below (m * suc k + k) k ∙ ap negsuc (last_of m k)

pub floor_of_multiple : (d v : ℤ) → v ≢ pos 0 → floor_div (d *ℤ v) v ≡ d
floor_of_multiple d (pos zero) ne = absurd (ne refl)
floor_of_multiple d (pos (suc k)) ne = multiple d k
floor_of_multiple d (negsuc k) ne = let negated : neg_ℤ (d *ℤ negsuc k) ≡ d *ℤ pos (suc k) = omega (arith, ints) in rw negated (multiple d k)

-- a floor is the only greatest whole number not above the fraction
pub only : (q a b : ℤ) → b ≢ pos 0 → IsGreatestNotAbove q a b → floor_div a b ≡ q
only q a b ne is =
    let floor = floor_is_greatest a b ne in
    let low = is.greatest (floor_div a b) floor.not_above in
    let high = floor.greatest q is.not_above in
    omega (arith, ints, low, high)
