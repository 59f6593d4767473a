-- The floor of a fraction over a divisor of at least 1: what it is, and how it compares to whole numbers.
use Rattle.std.proofs.Common.{◌≡◌, ℕ, zero, suc, ◌+◌, ◌*◌, ◌/◌, ◌%◌, ◌<◌, ◌≤◌, ℤ, pos, negsuc, ◌+ℤ◌, ◌-ℤ◌, ◌*ℤ◌, ◌≤ℤ◌, ◌<ℤ◌, arith}
use Rattle.std.specs.Int.{int_div_euclid}
use Rattle.std.proofs.lemmas.Int.{ints}
use Rattle.std.proofs.lemmas.Nat.{div-add-mod', mod_below}
use Rattle.mapping.proofs.Products.{mul_sub, mul_one, mul_order_back}

-- what division of counts says: the quotient's multiple is at most n, and the next one is above it
quotient_low : (n d : ℕ) → n / suc d * suc d ≤ n
quotient_low n d = omega (arith, div-add-mod' n (suc d))

quotient_high : (n d : ℕ) → n < (n / suc d + 1) * suc d
quotient_high n d = let below : n % suc d < suc d = mod_below n (suc d) (omega arith) in omega (arith, div-add-mod' n (suc d))

-- the floor's multiple is at most the dividend
pub floor_low : (a e : ℤ) → pos 1 ≤ℤ e → (e *ℤ int_div_euclid a e) ≤ℤ a
floor_low (pos n) (pos (suc d)) h = let k = quotient_low n d in omega (arith, ints, k)
floor_low (negsuc n) (pos (suc d)) h = let k = quotient_high n d in omega (arith, ints, k)
floor_low a (pos zero) h = absurd (omega (arith, ints, h))
floor_low a (negsuc d) h = absurd (omega (arith, ints, h))

-- and the next multiple is above it
pub floor_high : (a e : ℤ) → pos 1 ≤ℤ e → a <ℤ (e *ℤ int_div_euclid a e +ℤ e)
floor_high (pos n) (pos (suc d)) h = let k = quotient_high n d in omega (arith, ints, k)
floor_high (negsuc n) (pos (suc d)) h = let k = quotient_low n d in omega (arith, ints, k)
floor_high a (pos zero) h = absurd (omega (arith, ints, h))
floor_high a (negsuc d) h = absurd (omega (arith, ints, h))

-- a number whose multiple is at most the dividend is at most the floor
pub floor_least : (a e q : ℤ) → pos 1 ≤ℤ e → (e *ℤ q) ≤ℤ a → q ≤ℤ int_div_euclid a e
floor_least a e q h k = mul_order_back e q (int_div_euclid a e) h (omega (arith, ints, k, floor_high a e h))

-- a number whose multiple is above the dividend is above the floor
pub floor_above : (a e q : ℤ) → pos 1 ≤ℤ e → a <ℤ (e *ℤ q) → int_div_euclid a e <ℤ q
floor_above a e q h k =
    let one_less = mul_sub e q (pos 1) in
    let once = mul_one e in
    let m =
    mul_order_back e (int_div_euclid a e) (q -ℤ pos 1) h (omega (arith, ints, k, floor_low a e h, one_less, once)) in
    omega (arith, ints, m)

-- the only number whose multiple is at most the dividend while the next one is above it is the floor
pub floor_one : (a e q : ℤ) → pos 1 ≤ℤ e → (e *ℤ q) ≤ℤ a → a <ℤ (e *ℤ q +ℤ e) → int_div_euclid a e ≡ q
floor_one a e q h low high =
    let least = floor_least a e q h low in
    let most = mul_order_back e (int_div_euclid a e) q h (omega (arith, ints, floor_low a e h, high)) in
    omega (arith, ints, least, most)
