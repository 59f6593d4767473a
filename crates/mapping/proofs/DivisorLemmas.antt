-- A quotient by a reciprocal is near: never above the quotient, and one below it at most.
use Rattle.std.proofs.Common.{◌≡◌, ℕ, suc, ◌+◌, ◌-◌, ◌*◌, ◌/◌, ◌<◌, ◌≤◌, arith, le_of_mul-le-mul_right, lt_of_mul-lt-mul_right}
use Rattle.std.proofs.lemmas.Nat.{le-div, div_below, div-add-mod', mod_below, mul-le}

-- the reciprocal of d under r, so many times, is below r, and one more time it isn't
abbrev pub IsReciprocal : ℕ → ℕ → ℕ → Type 0
IsReciprocal r m d = m * d ≤ r × (r ≤ suc m * d)

pub reciprocal_of : (r d : ℕ) → 0 < r → 0 < d → IsReciprocal r ((r - 1) / d) d
reciprocal_of r d some above =
    let parts = div-add-mod' (r - 1) d in
    let rest = mod_below (r - 1) d above in
    (omega (arith, parts, some), omega (arith, parts, rest, some))

pub near_low : (r n m d : ℕ) → 0 < r → IsReciprocal r m d → (n * m) / r * d ≤ n
near_low r n m d some is =
    let q = (n * m) / r in
    let whole : q * r ≤ n * m = omega (arith, div-add-mod' (n * m) r) in
    let many : q * r * d ≤ n * m * d = mul-le (q * r) d (n * m) d whole (omega arith) in
    let all : n * (m * d) ≤ n * r = mul-le n (m * d) n r (omega arith) is.0 in
    le_of_mul-le-mul_right (let cancel : (n * m) / r * d * r ≤ n * r = omega (arith, many, all) in cancel) some

pub near_high : (r n m d : ℕ) → n < r → 0 < d → IsReciprocal r m d → n < ((n * m) / r + 2) * d
near_high r n m d below above is =
    let q = (n * m) / r in
    let part : suc (n * m) ≤ suc q * r = omega (arith, div-add-mod' (n * m) r, mod_below (n * m) r (omega (arith, below))) in
    let many : suc (n * m) * d ≤ suc q * r * d = mul-le (suc (n * m)) d (suc q * r) d part (omega arith) in
    let all : n * r ≤ n * (suc m * d) = mul-le n r n (suc m * d) (omega arith) is.1 in
    let few : n * d ≤ r * d = mul-le n d r d (omega (arith, below)) (omega arith) in
    lt_of_mul-lt-mul_right r (let cancel : n * r < ((n * m) / r + 2) * d * r = omega (arith, many, all, few, above) in cancel)

-- what is at most a number, and less than a divisor below it, is so many of them
pub quotient_is : (n d q : ℕ) → q * d ≤ n → n - q * d < d → q ≡ n / d
quotient_is n d q low rest =
    let least = le-div q n d (omega (arith, rest)) low in
    let most = div_below n d (suc q) (omega (arith, rest)) (omega (arith, low, rest)) in
    omega (arith, least, most)
