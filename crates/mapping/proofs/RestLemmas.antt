-- A quotient in parts: the parts of the whole, and those of what remains.
use Rattle.std.proofs.Common.{◌≡◌, ◌≢◌, ◌<◌, ℤ, pos, negsuc, ◌+ℤ◌, ◌-ℤ◌, ◌*ℤ◌, ◌≤ℤ◌, ◌<ℤ◌, arith, ap, sym, ◌∙◌}
use Rattle.std.specs.Prelude.{unsigned_abs}
use Rattle.std.proofs.lemmas.Int.{ints, by_lt_z}
use Rattle.mapping.specs.Floor.{floor_div, IsNotAbove, IsGreatestNotAbove}
use Rattle.mapping.proofs.FloorLemmas.{floor_is_greatest, only}
use Rattle.mapping.proofs.Products.{add_mul, mul_assoc_ℤ, mul_comm_ℤ, sub_mul}

-- a multiple of the divisor goes out of a fraction
moved_out : (m q t b : ℤ) → IsNotAbove q t b → IsNotAbove (m +ℤ q) (m *ℤ b +ℤ t) b
moved_out m q t (pos d) h = let sum = add_mul m q (pos d) in omega (arith, ints, sum, h)
moved_out m q t (negsuc d) h = let sum = add_mul m q (negsuc d) in omega (arith, ints, sum, h)

moved_back : (m q t b : ℤ) → IsNotAbove q (m *ℤ b +ℤ t) b → IsNotAbove (q -ℤ m) t b
moved_back m q t (pos d) h = let difference = sub_mul q m (pos d) in omega (arith, ints, difference, h)
moved_back m q t (negsuc d) h = let difference = sub_mul q m (negsuc d) in omega (arith, ints, difference, h)

pub floor_of_sum : (m t b : ℤ) → b ≢ pos 0 → floor_div (m *ℤ b +ℤ t) b ≡ m +ℤ floor_div t b
floor_of_sum m t b ne =
    let floor = floor_is_greatest t b ne in
    only (m +ℤ floor_div t b) (m *ℤ b +ℤ t) b ne (record {
      not_above = moved_out m (floor_div t b) t b floor.not_above;
      greatest = λ other h. let most = floor.greatest (other -ℤ m) (moved_back m other t b h) in omega (arith, ints, most);
    })

-- what remains is shorter than the divisor
next_above : (a b q : ℤ) → IsGreatestNotAbove q a b → IsNotAbove (q +ℤ pos 1) a b → ⊥
next_above a b q is h = let most = is.greatest (q +ℤ pos 1) h in omega (arith, ints, most)

remains : (a b q : ℤ) → b ≢ pos 0 → IsGreatestNotAbove q a b → unsigned_abs (a -ℤ q *ℤ b) < unsigned_abs b
remains a (pos d) q ne is =
    let low = is.not_above in
    let next = add_mul q (pos 1) (pos d) in
    by_lt_z a ((q +ℤ pos 1) *ℤ pos d)
    (λ (h : a <ℤ ((q +ℤ pos 1) *ℤ pos d)). omega (arith, ints, low, next, h))
    (λ (h : ((q +ℤ pos 1) *ℤ pos d) ≤ℤ a). absurd (next_above a (pos d) q is h))
remains a (negsuc d) q ne is =
    let low = is.not_above in
    let next = add_mul q (pos 1) (negsuc d) in
    by_lt_z ((q +ℤ pos 1) *ℤ negsuc d) a
    (λ (h : ((q +ℤ pos 1) *ℤ negsuc d) <ℤ a). omega (arith, ints, low, next, h))
    (λ (h : a ≤ℤ ((q +ℤ pos 1) *ℤ negsuc d)). absurd (next_above a (negsuc d) q is h))

pub remainder_is_short : (a b : ℤ) → b ≢ pos 0 → unsigned_abs (a -ℤ floor_div a b *ℤ b) < unsigned_abs b
remainder_is_short a b ne = remains a b (floor_div a b) ne (floor_is_greatest a b ne)

-- the floor in parts, from what was computed
pub floor_in_parts : (dividend divisor whole parts rest units left quotient : ℤ) → divisor ≢ pos 0 → rest ≡ dividend -ℤ whole *ℤ divisor
    → units ≡ whole *ℤ parts → left ≡ rest *ℤ parts → quotient ≡ floor_div left divisor → units +ℤ quotient ≡ floor_div (dividend *ℤ parts) divisor
floor_in_parts dividend divisor whole parts rest units left quotient ne r u l q =
    let split = sub_mul dividend (whole *ℤ divisor) parts in
    let turned = mul_assoc_ℤ whole divisor parts in
    let swapped = ap (λ n. whole *ℤ n) (mul_comm_ℤ divisor parts) in
    let grouped = mul_assoc_ℤ whole parts divisor in
    let inside : dividend *ℤ parts ≡ (whole *ℤ parts) *ℤ divisor +ℤ left = omega (arith, ints, split, turned, swapped, grouped, l ∙ ap (λ n. n *ℤ parts) r) in
    ap (λ n. n +ℤ quotient) u ∙ ap (λ n. whole *ℤ parts +ℤ n) q ∙ sym (ap (λ n. floor_div n divisor) inside ∙ floor_of_sum (whole *ℤ parts) left divisor ne)
