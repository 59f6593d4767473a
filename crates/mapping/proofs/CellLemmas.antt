-- How many columns lie from where one coordinate lands to where another does.
use Rattle.std.proofs.Common.{◌≡◌, ◌≢◌, ℕ, zero, suc, ◌+◌, ◌-◌, ◌*◌, ◌/◌, ◌<◌, ◌≤◌, ℤ, pos, negsuc, ◌*ℤ◌, ◌≤ℤ◌, ◌<ℤ◌, Bool, true, false, ◌||◌, int_le, int_lt, cond, refl, ap, ◌∙◌, sym, arith}
use Rattle.std.specs.Prelude.{min}
use Rattle.std.proofs.Math.Nat.{mul-le-mul_left, mul-le-mul_right, mul-div_cancel_left, div-mul-le_self, lt-div-mul-add, zero-div, add-mul}
use Rattle.std.proofs.lemmas.Bool.{and_parts, false_from_ne_true}
use Rattle.std.proofs.lemmas.Int.{ints, by_lt_z}
use Rattle.std.proofs.lemmas.Nat.{le-div}
use Rattle.mapping.proofs.FloorLemmas.{floor_is_greatest}
use Rattle.mapping.specs.Floor.{floor_div}
use Rattle.mapping.specs.Limits.{IsFrameSide}
use Rattle.mapping.specs.Pixels.{count_indexes}
use Rattle.mapping.specs.Surface.{placed}
use Rattle.mapping.specs.Cells.{cells, count_of, is_away, lies_from_to, rounded_up}
use Rattle.mapping.specs.CellLaws.{CellLaws}
use Rattle.mapping.proofs.CountLemmas.{count_between, pixels_few}
use Rattle.mapping.specs.IndexLaws.{count_indexes_most, count_indexes_none}
use Rattle.mapping.specs.TestLaws.{int_le-false, int_le-not, int_le-true, int_lt-false, int_lt-not}

-- a number that isn't below 0 has no multiple that is below 0
below_not : (n : ℕ) (q : ℤ) (w side : ℕ) → 1 ≤ w → pos 0 ≤ℤ q → (q *ℤ pos side) ≤ℤ (negsuc n *ℤ pos w) → ⊥
below_not n (negsuc k) w side some g low = omega (arith, ints, g)
below_not n (pos k) w side some g low =
    let product : 1 ≤ suc n * w = omega (arith, mul-le-mul_left (suc n) some) in omega (arith, ints, low, product)

difference : (q p side : ℕ) → p ≤ q → (q - p) * side + p * side ≡ q * side
difference q p side h = let e : q - p + p ≡ q = omega arith in sym (add-mul (q - p) p side) ∙ ap (λ (i : ℕ). i * side) e

-- the difference of two quotients, multiplied
products_apart : (q p side d m n : ℕ) → 1 ≤ side → d + m ≡ n → q * side ≤ n → m < p * side + side → (q - p) * side ≤ d + (side - 1)
products_apart q p side d m n one e a b =
    by_lt_z (pos p) (pos q)
    (λ (g : pos p <ℤ pos q). let s : (q - p) * side + p * side ≡ q * side = difference q p side (omega (arith, ints, g)) in omega arith)
    (λ (g : pos q ≤ℤ pos p). let z : q - p ≡ 0 = omega (arith, ints, g) in rw z (omega arith))

pub counts_ordered : (l r : ℤ) (side : ℕ) → l ≤ℤ r → pos 0 ≤ℤ r → l <ℤ pos side → count_of l ≤ min (count_of r) side
counts_ordered (negsuc m) r side order reaches before = omega arith
counts_ordered (pos m) (negsuc n) side order reaches before = absurd (omega (arith, ints, reaches))
counts_ordered (pos m) (pos n) side order reaches before = omega (arith, ints, order, before)

-- the floor over a side, from both sides
record IsFloor (a : ℤ) (side : ℕ) (q : ℤ) : Type 0 where
  low : (q *ℤ pos side) ≤ℤ a
  greatest : (other : ℤ) → (other *ℤ pos side) ≤ℤ a → other ≤ℤ q

floor_is : (a : ℤ) (side : ℕ) → 1 ≤ side → IsFloor a side (floor_div a (pos side))
floor_is a side one =
    let no : pos side ≢ pos 0 = λ (e : pos side ≡ pos 0). omega (arith, ints, one, e) in
    let h = floor_is_greatest a (pos side) no in record { low = h.not_above; greatest = h.greatest }

-- where r is before the frame, nothing lies before where it lands
pub lands_before : (r : ℤ) (w side : ℕ) → 1 ≤ side → 1 ≤ w → r <ℤ pos 0 → placed r w side <ℤ pos 0
lands_before (pos n) w side one some h = absurd (omega (arith, ints, h))
lands_before (negsuc n) w side one some h =
    let low = (floor_is (negsuc n *ℤ pos w) side one).low in
    by_lt_z (placed (negsuc n) w side) (pos 0)
    (λ (g : placed (negsuc n) w side <ℤ pos 0). g)
    (λ (g : pos 0 ≤ℤ placed (negsuc n) w side). absurd (below_not n (placed (negsuc n) w side) w side some g low))

-- and where l is behind it, it lands behind the surface
pub lands_after : (l : ℤ) (w side : ℕ) → 1 ≤ side → pos side ≤ℤ l → pos w ≤ℤ placed l w side
lands_after (negsuc n) w side one h = absurd (omega (arith, ints, h))
lands_after (pos n) w side one h =
    let le : side ≤ n = omega (arith, ints, h) in
    let product : w * side ≤ n * w = omega (arith, mul-le-mul_left w le) in
    (floor_is (pos n *ℤ pos w) side one).greatest (pos w) (omega (arith, ints, product))

span_parts : (l r : ℤ) (w side x : ℕ) → lies_from_to l r w side x ≡ true → (placed l w side ≤ℤ pos x) × (pos x ≤ℤ placed r w side)
span_parts l r w side x t =
    let parts = and_parts (int_le (placed l w side) (pos x)) (int_le (pos x) (placed r w side)) t in (int_le-true _ _ parts.0, int_le-true _ _ parts.1)

none_before : (l r : ℤ) (w side : ℕ) → 1 ≤ side → r <ℤ pos 0 → count_indexes (lies_from_to l r w side) 0 w ≡ 0
none_before l r zero side one h = refl
none_before l r (suc w) side one h =
    let before = lands_before r (suc w) side one (omega arith) h in
    count_indexes_none (lies_from_to l r (suc w) side) 0 (suc w)
    (λ x low small. false_from_ne_true _ (λ t. let high = (span_parts l r (suc w) side x t).1 in omega (arith, ints, high, before)))

none_after : (l r : ℤ) (w side : ℕ) → 1 ≤ side → pos side ≤ℤ l → count_indexes (lies_from_to l r w side) 0 w ≡ 0
none_after l r w side one h =
    let after = lands_after l w side one h in
    count_indexes_none (lies_from_to l r w side) 0 w
    (λ x first small. false_from_ne_true _ (λ t. let low = (span_parts l r w side x t).0 in omega (arith, ints, low, after, small)))

-- the first column is not before where l lands, or column 0
pub first_from : (l : ℤ) (w side x : ℕ) → 1 ≤ side → placed l w side ≤ℤ pos x → count_of l * w / side ≤ x
first_from (pos n) w side x one h = let k : pos (n * w / side) ≤ℤ pos x = h in omega (arith, ints, k)
first_from (negsuc n) w side x one h = let z : zero * w / side ≡ 0 = ap (λ (i : ℕ). i / side) (omega arith) ∙ zero-div side in omega (arith, z)

-- and the last one not behind where r lands, or the last of the surface
pub last_to : (r : ℤ) (w side x : ℕ) → 1 ≤ side → x < w → pos x ≤ℤ placed r w side → x ≤ min (count_of r) side * w / side
last_to (negsuc n) w side x one small h =
    let before = lands_before (negsuc n) w side one (omega (arith, small)) (omega (arith, ints)) in absurd (omega (arith, ints, before, h))
last_to (pos n) w side x one small h =
    by_lt_z (pos side) (pos n)
    (λ (g : pos side <ℤ pos n).
    let e : min n side ≡ side = omega (arith, ints, g) in
    let f : side * w / side ≡ w = mul-div_cancel_left w (omega arith) in rw (e, f) (omega arith))
    (λ (g : pos n ≤ℤ pos side).
    let e : min n side ≡ n = omega (arith, ints, g) in
    let k : pos x ≤ℤ pos (n * w / side) = h in rw e (omega (arith, ints, k)))

-- floors of two fractions are no further apart than what lies between, rounded up
pub floors_apart : (m n w side : ℕ) → 1 ≤ side → m ≤ n → n * w / side - m * w / side ≤ rounded_up ((n - m) * w) side
floors_apart m n w side one h =
    let d : (n - m) * w + m * w ≡ n * w = difference n m w h in
    let a = div-mul-le_self (n * w) side in
    let b : m * w < m * w / side * side + side = lt-div-mul-add one in
    let apart : (n * w / side - m * w / side) * side ≤ (n - m) * w + (side - 1) = products_apart (n * w / side) (m * w / side) side ((n - m) * w) (m * w) (n * w) one d a b in
    le-div (n * w / side - m * w / side) ((n - m) * w + (side - 1)) side one apart

-- where the box isn't away
near_few : (l r : ℤ) (w side : ℕ) → 1 ≤ side → l ≤ℤ r → pos 0 ≤ℤ r → l <ℤ pos side → count_indexes (lies_from_to l r w side) 0 w ≤ min w (rounded_up ((min (count_of r) side - count_of l) * w) side + 1)
near_few l r w side one order reaches before =
    let all = count_indexes_most (lies_from_to l r w side) 0 w in
    let a : ℕ = count_of l * w / side in
    let b : ℕ = min (count_of r) side * w / side in
    let between = count_between (lies_from_to l r w side) (count_of l * w / side) (min (count_of r) side * w / side) 0 w
    (λ x small t. let parts = span_parts l r w side x t in (first_from l w side x one parts.0, last_to r w side x one (omega arith) parts.1)) in
    let ordered : count_of l ≤ min (count_of r) side = counts_ordered l r side order reaches before in
    let apart = floors_apart (count_of l) (min (count_of r) side) w side one ordered in
    omega (arith, all, between, apart)

-- the three ways to be away, or none
pub by_away : {P : Type 0} (l r : ℤ) (side : ℕ) → (r <ℤ l → P) → (r <ℤ pos 0 → P) → (pos side ≤ℤ l → P) → (l ≤ℤ r → pos 0 ≤ℤ r → l <ℤ pos side → P) → P
by_away l r side empty before after near =
    by_lt_z r l empty (λ (order : l ≤ℤ r). by_lt_z r (pos 0) before (λ (reaches : pos 0 ≤ℤ r). by_lt_z l (pos side) (λ (g : l <ℤ pos side). near order reaches g) after))

pub isnt_away : (l r : ℤ) (side : ℕ) → l ≤ℤ r → pos 0 ≤ℤ r → l <ℤ pos side → is_away l r side ≡ false
isnt_away l r side a b c =
    let empty : int_lt r l ≡ false = int_lt-not r l a in
    let before : int_lt r (pos 0) ≡ false = int_lt-not r (pos 0) b in
    let after : int_le (pos side) l ≡ false = int_le-not (pos side) l (λ k. omega (arith, ints, k, c)) in
    rw (empty, before, after) refl

few : (l r : ℤ) (w side : ℕ) → IsFrameSide side → l ≤ℤ r → count_indexes (lies_from_to l r w side) 0 w ≤ cells l r w side
few l r w side allowed order =
    let one = allowed.not_empty in
    by_away l r side
    (λ (g : r <ℤ l). absurd (omega (arith, ints, g, order)))
    (λ (g : r <ℤ pos 0). let e = none_before l r w side one g in omega arith)
    (λ (g : pos side ≤ℤ l). let e = none_after l r w side one g in omega arith)
    (λ (a : l ≤ℤ r) (b : pos 0 ≤ℤ r) (c : l <ℤ pos side). rw (isnt_away l r side a b c) (near_few l r w side one a b c))

cond_most : (b : Bool) (m n : ℕ) → m ≤ n → cond b 0 m ≤ cond b 0 n
cond_most true m n h = omega arith
cond_most false m n h = h

rounded_grows : (d w longer side : ℕ) → 1 ≤ side → w ≤ longer → rounded_up (d * w) side ≤ rounded_up (d * longer) side
rounded_grows d w longer side one h =
    let product : d * w ≤ d * longer = mul-le-mul_left d h in
    le-div (rounded_up (d * w) side) (d * longer + (side - 1)) side one (omega (arith, div-mul-le_self (d * w + (side - 1)) side, product))

grows : (l r : ℤ) (w longer side : ℕ) → IsFrameSide side → w ≤ longer → cells l r w side ≤ cells l r longer side
grows l r w longer side allowed h =
    let more = rounded_grows (min (count_of r) side - count_of l) w longer side allowed.not_empty h in
    cond_most (is_away l r side) _ _ (omega (arith, more, h))

-- unless one of three tests holds
unless : (a b c : Bool) (m n : ℕ) → (a ≡ false → b ≡ false → c ≡ false → m ≤ n) → cond (a || (b || c)) 0 m ≤ n
unless false false false m n h = h refl refl refl
unless true b c m n h = omega arith
unless false true c m n h = omega arith
unless false false true m n h = omega arith

rounded_widens : (d e w side : ℕ) → 1 ≤ side → d ≤ e → rounded_up (d * w) side ≤ rounded_up (e * w) side
rounded_widens d e w side one h =
    let product : d * w ≤ e * w = mul-le-mul_right w h in
    le-div (rounded_up (d * w) side) (e * w + (side - 1)) side one (omega (arith, div-mul-le_self (d * w + (side - 1)) side, product))

counts_grow : (u v : ℤ) → u ≤ℤ v → count_of u ≤ count_of v
counts_grow (negsuc m) v h = omega arith
counts_grow (pos m) (negsuc n) h = absurd (omega (arith, ints, h))
counts_grow (pos m) (pos n) h = omega (arith, ints, h)

near_widens : (l k r q : ℤ) (w side : ℕ) → 1 ≤ side → l ≤ℤ k → q ≤ℤ r → k ≤ℤ q → pos 0 ≤ℤ q → k <ℤ pos side
    → min w (rounded_up ((min (count_of q) side - count_of k) * w) side + 1) ≤ cells l r w side
near_widens l k r q w side one low high order reaches before =
    let from = counts_grow l k low in
    let to = counts_grow q r high in
    let more = rounded_widens (min (count_of q) side - count_of k) (min (count_of r) side - count_of l) w side one (omega (arith, from, to)) in
    rw (isnt_away l r side (omega (arith, ints, low, order, high)) (omega (arith, ints, reaches, high)) (omega (arith, ints, low, before))) (omega (arith, more))

widens : (l k r q : ℤ) (w side : ℕ) → IsFrameSide side → l ≤ℤ k → q ≤ℤ r → cells k q w side ≤ cells l r w side
widens l k r q w side allowed low high =
    unless (int_lt q k) (int_lt q (pos 0)) (int_le (pos side) k) (min w (rounded_up ((min (count_of q) side - count_of k) * w) side + 1)) (cells l r w side)
    (λ a b c. near_widens l k r q w side allowed.not_empty low high (int_lt-false q k a) (int_lt-false q (pos 0) b) (int_le-false (pos side) k c))

pub cells_law : CellLaws
cells_law = record {
  few = few;
  grows = grows;
  widens = widens;
  pixels = λ row column test w n both. pixels_few test column row w both n;
}
