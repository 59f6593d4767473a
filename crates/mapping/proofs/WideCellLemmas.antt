-- How many columns a nib covers that is led from where one coordinate lands to where another does.
use Rattle.std.proofs.Common.{◌≡◌, ℕ, zero, suc, ◌+◌, ◌-◌, ◌*◌, ◌/◌, ◌<◌, ◌≤◌, ℤ, pos, ◌+ℤ◌, ◌-ℤ◌, ◌≤ℤ◌, ◌<ℤ◌, Bool, true, false, int_le, int_lt, ◌&&◌, cond, ◌⊎◌, inl, inr, refl, arith}
use Rattle.std.specs.Prelude.{min}
use Rattle.std.proofs.Math.Nat.{div-le_self}
use Rattle.std.proofs.lemmas.Bool.{and_parts, false_from_ne_true}
use Rattle.std.proofs.lemmas.Int.{ints, by_lt_z}
use Rattle.mapping.specs.TestLaws.{int_le-true, int_lt-false, int_lt-not}
use Rattle.mapping.specs.IndexLaws.{count_indexes_most, count_indexes_none}
use Rattle.mapping.specs.Limits.{IsFrameSide}
use Rattle.mapping.specs.Pixels.{count_indexes}
use Rattle.mapping.specs.Surface.{placed}
use Rattle.mapping.specs.Cells.{cells, count_of, is_away, lies_near, rounded_up, wide_cells}
use Rattle.mapping.specs.CellLaws.{WideCellLaws}
use Rattle.mapping.specs.Nibs.{reach_after, reach_before}
use Rattle.mapping.proofs.CountLemmas.{count_between}
use Rattle.mapping.proofs.CellLemmas.{by_away, cells_law, counts_ordered, first_from, floors_apart, isnt_away, lands_before, lands_after, last_to}

-- the column lies at most so many before where l lands, and so many after where r does
abbrev lies_within : ℤ → ℤ → ℕ → ℕ → ℕ → ℕ → ℕ → Bool
lies_within l r before after w side x = int_le (placed l w side -ℤ pos before) (pos x) && int_le (pos x) (placed r w side +ℤ pos after)

near_parts : (l r : ℤ) (before after w side x : ℕ) → lies_within l r before after w side x ≡ true
    → ((placed l w side -ℤ pos before) ≤ℤ pos x) × (pos x ≤ℤ (placed r w side +ℤ pos after))
near_parts l r before after w side x t =
    let parts = and_parts (int_le (placed l w side -ℤ pos before) (pos x)) (int_le (pos x) (placed r w side +ℤ pos after)) t in
    (int_le-true _ _ parts.0, int_le-true _ _ parts.1)

-- indexes below a number are as many at most
count_below : (test : ℕ → Bool) (most w : ℕ) → ((i : ℕ) → i < w → test i ≡ true → i < most) → count_indexes test 0 w ≤ most
count_below test zero w h = let e = count_indexes_none test 0 w (λ i first small. false_from_ne_true _ (λ t. let k = h i (omega arith) t in omega (arith, k))) in omega (arith, e)
count_below test (suc most) w h = let k = count_between test 0 most 0 w (λ i small t. let k = h i (omega arith) t in (omega arith, omega (arith, k))) in omega (arith, k)

-- and the last ones as many at most
count_last : (test : ℕ → Bool) (most w : ℕ) → ((i : ℕ) → i < w → test i ≡ true → w ≤ i + most) → count_indexes test 0 w ≤ most
count_last test most zero h = omega arith
count_last test most (suc w) h =
    let k = count_between test (suc w - most) w 0 (suc w) (λ i small t. let k = h i (omega arith) t in (omega (arith, k), omega (arith, small))) in omega (arith, k)

-- the first column is at most so many before where l lands
near_first : (l : ℤ) (before w side x : ℕ) → 1 ≤ side → (placed l w side -ℤ pos before) ≤ℤ pos x → count_of l * w / side ≤ x + before
near_first l before w side x one h = first_from l w side (x + before) one (omega (arith, ints, h))

-- and the last one at most so many after where r does
near_last : (r : ℤ) (after w side x : ℕ) → 1 ≤ side → x < w → pos 0 ≤ℤ r → pos x ≤ℤ (placed r w side +ℤ pos after) → x ≤ min (count_of r) side * w / side + after
near_last r after w side x one small reaches h =
    by_lt_z (pos after) (pos x)
    (λ (g : pos after <ℤ pos x).
    let k = last_to r w side (x - after) one (omega (arith, small)) (omega (arith, ints, h, g)) in omega (arith, k))
    (λ (g : pos x ≤ℤ pos after). omega (arith, ints, g))

near_few : (l r : ℤ) (before after w side n : ℕ) → 1 ≤ side → l ≤ℤ r → pos 0 ≤ℤ r → l <ℤ pos side → before + after ≤ n - 1
    → count_indexes (lies_within l r before after w side) 0 w ≤ min w (min w (rounded_up ((min (count_of r) side - count_of l) * w) side + 1) + (n - 1))
near_few l r before after w side n one order reaches starts fits =
    let all = count_indexes_most (lies_within l r before after w side) 0 w in
    let between = count_between (lies_within l r before after w side) (count_of l * w / side - before) (min (count_of r) side * w / side + after) 0 w
    (λ x small t. let parts = near_parts l r before after w side x t in
    let low = near_first l before w side x one parts.0 in
    (omega (arith, low), near_last r after w side x one (omega (arith, small)) reaches parts.1)) in
    let apart = floors_apart (count_of l) (min (count_of r) side) w side one (counts_ordered l r side order reaches starts) in
    omega (arith, all, between, apart, fits)

-- where r is before the frame, or l after it, the nib reaches onto the surface
far_few : (l r : ℤ) (before after w side n : ℕ) → 1 ≤ side → l ≤ℤ r → before + after ≤ n - 1 → (r <ℤ pos 0) ⊎ (pos side ≤ℤ l)
    → count_indexes (lies_within l r before after w side) 0 w ≤ min w (n - 1)
far_few l r before after zero side n one order fits far = omega arith
far_few l r before after (suc w) side n one order fits (inl h) =
    let lands = lands_before r (suc w) side one (omega arith) h in
    let all = count_indexes_most (lies_within l r before after (suc w) side) 0 (suc w) in
    let few = count_below (lies_within l r before after (suc w) side) after (suc w)
    (λ x small t. let high = (near_parts l r before after (suc w) side x t).1 in omega (arith, ints, high, lands)) in
    omega (arith, all, few, fits)
far_few l r before after (suc w) side n one order fits (inr h) =
    let lands = lands_after l (suc w) side one h in
    let all = count_indexes_most (lies_within l r before after (suc w) side) 0 (suc w) in
    let few = count_last (lies_within l r before after (suc w) side) before (suc w)
    (λ x small t. let low = (near_parts l r before after (suc w) side x t).0 in omega (arith, ints, low, lands)) in
    omega (arith, all, few, fits)

both_reaches : (n : ℕ) → reach_before n + reach_after n ≤ n - 1
both_reaches n = let h = div-le_self (n - 1) 2 in omega (arith, h)

few : (l r : ℤ) (w side n : ℕ) → IsFrameSide side → l ≤ℤ r → count_indexes (lies_near l r w side n) 0 w ≤ wide_cells l r w side n
few l r w side n allowed order =
    let one = allowed.not_empty in
    let fits = both_reaches n in
    let not_empty : int_lt r l ≡ false = int_lt-not r l order in
    by_away l r side
    (λ (g : r <ℤ l). absurd (omega (arith, ints, g, order)))
    (λ (g : r <ℤ pos 0). let k = far_few l r (reach_before n) (reach_after n) w side n one order fits (inl g) in rw not_empty (omega (arith, k)))
    (λ (g : pos side ≤ℤ l). let k = far_few l r (reach_before n) (reach_after n) w side n one order fits (inr g) in rw not_empty (omega (arith, k)))
    (λ (a : l ≤ℤ r) (b : pos 0 ≤ℤ r) (c : l <ℤ pos side).
    let k = near_few l r (reach_before n) (reach_after n) w side n one a b c fits in rw (isnt_away l r side a b c, not_empty) k)

-- a wider nib, or a longer side
unless : (test : Bool) (a b : ℕ) → (test ≡ false → a ≤ b) → cond test 0 a ≤ cond test 0 b
unless true a b h = omega arith
unless false a b h = h refl

grows : (l r : ℤ) (w longer side n wider : ℕ) → IsFrameSide side → w ≤ longer → n ≤ wider → wide_cells l r w side n ≤ wide_cells l r longer side wider
grows l r w longer side n wider allowed long wide =
    let more = cells_law.grows l r w longer side allowed long in
    unless (int_lt r l) (min w (cells l r w side + (n - 1))) (min longer (cells l r longer side + (wider - 1))) (λ e. omega (arith, more, long, wide))

-- unless the narrower one has nothing
unless_empty : (test other : Bool) (a b : ℕ) → (test ≡ false → other ≡ false) → a ≤ b → cond test 0 a ≤ cond other 0 b
unless_empty true other a b h k = omega arith
unless_empty false other a b h k = rw (h refl) k

widens : (l k r q : ℤ) (w side n wider : ℕ) → IsFrameSide side → l ≤ℤ k → q ≤ℤ r → n ≤ wider → wide_cells k q w side n ≤ wide_cells l r w side wider
widens l k r q w side n wider allowed low high wide =
    let more = cells_law.widens l k r q w side allowed low high in
    unless_empty (int_lt q k) (int_lt r l) (min w (cells k q w side + (n - 1))) (min w (cells l r w side + (wider - 1)))
    (λ e. let order = int_lt-false q k e in int_lt-not r l (omega (arith, ints, low, high, order)))
    (omega (arith, more, wide))

-- the least of a number and one that is no greater
least_of : (away : Bool) (w n : ℕ) → min w (cond away 0 (min w n) + (1 - 1)) ≡ cond away 0 (min w n)
least_of true w n = omega arith
least_of false w n = omega arith

one_of : (empty away : Bool) (w n : ℕ) → (empty ≡ true → away ≡ true) → cond empty 0 (min w (cond away 0 (min w n) + (1 - 1))) ≡ cond away 0 (min w n)
one_of true away w n h = rw (h refl) refl
one_of false away w n h = least_of away w n

one : (l r : ℤ) (w side : ℕ) → wide_cells l r w side 1 ≡ cells l r w side
one l r w side = one_of (int_lt r l) (is_away l r side) w (rounded_up ((min (count_of r) side - count_of l) * w) side + 1) (λ e. rw e refl)

pub wide_cells_law : WideCellLaws
wide_cells_law = record { few = few; grows = grows; widens = widens; one = one }
