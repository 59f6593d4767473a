-- The rows in which an edge lies to the left of a column's pixels: one division tells where they end.
use Rattle.std.proofs.Common.{◌≡◌, ℕ, ◌+◌, ◌*◌, ◌<◌, ℤ, pos, negsuc, neg_ℤ, ◌+ℤ◌, ◌-ℤ◌, ◌*ℤ◌, ◌≤ℤ◌, ◌<ℤ◌, Bool, true, false, ◌&&◌, not, max, nat_le, nat_lt, int_le, int_lt, cond, refl, sym, ap, subst, ◌∙◌, arith}
use Rattle.std.specs.Int.{int_div_euclid, int_max, int_min}
use Rattle.std.proofs.Math.IntN.{zero-*ℤ}
use Rattle.std.proofs.lemmas.Bool.{and_from, and_parts, true≢false}
use Rattle.std.proofs.lemmas.Bool.Decides.{nat_tests}
use Rattle.std.proofs.lemmas.Int.{ints}
use Rattle.mapping.specs.TestLaws.{by_test, int_le-false, int_le-from, int_le-not, int_le-true, int_lt-false, int_lt-from, int_lt-true, same_test}
use Rattle.mapping.specs.declared.geometry.Point.{Point}
use Rattle.span_fill.specs.CrossedRows.{HasCrossedRows, HasRowsAfter, HasRowsTo, IsLastMultiple, IsRowOf, reach_of}
use Rattle.span_fill.specs.Fill.{across, crossing_dividend, down, has_row}
use Rattle.span_fill.specs.declared.span.Span.{Span}
use Rattle.span_fill.proofs.FloorLemmas.{floor_least, floor_low}
use Rattle.mapping.proofs.Products.{add_mul, mul_comm_ℤ, mul_neg, mul_twice, order_mul, sub_mul, twice_mul}

-- the floor is the last number whose multiple is at most the dividend
pub last_is_floor : (a e q : ℤ) → pos 1 ≤ℤ e → q ≡ int_div_euclid a e → IsLastMultiple a e q
last_is_floor a e q h is k =
    same_test (int_le k q) (int_le (k *ℤ e) a)
    (λ t. let low = floor_low a e h in
    let order = order_mul k q e (omega (arith, ints, h)) (int_le-true k q t) in
    let flipped = mul_comm_ℤ q e in
    let floor = ap (λ n. e *ℤ n) is in
    int_le-from (k *ℤ e) a (omega (arith, ints, low, order, flipped, floor)))
    (λ t. let below = int_le-true (k *ℤ e) a t in
    let flipped = mul_comm_ℤ k e in
    let least = floor_least a e k h (omega (arith, ints, below, flipped)) in
    int_le-from k q (omega (arith, ints, least, is)))

-- a test that holds in each row of a line adds nothing, and one that fails leaves none
row_test : (u l y : ℤ) (test : Bool) → (u ≤ℤ y → test ≡ true) → ((int_le u y && int_lt y l) && test) ≡ ((int_le u y && int_lt y l) && true)
row_test u l y test holds =
    same_test _ _
    (λ t. and_from _ _ (and_parts _ _ t).0 refl)
    (λ t. let p = (and_parts _ _ t).0 in and_from _ _ p (holds (int_le-true u y (and_parts _ _ p).0)))

no_row : (u l y : ℤ) → ((int_le u y && int_lt y l) && int_le (y -ℤ u) (negsuc 0)) ≡ ((int_le u y && int_lt y l) && false)
no_row u l y =
    same_test _ _
    (λ t. let p = and_parts _ _ t in
    let above = int_le-true u y (and_parts _ _ p.0).0 in
    let below = int_le-true (y -ℤ u) (negsuc 0) p.1 in
    absurd (omega (arith, ints, above, below)))
    (λ t. absurd (true≢false (sym (and_parts _ _ t).1)))

-- nothing times anything
mul_none : (a : ℤ) → a *ℤ pos 0 ≡ pos 0
mul_none a = mul_comm_ℤ a (pos 0) ∙ zero-*ℤ a

-- a line crosses at or to the left of a column's middle where its way across is at most the reach
within_reach : (upper lower : Point) (x y : ℕ) → (crossing_dividend upper lower y -ℤ pos (2 * x + 1) *ℤ down upper lower) ≡ (pos (2 * y + 1) -ℤ pos 2 *ℤ upper.y) *ℤ across upper lower -ℤ reach_of upper lower x
within_reach upper lower x y =
    let d = down upper lower in
    let apart = sub_mul (pos (2 * x + 1)) (pos 2 *ℤ upper.x) d in
    let one = twice_mul upper.x d in
    let other = twice_mul d upper.x in
    let flipped = mul_comm_ℤ d upper.x in
    omega (arith, ints, apart, one, other, flipped)

-- the way across, by whole rows below the upper end
way_by_rows : (upper lower : Point) (y : ℕ) → (pos (2 * y + 1) -ℤ pos 2 *ℤ upper.y) *ℤ across upper lower ≡ (pos y -ℤ upper.y) *ℤ (pos 2 *ℤ across upper lower) +ℤ across upper lower
way_by_rows upper lower y =
    let v = across upper lower in
    let k = pos y -ℤ upper.y in
    let rows : pos (2 * y + 1) -ℤ pos 2 *ℤ upper.y ≡ pos 2 *ℤ k +ℤ pos 1 = omega (arith, ints) in
    let parts = ap (λ n. n *ℤ v) rows ∙ add_mul (pos 2 *ℤ k) (pos 1) v in
    let twice = twice_mul k v in
    let other = mul_twice k v in
    let once : pos 1 *ℤ v ≡ v = omega (arith, ints) in
    omega (arith, ints, parts, twice, other, once)

-- a line that runs to the right is crossed up to a row
right_turn : (upper lower : Point) (x y : ℕ) (last : ℤ) → IsLastMultiple (reach_of upper lower x -ℤ across upper lower) (pos 2 *ℤ across upper lower) last → int_le (pos y -ℤ upper.y) last ≡ int_le (crossing_dividend upper lower y) (pos (2 * x + 1) *ℤ down upper lower)
right_turn upper lower x y last turn =
    let reach = within_reach upper lower x y in
    let way = way_by_rows upper lower y in
    let a = (pos y -ℤ upper.y) *ℤ (pos 2 *ℤ across upper lower) in
    let b = reach_of upper lower x -ℤ across upper lower in
    let c = crossing_dividend upper lower y in
    let d = pos (2 * x + 1) *ℤ down upper lower in
    turn (pos y -ℤ upper.y)
    ∙ same_test (int_le a b) (int_le c d)
    (λ t. let below = int_le-true a b t in int_le-from c d (omega (arith, ints, below, reach, way)))
    (λ t. let below = int_le-true c d t in int_le-from a b (omega (arith, ints, below, reach, way)))

-- and one that runs to the left behind a row
left_turn : (upper lower : Point) (x y : ℕ) (last : ℤ) → IsLastMultiple (across upper lower -ℤ reach_of upper lower x -ℤ pos 1) (pos 2 *ℤ (pos 0 -ℤ across upper lower)) last → int_lt last (pos y -ℤ upper.y) ≡ int_le (crossing_dividend upper lower y) (pos (2 * x + 1) *ℤ down upper lower)
left_turn upper lower x y last turn =
    let v = across upper lower in
    let k = pos y -ℤ upper.y in
    let reach = within_reach upper lower x y in
    let way = way_by_rows upper lower y in
    let whole : pos 2 *ℤ (pos 0 -ℤ v) ≡ neg_ℤ (pos 2 *ℤ v) = omega (arith, ints) in
    let flipped = ap (λ n. k *ℤ n) whole ∙ mul_neg k (pos 2 *ℤ v) in
    let test = turn k in
    let a = k *ℤ (pos 2 *ℤ (pos 0 -ℤ v)) in
    let b = v -ℤ reach_of upper lower x -ℤ pos 1 in
    let c = crossing_dividend upper lower y in
    let d = pos (2 * x + 1) *ℤ down upper lower in
    same_test (int_lt last k) (int_le c d)
    (λ t. let after = int_lt-true last k t in
    let above = int_le-false a b (sym test ∙ int_le-not k last (λ h. omega (arith, ints, h, after))) in
    int_le-from c d (omega (arith, ints, above, flipped, reach, way)))
    (λ t. let below = int_le-true c d t in
    let above = int_le-false k last (test ∙ int_le-not a b (λ h. omega (arith, ints, h, below, flipped, reach, way))) in
    int_lt-from last k above)

-- a line that runs straight down is crossed in all its rows or in none
straight : (upper lower : Point) (x y : ℕ) → across upper lower ≡ pos 0 → int_le (crossing_dividend upper lower y) (pos (2 * x + 1) *ℤ down upper lower) ≡ int_le (pos 0) (reach_of upper lower x)
straight upper lower x y none =
    let reach = within_reach upper lower x y in
    let way = ap (λ n. (pos (2 * y + 1) -ℤ pos 2 *ℤ upper.y) *ℤ n) none ∙ mul_none (pos (2 * y + 1) -ℤ pos 2 *ℤ upper.y) in
    let c = crossing_dividend upper lower y in
    let d = pos (2 * x + 1) *ℤ down upper lower in
    same_test (int_le c d) (int_le (pos 0) (reach_of upper lower x))
    (λ t. let below = int_le-true c d t in int_le-from (pos 0) (reach_of upper lower x) (omega (arith, ints, below, reach, way)))
    (λ t. let below = int_le-true (pos 0) (reach_of upper lower x) t in int_le-from c d (omega (arith, ints, below, reach, way)))

-- the rows of each sort of line
pub crossed_right : (upper lower : Point) (x : ℕ) (last : ℤ) (rows : Span) → IsLastMultiple (reach_of upper lower x -ℤ across upper lower) (pos 2 *ℤ across upper lower) last → HasRowsTo upper lower last rows → HasCrossedRows upper lower x rows
crossed_right upper lower x last rows turn are y h = are y h ∙ ap (λ t. has_row upper lower y && t) (right_turn upper lower x y last turn)

pub crossed_left : (upper lower : Point) (x : ℕ) (last : ℤ) (rows : Span) → IsLastMultiple (across upper lower -ℤ reach_of upper lower x -ℤ pos 1) (pos 2 *ℤ (pos 0 -ℤ across upper lower)) last → HasRowsAfter upper lower last rows → HasCrossedRows upper lower x rows
crossed_left upper lower x last rows turn are y h = are y h ∙ ap (λ t. has_row upper lower y && t) (left_turn upper lower x y last turn)

pub crossed_always : (upper lower : Point) (x : ℕ) (rows : Span) → across upper lower ≡ pos 0 → pos 0 ≤ℤ reach_of upper lower x → HasRowsAfter upper lower (negsuc 0) rows → HasCrossedRows upper lower x rows
crossed_always upper lower x rows none reach are y h =
    let test = straight upper lower x y none ∙ int_le-from (pos 0) (reach_of upper lower x) reach in
    are y h ∙ row_test upper.y lower.y (pos y) (int_lt (negsuc 0) (pos y -ℤ upper.y)) (λ low. int_lt-from (negsuc 0) (pos y -ℤ upper.y) (omega (arith, ints, low))) ∙ ap (λ t. has_row upper lower y && t) (sym test)

pub crossed_never : (upper lower : Point) (x : ℕ) (rows : Span) → across upper lower ≡ pos 0 → reach_of upper lower x <ℤ pos 0 → HasRowsTo upper lower (negsuc 0) rows → HasCrossedRows upper lower x rows
crossed_never upper lower x rows none reach are y h =
    let test = straight upper lower x y none ∙ int_le-not (pos 0) (reach_of upper lower x) (λ k. omega (arith, ints, k, reach)) in
    are y h ∙ no_row upper.y lower.y (pos y) ∙ ap (λ t. has_row upper lower y && t) (sym test)

-- the rows from one number up to before another
not_less : (a b : ℤ) → int_le a b ≡ not (int_lt b a)
not_less a b = by_test (int_lt b a) (λ t. rw t (int_le-not a b (λ h. let less = int_lt-true b a t in omega (arith, ints, h, less)))) (λ f. rw f (int_le-from a b (int_lt-false b a f)))

pub rows_between : (from to : ℤ) (first end last : ℕ) → IsRowOf from first → IsRowOf to end → last ≡ max end first → (y : ℕ) → y < 8192 → (nat_le first y && nat_lt y last) ≡ (int_le from (pos y) && int_lt (pos y) to)
rows_between from to first end last first_is end_is last_is y h =
    let a = first_is y h in
    let b = end_is y h in
    let c = not_less from (pos y) in
    rw (c, ← a, ← b, last_is) (grind (arith, nat_tests))

-- what holds of two numbers holds of the one that is chosen
reached : (m a b : ℤ) (P : ℤ → Type 0) (test : Bool) → m ≡ cond test a b → P a → P b → P m
reached m a b P true is first second = subst P (sym is) first
reached m a b P false is first second = subst P (sym is) second

-- the rows up to one so far below another number
pub rows_up_to : (u l last m y : ℤ) → m ≡ int_min l (u +ℤ last +ℤ pos 1) → m ≤ℤ l → m ≤ℤ (u +ℤ last +ℤ pos 1) → (int_le u y && int_lt y m) ≡ ((int_le u y && int_lt y l) && int_le (y -ℤ u) last)
rows_up_to u l last m y is low high =
    same_test _ _
    (λ t. let p = and_parts _ _ t in
    let below = int_lt-true y m p.1 in
    and_from _ _ (and_from _ _ p.0 (int_lt-from y l (omega (arith, ints, below, low)))) (int_le-from (y -ℤ u) last (omega (arith, ints, below, high))))
    (λ t. let p = and_parts _ _ t in
    let q = and_parts _ _ p.0 in
    let below = int_lt-true y l q.1 in
    let near = int_le-true (y -ℤ u) last p.1 in
    let under : y <ℤ m = reached m (u +ℤ last +ℤ pos 1) l (λ n. y <ℤ n) (int_lt (u +ℤ last +ℤ pos 1) l) is (omega (arith, ints, near)) below in
    and_from _ _ q.0 (int_lt-from y m under))

pub rows_past : (u l last m y : ℤ) → m ≡ int_max u (u +ℤ last +ℤ pos 1) → u ≤ℤ m → (u +ℤ last +ℤ pos 1) ≤ℤ m → (int_le m y && int_lt y l) ≡ ((int_le u y && int_lt y l) && int_lt last (y -ℤ u))
rows_past u l last m y is low high =
    same_test _ _
    (λ t. let p = and_parts _ _ t in
    let above = int_le-true m y p.0 in
    and_from _ _ (and_from _ _ (int_le-from u y (omega (arith, ints, above, low))) p.1) (int_lt-from last (y -ℤ u) (omega (arith, ints, above, high))))
    (λ t. let p = and_parts _ _ t in
    let q = and_parts _ _ p.0 in
    let above = int_le-true u y q.0 in
    let after = int_lt-true last (y -ℤ u) p.1 in
    let under : m ≤ℤ y = reached m u (u +ℤ last +ℤ pos 1) (λ n. n ≤ℤ y) (int_lt (u +ℤ last +ℤ pos 1) u) is above (omega (arith, ints, after)) in
    and_from _ _ (int_le-from m y under) q.1)
