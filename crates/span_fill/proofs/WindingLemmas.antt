-- Changes from row to row, and what they add up to.
use Rattle.std.proofs.Common.{◌≡◌, inl, inr, ℕ, zero, suc, ◌+◌, ◌*◌, ◌<◌, ◌≤◌, ℤ, pos, negsuc, ◌+ℤ◌, ◌-ℤ◌, ◌*ℤ◌, ◌≤ℤ◌, ◌<ℤ◌, Bool, true, false, ◌&&◌, if◌then◌else◌, int_le, int_lt, nat_le, nat_lt, List, [], ◌∷◌, length, get_or, drop, take, refl, sym, ap, ◌∙◌, arith}
use Rattle.std.proofs.Math.ListN.{set}
use Rattle.std.specs.List.{All}
use Rattle.std.proofs.lemmas.Bool.{and_parts, cases_lt, false_from_ne_true, le-leb, le-ltb, lt-leb, lt-ltb}
use Rattle.std.proofs.lemmas.Int.{ints}
use Rattle.std.proofs.lemmas.List.{drop_more}
use Rattle.std.proofs.lemmas.List.Elements.{All-set}
use Rattle.mapping.specs.Limits.{IsWithin}
use Rattle.mapping.specs.TestLaws.{int_le-true, int_lt-true}
use Rattle.mapping.specs.declared.geometry.Point.{Point}
use Rattle.span_fill.specs.CrossedRows.{HasCrossedRows}
use Rattle.span_fill.specs.Fill.{crossing_dividend, down, has_row, is_crossed}
use Rattle.span_fill.specs.Windings.{ChangesFrom, GrowsBy, WindsLine, WindsRows, total, winding}
use Rattle.span_fill.specs.declared.line.Line.{Line}
use Rattle.span_fill.specs.declared.span.Span.{Span}
use Rattle.span_fill.proofs.EdgeLemmas.{within_wider}

-- both numbers one more
next_test : (a b : ℕ) → nat_lt (suc a) (suc b) ≡ nat_lt a b
next_test a b =
    elim (cases_lt a b) [
      | inl below ↦ lt-ltb (suc a) (suc b) (omega (arith, below)) ∙ sym (lt-ltb a b below)
      | inr above ↦ le-ltb (suc a) (suc b) (omega (arith, above)) ∙ sym (le-ltb a b above)
    ]

-- one change more, by its row
changed : (row : ℕ) (by : ℤ) (d : ℤ) (changes : List ℤ) (n : ℕ) → row < length changes → total (take n (set changes row (get_or changes row d +ℤ by))) ≡ total (take n changes) +ℤ (if nat_lt row n then by else pos 0)
changed row by d [] n below = absurd (omega (arith, below))
changed zero by d (c ∷ cs) zero below = omega (arith, ints)
changed zero by d (c ∷ cs) (suc n) below =
    let before : total (take (suc n) (c ∷ cs)) ≡ c +ℤ total (take n cs) = refl in
    let test : (if nat_lt zero (suc n) then by else pos 0) ≡ by = rw (lt-ltb zero (suc n) (omega arith)) refl in
    let after : total (take (suc n) (set (c ∷ cs) zero (get_or (c ∷ cs) zero d +ℤ by))) ≡ (c +ℤ by) +ℤ total (take n cs) = refl in
    omega (arith, ints, before, test, after)
changed (suc row) by d (c ∷ cs) zero below = rw (le-ltb (suc row) zero (omega arith)) (omega (arith, ints))
changed (suc row) by d (c ∷ cs) (suc n) below =
    let rest = changed row by d cs n (omega (arith, below)) in
    let before : total (take (suc n) (c ∷ cs)) ≡ c +ℤ total (take n cs) = refl in
    let test : (if nat_lt (suc row) (suc n) then by else pos 0) ≡ (if nat_lt row n then by else pos 0) = ap (λ t. if t then by else pos 0) (next_test row n) in
    let after : total (take (suc n) (set (c ∷ cs) (suc row) (get_or (c ∷ cs) (suc row) d +ℤ by))) ≡ c +ℤ total (take n (set cs row (get_or cs row d +ℤ by))) = refl in
    omega (arith, ints, before, test, after, rest)

pub changes_from : (row : ℕ) (by d : ℤ) (changes : List ℤ) → row < length changes → ChangesFrom row by changes (set changes row (get_or changes row d +ℤ by))
changes_from row by d changes below n = changed row by d changes n below

-- a change at the first of some rows and one behind the last
one_span : (from to y : ℕ) (by : ℤ) → from ≤ to → ((if nat_lt from (suc y) then by else pos 0) +ℤ (if nat_lt to (suc y) then pos 0 -ℤ by else pos 0)) ≡ (if nat_le from y && nat_lt y to then by else pos 0)
one_span from to y by order =
    elim (cases_lt y from) [
      | inl above ↦ rw (le-ltb from (suc y) (omega (arith, above)), le-ltb to (suc y) (omega (arith, above, order)), lt-leb from y above) (omega (arith, ints))
      | inr below ↦ elim (cases_lt y to) [
        | inl inside ↦ rw (lt-ltb from (suc y) (omega (arith, below)), le-ltb to (suc y) (omega (arith, inside)), le-leb from y below, lt-ltb y to inside) (omega (arith, ints))
        | inr after ↦ rw (lt-ltb from (suc y) (omega (arith, below)), lt-ltb to (suc y) (omega (arith, after)), le-leb from y below, le-ltb y to after) (omega (arith, ints))
      ]
    ]

pub winds_rows : (rows : Span) (by : ℤ) (old between new : List ℤ) → rows.from ≤ rows.to → ChangesFrom rows.from by old between → ChangesFrom rows.to (pos 0 -ℤ by) between new → WindsRows rows by old new
winds_rows rows by old between new order first last y =
    let a = first (suc y) in
    let b = last (suc y) in
    let both = one_span rows.from rows.to y by order in
    omega (arith, ints, a, b, both)

-- a line crosses no row between an end and one that isn't below it
not_crossed : (upper lower : Point) (x y : ℕ) → lower.y ≤ℤ upper.y → is_crossed upper lower x y ≡ false
not_crossed upper lower x y order =
    false_from_ne_true (is_crossed upper lower x y)
    (λ t. let p = and_parts (has_row upper lower y) (int_le (crossing_dividend upper lower y) (pos (2 * x + 1) *ℤ down upper lower)) t in
    let q = and_parts (int_le upper.y (pos y)) (int_lt (pos y) lower.y) p.0 in
    let low = int_le-true upper.y (pos y) q.0 in
    let high = int_lt-true (pos y) lower.y q.1 in
    omega (arith, ints, low, high, order))

-- the winding of one line
one_down : (a b : Bool) → b ≡ false → (if a then pos 1 else pos 0) ≡ pos ((if a then 1 else 0) + 0) -ℤ pos ((if b then 1 else 0) + 0)
one_down true b e = rw e refl
one_down false b e = rw e refl

one_up : (a b : Bool) → a ≡ false → (if b then negsuc 0 else pos 0) ≡ pos ((if a then 1 else 0) + 0) -ℤ pos ((if b then 1 else 0) + 0)
one_up a true e = rw e refl
one_up a false e = rw e refl

pub winds_down : (line : Line) (x : ℕ) (rows : Span) (old new : List ℤ) → line.from.y <ℤ line.to.y → HasCrossedRows line.from line.to x rows → WindsRows rows (pos 1) old new → WindsLine line x old new
winds_down line x rows old new order crossed winds y h =
    winds y
    ∙ ap (λ n. total (take (suc y) old) +ℤ n) (ap (λ t. if t then pos 1 else pos 0) (crossed y h) ∙ one_down _ _ (not_crossed line.to line.from x y (omega (arith, ints, order))))

pub winds_up : (line : Line) (x : ℕ) (rows : Span) (old new : List ℤ) → line.to.y <ℤ line.from.y → HasCrossedRows line.to line.from x rows → WindsRows rows (negsuc 0) old new → WindsLine line x old new
winds_up line x rows old new order crossed winds y h =
    winds y
    ∙ ap (λ n. total (take (suc y) old) +ℤ n) (ap (λ t. if t then negsuc 0 else pos 0) (crossed y h) ∙ one_up _ _ (not_crossed line.from line.to x y (omega (arith, ints, order))))

pub winds_horizontal : (line : Line) (x : ℕ) (old : List ℤ) → line.to.y ≤ℤ line.from.y → line.from.y ≤ℤ line.to.y → WindsLine line x old old
winds_horizontal line x old one other y h =
    let down = not_crossed line.from line.to x y one in
    let up = not_crossed line.to line.from x y other in
    rw (down, up) (omega (arith, ints))

-- the windings of one line more
pub winding_more : (line : Line) (lines : List Line) (x y : ℕ) → winding (line ∷ lines) x y ≡ winding (line ∷ []) x y +ℤ winding lines x y
winding_more line lines x y = omega (arith, ints)

pub line_wound : (lines : List Line) (place : ℕ) (d : Line) (x y : ℕ) (before after all : ℤ) → place < length lines → after ≡ before +ℤ winding (get_or lines place d ∷ []) x y → before +ℤ winding (drop place lines) x y ≡ all → after +ℤ winding (drop (place + 1) lines) x y ≡ all
line_wound lines place d x y before after all inside is so =
    let next = ap (λ ls. winding ls x y) (drop_more lines place d inside) in
    let more = winding_more (get_or lines place d) (drop (place + 1) lines) x y in
    omega (arith, ints, is, so, next, more)

-- without changes nothing winds
pub none_total : (changes : List ℤ) (n : ℕ) → All (IsWithin 0) changes → total (take n changes) ≡ pos 0
none_total changes n none = go n changes (λ k d below. none k d below)
  where
    go : (n : ℕ) (changes : List ℤ) → All (IsWithin 0) changes → total (take n changes) ≡ pos 0
    go zero changes none = refl
    go (suc n) [] none = refl
    go (suc n) (c ∷ cs) none =
        let first = none zero (pos 0) (omega arith) in
        let rest = go n cs (λ k d below. none (suc k) d (omega (arith, below))) in
        let low = first.low in
        let high = first.high in
        omega (arith, ints, low, high, rest)

-- wider bounds of all changes
pub all_wider : (m n : ℕ) (changes : List ℤ) → m ≤ n → All (IsWithin m) changes → All (IsWithin n) changes
all_wider m n changes h all k d below = within_wider m n (get_or changes k d) h (all k d below)

-- and of those with one more
pub grows_by_one : (row : ℕ) (by d : ℤ) (changes : List ℤ) → row < length changes → IsWithin 1 by → GrowsBy 1 changes (set changes row (get_or changes row d +ℤ by))
grows_by_one row by d changes below near most all =
    let here = all row d below in
    let low = here.low in
    let high = here.high in
    let by_low = near.low in
    let by_high = near.high in
    All-set (IsWithin (most + 1)) changes row (get_or changes row d +ℤ by) (record { low = omega (arith, ints, low, by_low); high = omega (arith, ints, high, by_high) }) (all_wider most (most + 1) changes (omega arith) all)
