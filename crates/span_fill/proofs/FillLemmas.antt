-- The edges that cross a row, from those that crossed the row above; what they have inside; and where they cross.
use Rattle.std.proofs.Common.{◌≡◌, inl, inr, ℕ, suc, ◌+◌, ◌<◌, ◌≤◌, ℤ, pos, negsuc, ◌<ℤ◌, true, false, ◌&&◌, not, int_le, int_lt, nat_le, nat_lt, if◌then◌else◌, List, [], ◌∷◌, ◌++◌, length, get_or, map, refl, sym, ap, ◌∙◌, arith}
use Rattle.std.specs.List.{All, filter, sum_by}
use Rattle.std.specs.List.Sorted.{IsNonDecreasingBy, IsPermutation}
use Rattle.std.proofs.lemmas.Bool.{cases_Bool, cases_lt}
use Rattle.std.proofs.lemmas.Bool.Decides.{nat_tests}
use Rattle.std.proofs.lemmas.Int.{ints}
use Rattle.std.proofs.lemmas.List.Elements.{All-append, All-cons, All-filter, All-head, All-map, All-nil, All-tail, All-weaker, filter-append}
use Rattle.std.proofs.lemmas.List.Recursion.{is_sum_by}
use Rattle.std.proofs.lemmas.List.Sorted.{All-permutation, IsPermutation-append, IsPermutation-map, IsPermutation-trans, sum_by-IsPermutation}
use Rattle.mapping.specs.TestLaws.{int_le-true, int_lt-false, int_lt-true}
use Rattle.mapping.specs.declared.geometry.Point.{Point}
use Rattle.span_fill.specs.Edges.{EdgeCanMove, IsEdge, active_at, active_edges, begins_after, begins_by, column_of, crosses_row, edges_from, edges_of_line, ends_after, edge_first_row, goes_to, moved, near_row}
use Rattle.span_fill.specs.Fill.{crossed_downwards, crossed_upwards, has_row, in_fill, is_crossed, is_inside}
use Rattle.span_fill.specs.Lines.{HasNearEnds}
use Rattle.span_fill.specs.Sweep.{CrossFrom, AreSorted, downwards_at, upwards_at}
use Rattle.span_fill.specs.declared.edge.ActiveEdge.{ActiveEdge}
use Rattle.span_fill.specs.declared.edge.Edge.{Edge}
use Rattle.span_fill.specs.declared.fill_rule.FillRule.{FillRule}
use Rattle.span_fill.specs.declared.line.Line.{Line}
use Rattle.span_fill.proofs.EdgeLemmas.{can_move, column_crossed, moved_is_next}
use Rattle.span_fill.proofs.Reordering.{IsPermutation-filter, IsPermutation-same, Splits, by_first, by_second, filter_both, filter_split, filter_twice}

-- rows in place of coordinates
by_row : (v : ℤ) (y : ℕ) → int_le v (pos y) ≡ nat_le (near_row v) y
by_row (pos n) y = grind (arith, ints, nat_tests)
by_row (negsuc n) y = grind (arith, ints, nat_tests)

after_row : (v : ℤ) (y : ℕ) → int_lt (pos y) v ≡ nat_lt y (near_row v)
after_row (pos n) y = grind (arith, ints, nat_tests)
after_row (negsuc n) y = grind (arith, ints, nat_tests)

-- an edge crosses a row where it has begun and doesn't end
crosses_is : (y : ℕ) (edge : Edge) → crosses_row y edge ≡ (begins_by y edge && ends_after y edge)
crosses_is y edge = ap (λ t. t && int_lt (pos y) edge.lower.y) (by_row edge.upper.y y) ∙ ap (λ t. begins_by y edge && t) (after_row edge.lower.y y)

-- an edge that begins below the first row ends below its first one
row_order : (u v : ℤ) → u <ℤ v → 0 < near_row u → near_row u < near_row v
row_order (pos n) (pos m) h k = omega (arith, ints, h)
row_order (pos n) (negsuc m) h k = absurd (omega (arith, ints, h))
row_order (negsuc n) v h k = absurd (omega (arith, k))

-- of an edge that ends behind a row: it crosses the row where it has begun, and else waits
crosses_twice : (y : ℕ) (edge : Edge) → crosses_row y edge ≡ (ends_after y edge && begins_by y edge)
crosses_twice y edge = let e = crosses_is y edge in grind (arith, nat_tests)

waits_twice : (y : ℕ) (edge : Edge) → IsEdge edge → begins_after y edge ≡ (ends_after y edge && begins_after y edge)
waits_twice y edge h =
    elim (cases_lt y (edge_first_row edge)) [
      | inl k ↦ let order = row_order edge.upper.y edge.lower.y h.order (omega (arith, k)) in grind (arith, nat_tests)
      | inr k ↦ grind (arith, nat_tests)
    ]

-- an edge that waits still waits, or begins
waits_next : (y z : ℕ) (edge : Edge) → z ≡ y + 1 → begins_after z edge ≡ (begins_after y edge && begins_after z edge)
waits_next y z edge e = grind (arith, nat_tests)

-- an edge crosses the next row if it crossed this one and doesn't end, or if it waited and begins
splits_next : (y z : ℕ) (edge : Edge) → z ≡ y + 1 → IsEdge edge → Splits (crosses_row z edge) (crosses_row y edge && ends_after z edge) (begins_after y edge && begins_by z edge)
splits_next y z edge e h =
    let now_ = crosses_is y edge in
    let next = crosses_is z edge in
    elim (cases_lt y (edge_first_row edge)) [
      | inl k ↦ let order = row_order edge.upper.y edge.lower.y h.order (omega (arith, k)) in
          by_second (next ∙ grind (arith, nat_tests)) (ap (λ t. t && ends_after z edge) now_ ∙ grind (arith, nat_tests))
      | inr k ↦ by_first (next ∙ sym (ap (λ t. t && ends_after z edge) now_ ∙ grind (arith, nat_tests))) (grind (arith, nat_tests))
    ]

-- what edges still cross, of those that crossed
goes_on : (y z : ℕ) (edges : List Edge) → filter (goes_to z) (map (active_at y) edges) ≡ map (active_at y) (filter (ends_after z) edges)
goes_on y z [] = refl
goes_on y z (edge ∷ edges) =
    let rest = goes_on y z edges in
    elim (cases_Bool (ends_after z edge)) [
      | inl t ↦ rw t (ap (λ es. active_at y edge ∷ es) rest)
      | inr f ↦ rw f rest
    ]

moved_edges : (y z : ℕ) (edges : List Edge) → z ≡ y + 1 → All IsEdge edges → map moved (map (active_at y) edges) ≡ map (active_at z) edges
moved_edges y z [] e h = refl
moved_edges y z (edge ∷ edges) e h =
    let flipped : suc y ≡ z = omega (arith, e) in
    let first = moved_is_next edge y (All-head IsEdge edge edges h) ∙ ap (λ n. active_at n edge) flipped in
    let rest = moved_edges y z edges e (All-tail IsEdge edge edges h) in
    ap (λ e. e ∷ map moved (map (active_at y) edges)) first ∙ ap (λ es. active_at z edge ∷ es) rest

map_append : (y : ℕ) (xs ys : List Edge) → map (active_at y) (xs ++ ys) ≡ map (active_at y) xs ++ map (active_at y) ys
map_append y [] ys = refl
map_append y (x ∷ xs) ys = ap (λ es. active_at y x ∷ es) (map_append y xs ys)

-- all edges of which something is so
for_all : (P : Edge → Type 0) (edges : List Edge) → ((edge : Edge) → P edge) → All P edges
for_all P [] h = All-nil P
for_all P (edge ∷ edges) h = All-cons P edge edges (h edge) (for_all P edges h)

-- the edges that cross the next row: those that still do, and those that begin
pub next_active : (y z : ℕ) (edges waiting : List Edge) (active next : List ActiveEdge) → z ≡ y + 1 → All IsEdge edges → IsPermutation (active_edges y edges) active → IsPermutation (filter (begins_after y) edges) waiting → next ≡ map moved (filter (goes_to z) active) ++ map (active_at z) (filter (begins_by z) waiting) → IsPermutation (active_edges z edges) next
next_active y z edges waiting active next e near so wait is =
    let still = filter (λ e. crosses_row y e && ends_after z e) edges in
    let begun = filter (λ e. begins_after y e && begins_by z e) edges in
    let split = filter_split (crosses_row z) (λ e. crosses_row y e && ends_after z e) (λ e. begins_after y e && begins_by z e) edges (All-weaker IsEdge (λ e. Splits (crosses_row z e) (crosses_row y e && ends_after z e) (begins_after y e && begins_by z e)) (λ edge. splits_next y z edge e) edges near) in
    let both = IsPermutation-map (active_at z) _ _ split in
    let goes = goes_on y z (filter (crosses_row y) edges) ∙ ap (map (active_at y)) (filter_both (crosses_row y) (ends_after z) edges) in
    let on = ap (map moved) goes ∙ moved_edges y z still e (All-filter (λ e. crosses_row y e && ends_after z e) IsEdge edges near) in
    let first = IsPermutation-map moved _ _ (IsPermutation-filter (goes_to z) _ _ so) in
    let begin = filter_both (begins_after y) (begins_by z) edges in
    let second = IsPermutation-map (active_at z) _ _ (IsPermutation-filter (begins_by z) _ _ wait) in
    let parts = IsPermutation-append _ _ _ _ first second in
    IsPermutation-trans _ _ _ both
    (IsPermutation-trans _ _ _ (IsPermutation-same _ _ (map_append z still begun ∙ ap (λ es. es ++ map (active_at z) begun) (sym on) ∙ ap (λ es. map moved (filter (goes_to z) (active_edges y edges)) ++ map (active_at z) es) (sym begin)))
    (IsPermutation-trans _ _ _ parts (IsPermutation-same _ _ (sym is))))

-- and those that wait
pub next_waiting : (y z : ℕ) (edges waiting next : List Edge) → z ≡ y + 1 → IsPermutation (filter (begins_after y) edges) waiting → next ≡ filter (begins_after z) waiting → IsPermutation (filter (begins_after z) edges) next
next_waiting y z edges waiting next e wait is =
    let twice = filter_twice (begins_after y) (begins_after z) (begins_after z) edges (for_all _ edges (λ edge. waits_next y z edge e)) in
    IsPermutation-trans _ _ _ (IsPermutation-same _ _ (sym twice))
    (IsPermutation-trans _ _ _ (IsPermutation-filter (begins_after z) _ _ wait) (IsPermutation-same _ _ (sym is)))

-- the edges that cross the first row, of those that end behind it
pub first_active : (y : ℕ) (edges waiting : List Edge) (active : List ActiveEdge) → IsPermutation (filter (ends_after y) edges) waiting → active ≡ map (active_at y) (filter (begins_by y) waiting) → IsPermutation (active_edges y edges) active
first_active y edges waiting active wait is =
    let twice = filter_twice (ends_after y) (begins_by y) (crosses_row y) edges (for_all _ edges (crosses_twice y)) in
    IsPermutation-trans _ _ _ (IsPermutation-same _ _ (ap (map (active_at y)) (sym twice)))
    (IsPermutation-trans _ _ _ (IsPermutation-map (active_at y) _ _ (IsPermutation-filter (begins_by y) _ _ wait)) (IsPermutation-same _ _ (sym is)))

pub first_waiting : (y : ℕ) (edges waiting next : List Edge) → All IsEdge edges → IsPermutation (filter (ends_after y) edges) waiting → next ≡ filter (begins_after y) waiting → IsPermutation (filter (begins_after y) edges) next
first_waiting y edges waiting next near wait is =
    let twice = filter_twice (ends_after y) (begins_after y) (begins_after y) edges (All-weaker IsEdge (λ e. begins_after y e ≡ (ends_after y e && begins_after y e)) (waits_twice y) edges near) in
    IsPermutation-trans _ _ _ (IsPermutation-same _ _ (sym twice))
    (IsPermutation-trans _ _ _ (IsPermutation-filter (begins_after y) _ _ wait) (IsPermutation-same _ _ (sym is)))

-- the numbers of those that cross leave room for the next row
pub all_can_move : (y : ℕ) (edges : List Edge) (active : List ActiveEdge) → All IsEdge edges → y ≤ 8192 → IsPermutation (active_edges y edges) active → All EdgeCanMove active
all_can_move y edges active near row so =
    All-permutation EdgeCanMove (active_edges y edges) active so
    (All-map EdgeCanMove (active_at y) (filter (crosses_row y) edges)
    (All-weaker IsEdge (λ e. EdgeCanMove (active_at y e)) (λ e h. can_move e y h row) (filter (crosses_row y) edges) (All-filter (crosses_row y) IsEdge edges near)))

-- the edges of lines whose ends are near
edges_of_line-near : (number : ℕ) (line : Line) → HasNearEnds line → All IsEdge (edges_of_line number line)
edges_of_line-near number line h =
    elim (cases_Bool (int_lt line.from.y line.to.y)) [
      | inl t ↦ rw t (All-cons IsEdge _ [] (record { upper = h.from; lower = h.to; order = int_lt-true _ _ t }) (All-nil IsEdge))
      | inr f ↦ elim (cases_Bool (int_lt line.to.y line.from.y)) [
        | inl t ↦ rw (f, t) (All-cons IsEdge _ [] (record { upper = h.to; lower = h.from; order = int_lt-true _ _ t }) (All-nil IsEdge))
        | inr g ↦ rw (f, g) (All-nil IsEdge)
      ]
    ]

pub edges_near : (number : ℕ) (lines : List Line) → All HasNearEnds lines → All IsEdge (edges_from number lines)
edges_near number [] h = All-nil IsEdge
edges_near number (line ∷ lines) h =
    All-append IsEdge (edges_of_line number line) (edges_from (suc number) lines) (edges_of_line-near number line (All-head HasNearEnds line lines h)) (edges_near (suc number) lines (All-tail HasNearEnds line lines h))

-- active edges one part after another
active-append : (y : ℕ) (xs ys : List Edge) → active_edges y (xs ++ ys) ≡ active_edges y xs ++ active_edges y ys
active-append y xs ys = ap (map (active_at y)) (filter-append (crosses_row y) xs ys) ∙ map_append y (filter (crosses_row y) xs) (filter (crosses_row y) ys)

down-append : (xs ys : List ActiveEdge) (x : ℕ) → downwards_at (xs ++ ys) x ≡ downwards_at xs x + downwards_at ys x
down-append [] ys x = omega arith
down-append (e ∷ xs) ys x = omega (arith, down-append xs ys x)

up-append : (xs ys : List ActiveEdge) (x : ℕ) → upwards_at (xs ++ ys) x ≡ upwards_at xs x + upwards_at ys x
up-append [] ys x = omega arith
up-append (e ∷ xs) ys x = omega (arith, up-append xs ys x)

-- an end isn't above the other end
no_row : (upper lower : Point) (y : ℕ) → int_lt upper.y lower.y ≡ false → has_row upper lower y ≡ false
no_row upper lower y h =
    let order = int_lt-false upper.y lower.y h in
    elim (cases_Bool (int_le upper.y (pos y))) [
      | inl t ↦ elim (cases_Bool (int_lt (pos y) lower.y)) [
        | inl s ↦ absurd (omega (arith, ints, order, int_le-true upper.y (pos y) t, int_lt-true (pos y) lower.y s))
        | inr g ↦ rw (t, g) refl
      ]
      | inr f ↦ rw f refl
    ]

other_order : (a b : ℤ) → int_lt a b ≡ true → int_lt b a ≡ false
other_order a b h = let e = int_lt-true a b h in grind (arith, ints)

-- a line's edges count once where it is crossed downwards
line_down : (number : ℕ) (line : Line) (y x : ℕ) → HasNearEnds line → x < 8192 → downwards_at (active_edges y (edges_of_line number line)) x ≡ (if is_crossed line.from line.to x y then 1 else 0)
line_down number line y x near below =
    elim (cases_Bool (int_lt line.from.y line.to.y)) [
      | inl t ↦ let h : IsEdge (record { line = number; is_down = true; upper = line.from; lower = line.to }) = record { upper = near.from; lower = near.to; order = int_lt-true _ _ t } in
          let column = column_crossed (record { line = number; is_down = true; upper = line.from; lower = line.to }) y x h below in
          elim (cases_Bool (has_row line.from line.to y)) [ inl r ↦ rw (t, r, column) (omega arith) | inr g ↦ rw (t, g) refl ]
      | inr f ↦ let none = no_row line.from line.to y f in
          elim (cases_Bool (int_lt line.to.y line.from.y)) [
            | inl s ↦ elim (cases_Bool (has_row line.to line.from y)) [ inl r ↦ rw (f, s, r, none) refl | inr g ↦ rw (f, s, g, none) refl ]
            | inr g ↦ rw (f, g, none) refl
          ]
    ]

-- and where it is crossed upwards
line_up : (number : ℕ) (line : Line) (y x : ℕ) → HasNearEnds line → x < 8192 → upwards_at (active_edges y (edges_of_line number line)) x ≡ (if is_crossed line.to line.from x y then 1 else 0)
line_up number line y x near below =
    elim (cases_Bool (int_lt line.from.y line.to.y)) [
      | inl t ↦ let none = no_row line.to line.from y (other_order line.from.y line.to.y t) in
          elim (cases_Bool (has_row line.from line.to y)) [ inl r ↦ rw (t, r, none) refl | inr g ↦ rw (t, g, none) refl ]
      | inr f ↦ elim (cases_Bool (int_lt line.to.y line.from.y)) [
        | inl s ↦ let h : IsEdge (record { line = number; is_down = false; upper = line.to; lower = line.from }) = record { upper = near.to; lower = near.from; order = int_lt-true _ _ s } in
            let column = column_crossed (record { line = number; is_down = false; upper = line.to; lower = line.from }) y x h below in
            elim (cases_Bool (has_row line.to line.from y)) [ inl r ↦ rw (f, s, r, column) (omega arith) | inr g ↦ rw (f, s, g) refl ]
        | inr g ↦ let none = no_row line.to line.from y g in rw (f, g, none) refl
      ]
    ]

-- the edges of lines count what the lines count
lines_down : (number : ℕ) (lines : List Line) (y x : ℕ) → All HasNearEnds lines → x < 8192 → downwards_at (active_edges y (edges_from number lines)) x ≡ crossed_downwards lines x y
lines_down number [] y x near below = refl
lines_down number (line ∷ lines) y x near below =
    let first = line_down number line y x (All-head HasNearEnds line lines near) below in
    let rest = lines_down (suc number) lines y x (All-tail HasNearEnds line lines near) below in
    ap (λ es. downwards_at es x) (active-append y (edges_of_line number line) (edges_from (suc number) lines))
    ∙ down-append (active_edges y (edges_of_line number line)) (active_edges y (edges_from (suc number) lines)) x
    ∙ ap (λ n. n + downwards_at (active_edges y (edges_from (suc number) lines)) x) first
    ∙ ap (λ n. (if is_crossed line.from line.to x y then 1 else 0) + n) rest

lines_up : (number : ℕ) (lines : List Line) (y x : ℕ) → All HasNearEnds lines → x < 8192 → upwards_at (active_edges y (edges_from number lines)) x ≡ crossed_upwards lines x y
lines_up number [] y x near below = refl
lines_up number (line ∷ lines) y x near below =
    let first = line_up number line y x (All-head HasNearEnds line lines near) below in
    let rest = lines_up (suc number) lines y x (All-tail HasNearEnds line lines near) below in
    ap (λ es. upwards_at es x) (active-append y (edges_of_line number line) (edges_from (suc number) lines))
    ∙ up-append (active_edges y (edges_of_line number line)) (active_edges y (edges_from (suc number) lines)) x
    ∙ ap (λ n. n + upwards_at (active_edges y (edges_from (suc number) lines)) x) first
    ∙ ap (λ n. (if is_crossed line.to line.from x y then 1 else 0) + n) rest

-- counts don't depend on the order
down_sum : (x : ℕ) (edges : List ActiveEdge) → downwards_at edges x ≡ sum_by (λ e. if e.is_down && nat_le (column_of e) x then 1 else 0) edges
down_sum x edges = is_sum_by (λ es. downwards_at es x) (λ e. if e.is_down && nat_le (column_of e) x then 1 else 0) refl (λ e es. refl) edges

up_sum : (x : ℕ) (edges : List ActiveEdge) → upwards_at edges x ≡ sum_by (λ e. if not e.is_down && nat_le (column_of e) x then 1 else 0) edges
up_sum x edges = is_sum_by (λ es. upwards_at es x) (λ e. if not e.is_down && nat_le (column_of e) x then 1 else 0) refl (λ e es. refl) edges

-- so what the edges have inside is what the lines have inside
pub inside_is : (rule : FillRule) (lines : List Line) (active : List ActiveEdge) (y x : ℕ) → All HasNearEnds lines → x < 8192 → IsPermutation (active_edges y (edges_from 0 lines)) active → is_inside rule (downwards_at active x) (upwards_at active x) ≡ in_fill rule lines x y
inside_is rule lines active y x near below so =
    let down = down_sum x active ∙ sum_by-IsPermutation (λ e. if e.is_down && nat_le (column_of e) x then 1 else 0) _ _ so ∙ sym (down_sum x (active_edges y (edges_from 0 lines))) ∙ lines_down 0 lines y x near below in
    let up = up_sum x active ∙ sum_by-IsPermutation (λ e. if not e.is_down && nat_le (column_of e) x then 1 else 0) _ _ so ∙ sym (up_sum x (active_edges y (edges_from 0 lines))) ∙ lines_up 0 lines y x near below in
    ap (λ n. is_inside rule n (upwards_at active x)) down ∙ ap (λ n. is_inside rule (crossed_downwards lines x y) n) up

-- the order by places is the order by what stands behind
from_places : (column : ℕ) (edges : List ActiveEdge) → ((i : ℕ) (d : ActiveEdge) → i < length edges → column ≤ (column_of (get_or edges i d))) → CrossFrom column edges
from_places column [] h = tt
from_places column (edge ∷ edges) h =
    let first = h 0 edge (omega arith) in
    (first, from_places column edges (λ i d k. h (suc i) d (omega (arith, k))))

pub sorted_places : (edges : List ActiveEdge) → IsNonDecreasingBy column_of edges → AreSorted edges
sorted_places [] h = tt
sorted_places (edge ∷ edges) h =
    (from_places (column_of edge) edges (λ i d k. h 0 (suc i) d (omega arith) (omega (arith, k))), sorted_places edges (λ i j d k l. h (suc i) (suc j) d (omega (arith, k)) (omega (arith, l))))
