-- Rows in which no edge ends or begins.
use Rattle.std.proofs.Common.{◌≡◌, ℕ, ◌<◌, ◌≤◌, min, true, false, List, [], ◌∷◌, drop, map, arith}
use Rattle.std.specs.List.{All, filter}
use Rattle.std.specs.List.Sorted.{IsNonDecreasingBy, IsPermutation}
use Rattle.std.proofs.lemmas.Bool.{lt-leb, lt-ltb}
use Rattle.std.proofs.lemmas.List.Elements.{All-cons, All-from_get_or, All-map, All-nil, All-weaker}
use Rattle.std.proofs.lemmas.List.Sorted.{All-permutation, IsNonDecreasingBy-drop}
use Rattle.span_fill.specs.Admitting.{NoneBegins}
use Rattle.span_fill.specs.Edges.{begins_after, begins_by, edge_first_row, goes_to, moved}
use Rattle.span_fill.specs.Events.{IsQuietAbove, first_begin, first_end}
use Rattle.span_fill.specs.declared.edge.ActiveEdge.{ActiveEdge}
use Rattle.span_fill.specs.declared.edge.Edge.{Edge}
use Rattle.span_fill.proofs.Reordering.{filter_all, filter_none}

-- the first end is not below the row that it is to be above
end_low : (row : ℕ) (edges : List ActiveEdge) → first_end row edges ≤ row
end_low row [] = omega arith
end_low row (edge ∷ edges) = let rest = end_low (min row edge.bottom) edges in omega (arith, rest)

-- and not below the end of one of the edges
ends_after_first : (row : ℕ) (edges : List ActiveEdge) → All (λ e. first_end row edges ≤ e.bottom) edges
ends_after_first row [] = All-nil (λ e. first_end row [] ≤ e.bottom)
ends_after_first row (edge ∷ edges) =
    let low = end_low (min row edge.bottom) edges in
    All-cons (λ e. first_end row (edge ∷ edges) ≤ e.bottom) edge edges (omega (arith, low)) (ends_after_first (min row edge.bottom) edges)

-- the first of some edges in order begins first
begins_after_first : (edges : List Edge) → IsNonDecreasingBy edge_first_row edges → All (λ e. first_begin edges ≤ edge_first_row e) edges
begins_after_first [] h = All-nil (λ e. first_begin [] ≤ edge_first_row e)
begins_after_first (edge ∷ edges) h =
    All-from_get_or (λ e. edge_first_row edge ≤ edge_first_row e) (edge ∷ edges) edge (λ i below. h 0 i edge (omega arith) below)

-- above the first row in which an edge ends or begins, none does
pub quiet_above : (event begun : ℕ) (active : List ActiveEdge) (edges : List Edge) → IsNonDecreasingBy edge_first_row edges → event ≡ first_end (first_begin (drop begun edges)) active → IsQuietAbove event active (drop begun edges)
quiet_above event begun active edges sorted is =
    let first = first_begin (drop begun edges) in
    let low = end_low first active in
    record {
      stay = rw is (ends_after_first first active);
      wait = All-weaker (λ e. first ≤ edge_first_row e) (λ e. event ≤ edge_first_row e) (λ e h. omega (arith, is, low, h)) (drop begun edges) (begins_after_first (drop begun edges) (IsNonDecreasingBy-drop edge_first_row begun edges sorted));
    }

-- so all edges go on to such a row
pub all_go_on : (row event : ℕ) (active : List ActiveEdge) → row < event → All (λ e. event ≤ e.bottom) active → filter (goes_to row) active ≡ active
all_go_on row event active h stay =
    filter_all (goes_to row) active (All-weaker (λ e. event ≤ e.bottom) (λ e. goes_to row e ≡ true) (λ e k. lt-ltb row e.bottom (omega (arith, h, k))) active stay)

-- and all others wait
pub all_wait_on : (row event : ℕ) (waiting : List Edge) → row < event → All (λ e. event ≤ edge_first_row e) waiting → NoneBegins row waiting
all_wait_on row event waiting h wait = record {
  none = filter_none (begins_by row) waiting (All-weaker (λ e. event ≤ edge_first_row e) (λ e. begins_by row e ≡ false) (λ e k. lt-leb (edge_first_row e) row (omega (arith, h, k))) waiting wait);
  others = filter_all (begins_after row) waiting (All-weaker (λ e. event ≤ edge_first_row e) (λ e. begins_after row e ≡ true) (λ e k. lt-ltb row (edge_first_row e) (omega (arith, h, k))) waiting wait);
}

-- edges one row on, in another order, end where they did
pub still_quiet : (event : ℕ) (active after : List ActiveEdge) (waiting : List Edge) → IsQuietAbove event active waiting → IsPermutation (map moved active) after → IsQuietAbove event after waiting
still_quiet event active after waiting quiet so = record {
  stay = All-permutation (λ e. event ≤ e.bottom) (map moved active) after so (All-map (λ e. event ≤ e.bottom) moved active quiet.stay);
  wait = quiet.wait;
}
