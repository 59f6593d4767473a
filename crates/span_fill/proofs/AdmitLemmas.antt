-- Edges begin in the order of their first rows.
use Rattle.std.proofs.Common.{◌≡◌, ℕ, ◌+◌, ◌<◌, true, false, List, [], ◌∷◌, ◌++◌, length, length-drop, get_or, get_or-drop, drop, map, append_assoc, arith}
use Rattle.std.specs.List.{filter}
use Rattle.std.specs.List.Sorted.{IsNonDecreasingBy}
use Rattle.std.proofs.lemmas.Bool.{lt-leb, lt-ltb}
use Rattle.std.proofs.lemmas.List.Elements.{All-from_get_or}
use Rattle.span_fill.specs.Admitting.{NoneBegins}
use Rattle.span_fill.specs.Edges.{active_at, begins_after, begins_by, edge_first_row}
use Rattle.span_fill.specs.declared.edge.ActiveEdge.{ActiveEdge}
use Rattle.span_fill.specs.declared.edge.Edge.{Edge}
use Rattle.span_fill.proofs.Reordering.{filter_all, filter_none}

-- the next one begins behind the row, and so do those behind it
later : (y : ℕ) (edges : List Edge) (next : ℕ) (d : Edge) → IsNonDecreasingBy edge_first_row edges → next < length edges → y < edge_first_row (get_or edges next d) → (i : ℕ) → i < length (drop next edges) → y < edge_first_row (get_or (drop next edges) i d)
later y edges next d sorted within h i below =
    let len = length-drop next edges in
    let order = sorted next (next + i) d (omega arith) (omega (arith, len)) in
    rw (get_or-drop next edges i d) (omega (arith, order))

pub none_begins : (y : ℕ) (edges : List Edge) (next : ℕ) (d : Edge) → IsNonDecreasingBy edge_first_row edges → next < length edges → y < edge_first_row (get_or edges next d) → NoneBegins y (drop next edges)
none_begins y edges next d sorted within h = record {
  none = filter_none (begins_by y) (drop next edges) (All-from_get_or (λ e. begins_by y e ≡ false) (drop next edges) d (λ i below. lt-leb (edge_first_row (get_or (drop next edges) i d)) y (later y edges next d sorted within h i below)));
  others = filter_all (begins_after y) (drop next edges) (All-from_get_or (λ e. begins_after y e ≡ true) (drop next edges) d (λ i below. lt-ltb y (edge_first_row (get_or (drop next edges) i d)) (later y edges next d sorted within h i below)));
}

-- an edge that begins goes behind those that are there
pub active_step : (y : ℕ) (edge : Edge) (before now_ total : List ActiveEdge) (xs ys : List Edge) → xs ≡ edge ∷ ys → begins_by y edge ≡ true → now_ ≡ before ++ active_at y edge ∷ [] → before ++ map (active_at y) (filter (begins_by y) xs) ≡ total → now_ ++ map (active_at y) (filter (begins_by y) ys) ≡ total
active_step y edge before now_ total xs ys first begins now_is so =
    let old = rw (first, begins) at so in
    rw (now_is, append_assoc) old

-- and doesn't wait
pub left_step : (y : ℕ) (edge : Edge) (xs ys all : List Edge) → xs ≡ edge ∷ ys → begins_after y edge ≡ false → filter (begins_after y) xs ≡ filter (begins_after y) all → filter (begins_after y) ys ≡ filter (begins_after y) all
left_step y edge xs ys all first waits so = rw (first, waits) at so
