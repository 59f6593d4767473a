-- Strips from row to row: those that wait, those that have the row, and those that are past.
use Rattle.std.proofs.Common.{◌≡◌, ℕ, ◌+◌, ◌<◌, ◌≤◌, Bool, ℤ, pos, ◌+ℤ◌, ◌≤ℤ◌, ◌<ℤ◌, true, false, cond, int_lt, ◌||◌, List, [], ◌∷◌, ◌++◌, drop, take, length, map, get_or, arith, ap, sym, subst, ◌∙◌, refl}
use Rattle.std.specs.Prelude.{nat_le, nat_lt, ◌↔◌, IsTrue, unsigned_abs, filter}
use Rattle.std.specs.List.{All}
use Rattle.std.specs.List.Sorted.{IsNonDecreasingBy}
use Rattle.std.proofs.Math.Bool.{or-false, or_assoc}
use Rattle.std.proofs.lemmas.Bool.{and_parts, and_from, le-leb, leb-true, lt-ltb, ltb-true}
use Rattle.std.proofs.lemmas.Int.{ints}
use Rattle.std.proofs.Math.ListN.{set}
use Rattle.std.proofs.lemmas.List.{drop-set-lt, drop_more, get_or-map, map-set, set-get_or, take_more_set}
use Rattle.std.proofs.lemmas.List.Elements.{All-cons, All-head, All-push, All-same, All-tail}
use Rattle.std.proofs.lemmas.List.Folds.{list_any-append, list_any_more, list_any_none}
use Rattle.std.proofs.lemmas.List.Sorted.{IsNonDecreasingBy-drop}
use Rattle.mapping.specs.Nibs.{IsNib}
use Rattle.mapping.specs.TestLaws.{by_test, int_lt-false, int_lt-true, same_test}
use Rattle.mapping.specs.declared.nib.Nib.{Nib}
use Rattle.span_fill.specs.Clips.{IsIn}
use Rattle.span_fill.specs.Spans.{in_span, in_spans}
use Rattle.span_fill.specs.StrokeRows.{AllAfter, BeginsWideEdge, IsActive, IsPassed, IsWaiting, lines_have, wide_edges_have}
use Rattle.span_fill.specs.WideEdges.{LiesNear, part_high, part_low}
use Rattle.span_fill.specs.WideStrokes.{on_wide_line}
use Rattle.span_fill.specs.declared.span.Span.{Span}
use Rattle.span_fill.specs.declared.wide_edge.WideEdge.{WideEdge}
use Rattle.span_fill.proofs.WideEdgeSeen.{after_past, passed_active, passed_past, waiting_active, waiting_after}
use Rattle.span_fill.proofs.WideEdgeWindows.{near_exact}

-- the next strip of those that wait
first_waits :
    (nib : Nib) (wide_edges : List WideEdge) (next : ℕ) (row to : ℤ) (d : WideEdge) → next < length wide_edges → All (IsWaiting nib row to) (drop next wide_edges)
    → (drop next wide_edges ≡ get_or wide_edges next d ∷ drop (next + 1) wide_edges) × IsWaiting nib row to (get_or wide_edges next d)
first_waits nib wide_edges next row to d within waits =
    let first = drop_more wide_edges next d within in
    (first, All-head (IsWaiting nib row to) (get_or wide_edges next d) (drop (next + 1) wide_edges) (All-same (IsWaiting nib row to) (get_or wide_edges next d ∷ drop (next + 1) wide_edges) (drop next wide_edges) (sym first) waits))

pub begins_here :
    (nib : Nib) (wide_edges : List WideEdge) (next : ℕ) (row to : ℤ) (d : WideEdge) → next < length wide_edges → (get_or wide_edges next d).seen.from ≤ℤ row
    → All (IsWaiting nib row to) (drop next wide_edges) → BeginsWideEdge nib row to wide_edges next (get_or wide_edges next d)
begins_here nib wide_edges next row to d within begins waits =
    let there = first_waits nib wide_edges next row to d within waits in
    record { within = within; first = there.0; active = waiting_active nib row to (get_or wide_edges next d) there.1 begins }

-- rows from 0 on are in the order of their distances from it
later_too : (row first later : ℤ) → pos 0 ≤ℤ row → row ≤ℤ later → row <ℤ first → unsigned_abs first ≤ unsigned_abs later → row <ℤ later
later_too row first later low begins after order = omega (arith, ints, low, begins, after, order)

pub all_after :
    (nib : Nib) (wide_edges : List WideEdge) (next : ℕ) (row to : ℤ) (e : WideEdge) → pos 0 ≤ℤ row → next < length wide_edges → row <ℤ (get_or wide_edges next e).seen.from
    → IsNonDecreasingBy (λ edge. unsigned_abs edge.seen.from) wide_edges → All (IsWaiting nib row to) (drop next wide_edges) → AllAfter nib row to (drop next wide_edges)
all_after nib wide_edges next row to e low inside after sorted waits = λ k d within.
    let order = IsNonDecreasingBy-drop (λ edge. unsigned_abs edge.seen.from) next wide_edges sorted 0 k d (omega arith) within in
    let head : get_or (drop next wide_edges) 0 d ≡ get_or wide_edges next e = ap (λ l. get_or l 0 d) (drop_more wide_edges next e inside) in
    let first : row <ℤ (get_or (drop next wide_edges) 0 d).seen.from = subst (λ (s : WideEdge). row <ℤ s.seen.from) (sym head) after in
    let waiting = waits k d within in
    record { waiting = waiting; after = later_too row (get_or (drop next wide_edges) 0 d).seen.from (get_or (drop next wide_edges) k d).seen.from low waiting.begins first order }

-- of strips that begin after a row the nib covers nothing in it, and they wait for the next one
pub none_after :
    (nib : Nib) (row : ℕ) (wide_edges : List WideEdge) (x : ℤ) → row < 8192 → AllAfter nib (pos row) (pos 8192) wide_edges → wide_edges_have nib wide_edges x row ≡ false
none_after nib row wide_edges x seen after =
    list_any_none (λ edge. on_wide_line nib edge.line x (pos row)) wide_edges
    (λ k d within. let there = after k d within in after_past nib (pos row) (pos 8192) (get_or wide_edges k d) there.waiting there.after x (omega (arith, ints, seen)))

pub wait_on : (nib : Nib) (row to : ℤ) (wide_edges : List WideEdge) → AllAfter nib row to wide_edges → All (IsWaiting nib (row +ℤ pos 1) to) wide_edges
wait_on nib row to wide_edges after = λ k d within. let there = after k d within in waiting_after nib row to (get_or wide_edges k d) there.waiting there.after

-- one strip of a row more
pub parts_more :
    (nib : Nib) (wide_edges : List WideEdge) (i : ℕ) (d : WideEdge) (old new : List Span) (row x : ℕ) → i < length wide_edges
    → in_spans new x ≡ (in_spans old x || on_wide_line nib (get_or wide_edges i d).line (pos x) (pos row)) → in_spans old x ≡ wide_edges_have nib (take i wide_edges) (pos x) row
    → in_spans new x ≡ wide_edges_have nib (take (i + 1) wide_edges) (pos x) row
parts_more nib wide_edges i d old new row x within e f =
    e ∙ ap (λ t. t || on_wide_line nib (get_or wide_edges i d).line (pos x) (pos row)) f ∙ sym (list_any_more (λ edge. on_wide_line nib edge.line (pos x) (pos row)) wide_edges i d within)

-- strips have what their lines have
pub lines_of : (nib : Nib) (wide_edges : List WideEdge) (x : ℤ) (y : ℕ) → lines_have nib (map (λ edge. edge.line) wide_edges) x y ≡ wide_edges_have nib wide_edges x y
lines_of nib [] x y = refl
lines_of nib (edge ∷ wide_edges) x y = ap (λ t. on_wide_line nib edge.line x (pos y) || t) (lines_of nib wide_edges x y)

pub same_lines :
    (nib : Nib) (old new : List WideEdge) (x : ℤ) (y : ℕ) → map (λ edge. edge.line) new ≡ map (λ edge. edge.line) old
    → wide_edges_have nib new x y ≡ wide_edges_have nib old x y
same_lines nib old new x y same = sym (lines_of nib new x y) ∙ ap (λ l. lines_have nib l x y) same ∙ lines_of nib old x y

-- one strip more is one row on
pub passed_more :
    (nib : Nib) (row to : ℤ) (i : ℕ) (d : WideEdge) (before now_ after : List WideEdge) (next : WideEdge) → i < length before → length now_ ≡ length before
    → All (IsPassed nib row to) (take i now_) → drop i now_ ≡ drop i before → after ≡ set now_ i next → IsPassed nib row to next
    → All (IsPassed nib row to) (take (i + 1) after) × (drop (i + 1) after ≡ drop (i + 1) before)
passed_more nib row to i d before now_ after next within len passed others is more =
    let inside : i < length now_ = omega (arith, len, within) in
    let taken = ap (take (i + 1)) is ∙ take_more_set now_ i next inside in
    let same : get_or now_ i d ∷ drop (i + 1) now_ ≡ get_or before i d ∷ drop (i + 1) before = sym (drop_more now_ i d inside) ∙ others ∙ drop_more before i d within in
    let rest : drop (i + 1) now_ ≡ drop (i + 1) before = cc same in (
      All-same (IsPassed nib row to) (take (i + 1) after) (take i now_ ++ next ∷ []) taken (All-push (IsPassed nib row to) (take i now_) next passed more),
      ap (drop (i + 1)) is ∙ drop-set-lt (i + 1) now_ i next (omega arith) ∙ rest,
    )

-- the next strip is what it was
pub still_first : (i : ℕ) (d : WideEdge) (before now_ : List WideEdge) → i < length before → i < length now_ → drop i now_ ≡ drop i before → get_or now_ i d ≡ get_or before i d
still_first i d before now_ within inside others =
    let same : get_or now_ i d ∷ drop (i + 1) now_ ≡ get_or before i d ∷ drop (i + 1) before = sym (drop_more now_ i d inside) ∙ others ∙ drop_more before i d within in
    cc same

-- a strip in the place of one of the same line
pub lines_still :
    (i : ℕ) (d : WideEdge) (wide_edges : List WideEdge) (next : WideEdge) → i < length wide_edges → next.line ≡ (get_or wide_edges i d).line
    → map (λ edge. edge.line) (set wide_edges i next) ≡ map (λ edge. edge.line) wide_edges
lines_still i d wide_edges next within same =
    map-set (λ (edge : WideEdge). edge.line) wide_edges i next
    ∙ ap (set (map (λ edge. edge.line) wide_edges) i) (same ∙ sym (get_or-map (λ (edge : WideEdge). edge.line) wide_edges i d d.line within))
    ∙ set-get_or (map (λ edge. edge.line) wide_edges) i d.line

-- the strips that have a row
abbrev pub goes_on : ℤ → WideEdge → Bool
goes_on row edge = int_lt row edge.seen.to

kept : (row : ℤ) (s : WideEdge) (wide_edges : List WideEdge) (b : Bool) → goes_on row s ≡ b → filter (goes_on row) (s ∷ wide_edges) ≡ cond b (s ∷ filter (goes_on row) wide_edges) (filter (goes_on row) wide_edges)
kept row s wide_edges b e = ap (λ (t : Bool). cond t (s ∷ filter (goes_on row) wide_edges) (filter (goes_on row) wide_edges)) e

pub retired_active : (nib : Nib) (row to : ℤ) (wide_edges : List WideEdge) → All (IsPassed nib row to) wide_edges → All (IsActive nib row to) (filter (goes_on row) wide_edges)
retired_active nib row to [] all = λ k d within. absurd (omega (arith, within))
retired_active nib row to (s ∷ wide_edges) all =
    let first = All-head (IsPassed nib row to) s wide_edges all in
    let others = retired_active nib row to wide_edges (All-tail (IsPassed nib row to) s wide_edges all) in
    by_test (goes_on row s)
    (λ t. All-same (IsActive nib row to) _ (s ∷ filter (goes_on row) wide_edges) (kept row s wide_edges true t)
    (All-cons (IsActive nib row to) s (filter (goes_on row) wide_edges) (passed_active nib row to s first (int_lt-true row s.seen.to t)) others))
    (λ t. All-same (IsActive nib row to) _ (filter (goes_on row) wide_edges) (kept row s wide_edges false t) others)

pub retired_have :
    (nib : Nib) (row : ℕ) (wide_edges : List WideEdge) (x : ℤ) (y : ℕ) → All (IsPassed nib (pos row) (pos 8192)) wide_edges → row ≤ y → y < 8192
    → wide_edges_have nib (filter (goes_on (pos row)) wide_edges) x y ≡ wide_edges_have nib wide_edges x y
retired_have nib row [] x y all first last = refl
retired_have nib row (s ∷ wide_edges) x y all first last =
    let here = All-head (IsPassed nib (pos row) (pos 8192)) s wide_edges all in
    let rest = retired_have nib row wide_edges x y (All-tail (IsPassed nib (pos row) (pos 8192)) s wide_edges all) first last in
    by_test (goes_on (pos row) s)
    (λ t. ap (λ l. wide_edges_have nib l x y) (kept (pos row) s wide_edges true t) ∙ ap (λ b. on_wide_line nib s.line x (pos y) || b) rest)
    (λ t. ap (λ l. wide_edges_have nib l x y) (kept (pos row) s wide_edges false t) ∙ rest
    ∙ ap (λ b. b || wide_edges_have nib wide_edges x y) (sym (passed_past nib (pos row) (pos 8192) s here (int_lt-false (pos row) s.seen.to t) x (pos y) (omega (arith, ints, first)) (omega (arith, ints, last)))))

-- one strip more
pub have_more : (nib : Nib) (wide_edges : List WideEdge) (s : WideEdge) (x : ℤ) (y : ℕ) → wide_edges_have nib (wide_edges ++ s ∷ []) x y ≡ (wide_edges_have nib wide_edges x y || on_wide_line nib s.line x (pos y))
have_more nib wide_edges s x y = list_any-append (λ edge. on_wide_line nib edge.line x (pos y)) wide_edges (s ∷ []) ∙ ap (λ t. wide_edges_have nib wide_edges x y || t) (or-false (on_wide_line nib s.line x (pos y)))

-- one strip moved from the list of those that wait
pub have_moved :
    (nib : Nib) (active new waiting rest : List WideEdge) (s : WideEdge) (x : ℤ) (y : ℕ) → new ≡ active ++ s ∷ [] → waiting ≡ s ∷ rest
    → (wide_edges_have nib new x y || wide_edges_have nib rest x y) ≡ (wide_edges_have nib active x y || wide_edges_have nib waiting x y)
have_moved nib active new waiting rest s x y e f =
    ap (λ l. wide_edges_have nib l x y || wide_edges_have nib rest x y) e
    ∙ ap (λ t. t || wide_edges_have nib rest x y) (have_more nib active s x y)
    ∙ or_assoc (wide_edges_have nib active x y) (on_wide_line nib s.line x (pos y)) (wide_edges_have nib rest x y)
    ∙ ap (λ l. wide_edges_have nib active x y || wide_edges_have nib l x y) (sym f)

-- one span more
pub in_spans_more : (spans : List Span) (s : Span) (x : ℕ) → in_spans (spans ++ s ∷ []) x ≡ (in_spans spans x || in_span s x)
in_spans_more [] s x = or-false (in_span s x)
in_spans_more (t ∷ spans) s x = ap (λ b. in_span t x || b) (in_spans_more spans s x) ∙ sym (or_assoc (in_span t x) (in_spans spans x) (in_span s x))

pub span_test : (span : Span) (x : ℕ) (b : Bool) → IsIn span x ↔ IsTrue b → in_span span x ≡ b
span_test span x b iff =
    same_test (in_span span x) b
    (λ t. let parts = and_parts (nat_le span.from x) (nat_lt x span.to) t in iff.0 (leb-true span.from x parts.0, ltb-true x span.to parts.1))
    (λ t. let parts = iff.1 t in and_from (nat_le span.from x) (nat_lt x span.to) (le-leb span.from x parts.0) (lt-ltb x span.to parts.1))

-- what a strip has of its row
pub part_exact :
    (nib : Nib) (row to : ℤ) (s : WideEdge) (span : Span) (x : ℕ) → IsNib nib → IsActive nib row to s
    → IsIn span x ↔ LiesNear nib (part_low s) (part_high s) (pos x) → IsIn span x ↔ IsTrue (on_wide_line nib s.line (pos x) row)
part_exact nib row to s span x is active columns =
    let exact = near_exact nib row s is active.at (pos x) in
    (λ h. exact.1 (columns.0 h), λ t. columns.1 (exact.0 t))

pub part_test :
    (nib : Nib) (row to : ℤ) (s : WideEdge) (span : Span) (x : ℕ) → IsNib nib → IsActive nib row to s
    → IsIn span x ↔ LiesNear nib (part_low s) (part_high s) (pos x) → in_span span x ≡ on_wide_line nib s.line (pos x) row
part_test nib row to s span x is active columns = span_test span x (on_wide_line nib s.line (pos x) row) (part_exact nib row to s span x is active columns)
