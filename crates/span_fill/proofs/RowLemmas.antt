-- What a row buffer keeps: at a begin, from one row to the next, and at its spans.
use Rattle.std.proofs.Common.{◌≡◌, ℕ, ◌+◌, ◌-◌, ◌<◌, ◌≤◌, Bool, true, false, IsTrue, List, ◌++◌, append-nil, length, drop, map, refl, sym, ap, subst, ◌∙◌, arith}
use Rattle.std.specs.List.{All, filter}
use Rattle.std.specs.List.Sorted.{IsNonDecreasingBy, IsPermutation}
use Rattle.std.proofs.lemmas.Bool.{leb-false}
use Rattle.std.proofs.lemmas.List.{length-map}
use Rattle.std.proofs.lemmas.List.Elements.{All-filter}
use Rattle.std.proofs.lemmas.List.Sorted.{All-permutation, IsPermutation-trans}
use Rattle.span_fill.specs.CountedRows.{is_counted}
use Rattle.span_fill.specs.ColumnTables.{AreTabled, HasColumns, flag_at}
use Rattle.span_fill.specs.Edges.{IsEdge, active_at, begins_after, begins_by, column_of, edges_from, ends_after, edge_first_row, goes_to, moved}
use Rattle.span_fill.specs.Events.{IsQuietAbove, first_begin, first_end}
use Rattle.span_fill.specs.Fill.{is_inside}
use Rattle.span_fill.specs.Lines.{HasNearEnds}
use Rattle.mapping.specs.declared.nib.Nib.{Nib}
use Rattle.span_fill.specs.RowFields.{AreCountedAlways, IsFilling, row_work}
use Rattle.span_fill.specs.RowState.{FillsRow, IsFillingWork}
use Rattle.span_fill.specs.Spans.{AreRow}
use Rattle.span_fill.specs.Sweep.{downwards_at, swept, upwards_at}
use Rattle.span_fill.specs.declared.column_table.ColumnTable.{ColumnTable}
use Rattle.span_fill.specs.declared.edge.ActiveEdge.{ActiveEdge}
use Rattle.span_fill.specs.declared.edge.Edge.{Edge}
use Rattle.span_fill.specs.declared.fill_rule.FillRule.{FillRule}
use Rattle.span_fill.specs.declared.line.Line.{Line}
use Rattle.span_fill.specs.declared.row_buf.Work.{Work}
use Rattle.span_fill.specs.declared.row_buf.Work.TheVariants.{Filling, Idle, Stroking}
use Rattle.span_fill.specs.declared.span.Span.{Span}
use Rattle.span_fill.proofs.EventLemmas.{all_go_on, all_wait_on, quiet_above, still_quiet}
use Rattle.span_fill.proofs.FillLemmas.{edges_near, first_active, first_waiting, inside_is, next_active, next_waiting, sorted_places}
use Rattle.span_fill.proofs.Reordering.{IsPermutation-same}
use Rattle.span_fill.proofs.SweepLemmas.{swept_is_row}

-- the edges that a begin puts in order are edges
pub listed_edges : (y : ℕ) (lines : List Line) (collected edges : List Edge) → All HasNearEnds lines → collected ≡ filter (ends_after y) (edges_from 0 lines) → IsPermutation collected edges → All IsEdge edges
listed_edges y lines collected edges near is so =
    All-permutation IsEdge collected edges so
    (subst (λ (es : List Edge). All IsEdge es) (sym is) (All-filter (ends_after y) IsEdge (edges_from 0 lines) (edges_near 0 lines near)))

-- a begin
pub filling_begins : (y capacity : ℕ) (lines : List Line) (collected edges : List Edge) (begun : ℕ) (active : List ActiveEdge) (event : ℕ) → All HasNearEnds lines → y ≤ 8192 → collected ≡ filter (ends_after y) (edges_from 0 lines) → IsPermutation collected edges → IsNonDecreasingBy edge_first_row edges → active ≡ map (active_at y) (filter (begins_by y) edges) → drop begun edges ≡ filter (begins_after y) edges → begun ≤ length edges → length active + (length edges - begun) ≤ capacity → event ≡ first_end (first_begin (drop begun edges)) active → IsFilling lines y capacity edges begun active false event
filling_begins y capacity lines collected edges begun active event near row is so ordered active_is left within count event_is =
    let listed = IsPermutation-trans _ _ _ (IsPermutation-same _ _ (sym is)) so in
    record {
      row = row;
      are_edges = listed_edges y lines collected edges near is so;
      ordered = ordered;
      within = within;
      waits = first_waiting y (edges_from 0 lines) edges (drop begun edges) (edges_near 0 lines near) listed left;
      crosses = first_active y (edges_from 0 lines) edges active listed active_is;
      sorted = λ t. absurd cc;
      count = count;
      quiet = quiet_above event begun active edges ordered event_is;
    }

-- the next row
pub filling_steps : (y z capacity : ℕ) (lines : List Line) (edges : List Edge) (begun next : ℕ) (active after : List ActiveEdge) (was_sorted is_sorted : Bool) (event later : ℕ) → z ≡ y + 1 → y < 8192 → All HasNearEnds lines → IsFilling lines y capacity edges begun active was_sorted event → after ≡ map moved (filter (goes_to z) active) ++ map (active_at z) (filter (begins_by z) (drop begun edges)) → drop next edges ≡ filter (begins_after z) (drop begun edges) → next ≤ length edges → (IsTrue is_sorted → IsNonDecreasingBy column_of after) → length after + (length edges - next) ≤ capacity → IsQuietAbove later after (drop next edges) → IsFilling lines z capacity edges next after is_sorted later
filling_steps y z capacity lines edges begun next active after was_sorted is_sorted event later is row near filling after_is left within sorted count quiet = record {
  row = omega (arith, is, row);
  are_edges = filling.are_edges;
  ordered = filling.ordered;
  within = within;
  waits = next_waiting y z (edges_from 0 lines) (drop begun edges) (drop next edges) is filling.waits left;
  crosses = next_active y z (edges_from 0 lines) (drop begun edges) active after is (edges_near 0 lines near) filling.crosses filling.waits after_is;
  sorted = sorted;
  count = count;
  quiet = quiet;
}

-- a row in which no edge ends or begins
pub filling_goes_on : (y z capacity : ℕ) (lines : List Line) (edges : List Edge) (begun : ℕ) (active after : List ActiveEdge) (was_sorted is_sorted : Bool) (event : ℕ) → z ≡ y + 1 → y < 8192 → z < event → All HasNearEnds lines → IsFilling lines y capacity edges begun active was_sorted event → after ≡ map moved active → (IsTrue is_sorted → IsNonDecreasingBy column_of after) → IsFilling lines z capacity edges begun after is_sorted event
filling_goes_on y z capacity lines edges begun active after was_sorted is_sorted event is row above near filling after_is sorted =
    let stay = all_go_on z event active above filling.quiet.stay in
    let wait = all_wait_on z event (drop begun edges) above filling.quiet.wait in
    let count = filling.count in
    let come = map (active_at z) (filter (begins_by z) (drop begun edges)) in
    let none : map moved active ++ come ≡ map moved active = ap (λ es. map moved active ++ map (active_at z) es) wait.none ∙ append-nil (map moved active) in
    let all : after ≡ map moved (filter (goes_to z) active) ++ come = after_is ∙ sym none ∙ ap (λ es. map moved es ++ come) (sym stay) in
    let long : length after ≡ length active = ap (λ es. length es) after_is ∙ length-map active moved in
    filling_steps y z capacity lines edges begun begun active after was_sorted is_sorted event event is row near filling all (sym wait.others) filling.within sorted (omega (arith, count, long)) (still_quiet event active after (drop begun edges) filling.quiet (IsPermutation-same _ _ (sym after_is)))

-- the edges of a row in order
pub filling_sorts : (y capacity : ℕ) (lines : List Line) (edges : List Edge) (begun : ℕ) (active after : List ActiveEdge) (was_sorted : Bool) (event : ℕ) → IsFilling lines y capacity edges begun active was_sorted event → IsPermutation active after → length after ≡ length active → IsNonDecreasingBy column_of after → IsFilling lines y capacity edges begun after true event
filling_sorts y capacity lines edges begun active after was_sorted event filling order long sorted =
    let count = filling.count in
    record {
      row = filling.row;
      are_edges = filling.are_edges;
      ordered = filling.ordered;
      within = filling.within;
      waits = filling.waits;
      crosses = IsPermutation-trans _ _ _ filling.crosses order;
      sorted = λ t. sorted;
      count = omega (arith, count, long);
      quiet = record { stay = All-permutation (λ e. event ≤ e.bottom) active after order filling.quiet.stay; wait = filling.quiet.wait };
    }

-- more room
pub filling_grows : (y capacity more : ℕ) (lines : List Line) (edges : List Edge) (begun : ℕ) (active : List ActiveEdge) (is_sorted : Bool) (event : ℕ) → capacity ≤ more → IsFilling lines y capacity edges begun active is_sorted event → IsFilling lines y more edges begun active is_sorted event
filling_grows y capacity more lines edges begun active is_sorted event h filling =
    let count = filling.count in
    record {
      row = filling.row;
      are_edges = filling.are_edges;
      ordered = filling.ordered;
      within = filling.within;
      waits = filling.waits;
      crosses = filling.crosses;
      sorted = filling.sorted;
      count = omega (arith, count, h);
      quiet = filling.quiet;
    }

-- a row whose spans have what the edges have inside
pub filled_row : (work : Work) (rule : FillRule) (nib : Nib) (y capacity : ℕ) (lines : List Line) (edges : List Edge) (begun : ℕ) (active : List ActiveEdge) (is_sorted : Bool) (event : ℕ) (interval : Span) (spans : List Span) → IsFillingWork (row_work work rule nib) → All HasNearEnds lines → IsFilling lines y capacity edges begun active is_sorted event → interval.to ≤ 8192 → AreRow (λ x. is_inside rule (downwards_at active x) (upwards_at active x)) interval spans → FillsRow (row_work work rule nib) lines y interval spans
filled_row Idle rule nib y capacity lines edges begun active is_sorted event interval spans h near filling end row = absurd h
filled_row Stroking rule nib y capacity lines edges begun active is_sorted event interval spans h near filling end row = absurd h
filled_row Filling rule nib y capacity lines edges begun active is_sorted event interval spans h near filling end row =
    record { apart = row.apart; exact = λ x low high. row.exact x low high ∙ inside_is rule lines active y x near (omega (arith, high, end)) filling.crosses }

-- a row that is swept
pub filled_swept : (work : Work) (rule : FillRule) (nib : Nib) (y capacity : ℕ) (lines : List Line) (edges : List Edge) (begun : ℕ) (active : List ActiveEdge) (event : ℕ) (interval : Span) (spans : List Span) → IsFillingWork (row_work work rule nib) → All HasNearEnds lines → IsFilling lines y capacity edges begun active true event → interval.to ≤ 8192 → interval.from < interval.to → spans ≡ swept rule interval.to active interval.from 0 0 (record { from = interval.from; to = interval.from }) → FillsRow (row_work work rule nib) lines y interval spans
filled_swept work rule nib y capacity lines edges begun active event interval spans h near filling end order is =
    let row = swept_is_row rule interval active (sorted_places active (filling.sorted refl)) (omega (arith, order)) in
    filled_row work rule nib y capacity lines edges begun active true event interval spans h near filling end (rw is row)

-- a row whose spans have what a table says
pub filled_tabled : (work : Work) (rule : FillRule) (nib : Nib) (y : ℕ) (lines : List Line) (table : ColumnTable) (interval : Span) (spans : List Span) → IsFillingWork (row_work work rule nib) → y < 8192 → AreTabled rule lines table → HasColumns table interval → AreRow (λ x. flag_at table.flags.items table.columns.from x y) interval spans → FillsRow (row_work work rule nib) lines y interval spans
filled_tabled Idle rule nib y lines table interval spans h below are has row = absurd h
filled_tabled Stroking rule nib y lines table interval spans h below are has row = absurd h
filled_tabled Filling rule nib y lines table interval spans h below are has row =
    let first = has.first in
    let last = has.last in
    record { apart = row.apart; exact = λ x low high. row.exact x low high ∙ are.flags x y (omega (arith, first, low)) (omega (arith, last, high)) below }

-- above an event no table is used, and none where edges aren't counted
pub unused_above : (used : Bool) (edges : List ActiveEdge) (is_sorted : Bool) (event n : ℕ) → (used ≡ true → AreCountedAlways edges is_sorted event) → n < event → used ≡ false
unused_above false edges is_sorted event n always below = refl
unused_above true edges is_sorted event n always below = let none = (always refl).none in absurd (omega (arith, none, below))

pub unused_uncounted : (used : Bool) (edges : List ActiveEdge) (is_sorted : Bool) (event count : ℕ) (interval : Span) → (used ≡ true → AreCountedAlways edges is_sorted event) → interval.to ≤ 8192 → count ≡ length edges → is_counted count is_sorted interval ≡ false → used ≡ false
unused_uncounted false edges is_sorted event count interval always end long not_counted = refl
unused_uncounted true edges is_sorted event count interval always end long not_counted =
    let many = (always refl).many in
    let few = leb-false _ _ (rw (always refl).unsorted at not_counted) in
    absurd (omega (arith, many, few, end, long))
