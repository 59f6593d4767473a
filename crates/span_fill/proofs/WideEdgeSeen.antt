-- The rows in which a nib covers something of a line, and a strip from one of them to the next.
use Rattle.std.proofs.Common.{◌≡◌, Bool, ℤ, pos, ◌+ℤ◌, ◌-ℤ◌, ◌≤ℤ◌, ◌<ℤ◌, true, false, arith, sym, subst}
use Rattle.std.specs.Prelude.{◌↔◌}
use Rattle.std.proofs.lemmas.Bool.{false_from_ne_true}
use Rattle.std.proofs.lemmas.Int.{ints}
use Rattle.mapping.specs.Nibs.{reach_after, reach_before}
use Rattle.mapping.specs.declared.nib.Nib.{Nib}
use Rattle.span_fill.specs.StrokeRows.{HasSeen, IsActive, IsPassed, IsPast, IsWaiting}
use Rattle.span_fill.specs.WideEdges.{HasRow, HasRows, IsAtRow, ReachesRows, bottom_of, top_of}
use Rattle.span_fill.specs.WideStrokes.{on_wide_line}
use Rattle.span_fill.specs.declared.bounds.CoordinateRange.{CoordinateRange}
use Rattle.span_fill.specs.declared.line.Line.{Line}
use Rattle.span_fill.specs.declared.wide_edge.WideEdge.{WideEdge}
use Rattle.span_fill.proofs.CoverLemmas.{covered}
use Rattle.span_fill.proofs.WideEdgeWindows.{greater_is, lesser_is}

-- a nib that covers something of a line reaches its rows
reaches_of : (nib : Nib) (y_major : Bool) (line : Line) (rows : CoordinateRange) (x y : ℤ) → HasRows y_major line rows.from rows.to → on_wide_line nib line x y ≡ true → ReachesRows nib rows y
reaches_of nib y_major line rows x y has t =
    let c = covered nib line x y t in
    let row = has.all c.u c.v c.on in
    let r = row.0 in let q = row.1 in
    let above = c.above in let under = c.below in
    record { first = omega (arith, ints, r, above); last = omega (arith, ints, q, under) }

-- where it reaches none of a range, it covers nothing there
pub none_seen :
    (nib : Nib) (y_major : Bool) (line : Line) (rows seen : CoordinateRange) (from to : ℤ) → HasRows y_major line rows.from rows.to
    → ((y : ℤ) → (from ≤ℤ y) × (y <ℤ to) → HasRow seen y ↔ ReachesRows nib rows y) → seen.to ≤ℤ seen.from → IsPast nib from to line
none_seen nib y_major line rows seen from to has exact ends x y h k =
    false_from_ne_true (on_wide_line nib line x y)
    (λ t. let inside = (exact y (h, k)).1 (reaches_of nib y_major line rows x y has t) in let a = inside.0 in let b = inside.1 in omega (arith, ints, a, b, ends))

-- some of a line's rows are reached from a row from which it reaches them
window_order : (nib : Nib) (rows : CoordinateRange) (y : ℤ) → rows.from <ℤ rows.to → ReachesRows nib rows y → top_of nib y rows.from ≤ℤ bottom_of nib y rows.to
window_order nib rows y some reaches =
    let first = reaches.first in
    let last = reaches.last in
    let top = (greater_is (y -ℤ pos (reach_after nib.y)) rows.from).least (bottom_of nib y rows.to) in
    let bottom = (lesser_is (y +ℤ pos (reach_before nib.y)) (rows.to -ℤ pos 1)).most in
    top (bottom (y -ℤ pos (reach_after nib.y)) (omega (arith, ints)) (omega (arith, ints, last))) (bottom rows.from (omega (arith, ints, first)) (omega (arith, ints, some)))

pub none_drawn :
    (nib : Nib) (y_major : Bool) (line : Line) (rows : CoordinateRange) (row from to : ℤ) → HasRows y_major line rows.from rows.to → ReachesRows nib rows row
    → bottom_of nib row rows.to <ℤ top_of nib row rows.from → IsPast nib from to line
none_drawn nib y_major line rows row from to has reaches none_left x y h k =
    false_from_ne_true (on_wide_line nib line x y)
    (λ t.
    let c = covered nib line x y t in
    let in_row = has.all c.u c.v c.on in
    let a = in_row.0 in let b = in_row.1 in
    let order = window_order nib rows row (omega (arith, ints, a, b)) reaches in omega (arith, ints, order, none_left))

-- a nib reaches a line's rows where it covers something of it
pub has_seen :
    (from to : ℤ) (nib : Nib) (y_major : Bool) (s : WideEdge) → HasRows y_major s.line s.rows.from s.rows.to
    → ((y : ℤ) → (from ≤ℤ y) × (y <ℤ to) → HasRow s.seen y ↔ ReachesRows nib s.rows y) → from ≤ℤ s.seen.from → s.seen.to ≤ℤ to → HasSeen from to nib s
has_seen from to nib y_major s has exact first last = record {
  reaches = λ y h. let a = h.0 in let b = h.1 in (exact y (omega (arith, ints, a, first), omega (arith, ints, b, last))).0 h;
  all = λ x y h k t. (exact y (h, k)).1 (reaches_of nib y_major s.line s.rows x y has t);
  within = last;
}

seen_later : (from later to : ℤ) (nib : Nib) (s : WideEdge) → from ≤ℤ later → HasSeen from to nib s → HasSeen later to nib s
seen_later from later to nib s order h = record {
  reaches = h.reaches;
  all = λ x y k. h.all x y (omega (arith, ints, k, order));
  within = h.within;
}

-- a strip that waits begins, or goes on waiting
pub waiting_active : (nib : Nib) (row to : ℤ) (s : WideEdge) → IsWaiting nib row to s → s.seen.from ≤ℤ row → IsActive nib row to s
waiting_active nib row to s waiting begins =
    let first = waiting.begins in
    let some = waiting.some in
    let here : s.seen.from ≡ row = omega (arith, ints, first, begins) in
    record {
      seen = waiting.seen;
      at = subst (λ (r : ℤ). IsAtRow nib r s) here waiting.at;
      inside = (begins, omega (arith, ints, some, first, begins));
    }

pub waiting_after : (nib : Nib) (row to : ℤ) (s : WideEdge) → IsWaiting nib row to s → row <ℤ s.seen.from → IsWaiting nib (row +ℤ pos 1) to s
waiting_after nib row to s waiting after = record {
  seen = seen_later row (row +ℤ pos 1) to nib s (omega (arith, ints)) waiting.seen;
  at = waiting.at;
  begins = omega (arith, ints, after);
  some = waiting.some;
}

-- of a strip that waits the nib covers nothing in the row
pub after_past : (nib : Nib) (row to : ℤ) (s : WideEdge) → IsWaiting nib row to s → row <ℤ s.seen.from → (x : ℤ) → row <ℤ to → on_wide_line nib s.line x row ≡ false
after_past nib row to s waiting after x last =
    false_from_ne_true (on_wide_line nib s.line x row) (λ t. let a = (waiting.seen.all x row (omega (arith, ints)) last t).0 in omega (arith, ints, a, after))

-- and of one that has ended nothing from there on
pub passed_past : (nib : Nib) (row to : ℤ) (s : WideEdge) → IsPassed nib row to s → s.seen.to ≤ℤ row → (x y : ℤ) → row ≤ℤ y → y <ℤ to → on_wide_line nib s.line x y ≡ false
passed_past nib row to s passed ends x y first last =
    false_from_ne_true (on_wide_line nib s.line x y) (λ t. let b = (passed.seen.all x y first last t).1 in omega (arith, ints, b, ends, first))

pub passed_active : (nib : Nib) (row to : ℤ) (s : WideEdge) → IsPassed nib row to s → row <ℤ s.seen.to → IsActive nib row to s
passed_active nib row to s passed more = record { seen = passed.seen; at = passed.at more; inside = (passed.begun, more) }

-- one row on
pub active_passed :
    (nib : Nib) (row to : ℤ) (s next : WideEdge) → IsActive nib row to s → next.line ≡ s.line → next.rows ≡ s.rows → next.seen ≡ s.seen
    → ((row +ℤ pos 1) <ℤ s.seen.to → IsAtRow nib (row +ℤ pos 1) next) → IsPassed nib (row +ℤ pos 1) to next
active_passed nib row to s next active line rows seen at =
    let begun = active.inside.0 in
    record {
      seen = record {
        reaches = λ y h. subst (λ (r : CoordinateRange). ReachesRows nib r y) (sym rows) (active.seen.reaches y (subst (λ (r : CoordinateRange). HasRow r y) seen h));
        all = λ x y k m t.
            let there : on_wide_line nib s.line x y ≡ true = subst (λ (l : Line). on_wide_line nib l x y ≡ true) line t in
            subst (λ (r : CoordinateRange). HasRow r y) (sym seen) (active.seen.all x y (omega (arith, ints, k)) m there);
        within = subst (λ (r : CoordinateRange). r.to ≤ℤ to) (sym seen) active.seen.within;
      };
      at = λ more. at (subst (λ (r : CoordinateRange). (row +ℤ pos 1) <ℤ r.to) seen more);
      begun = subst (λ (r : CoordinateRange). r.from ≤ℤ (row +ℤ pos 1)) (sym seen) (omega (arith, ints, begun));
    }

pub reaches_next : (nib : Nib) (row to : ℤ) (s : WideEdge) → IsActive nib row to s → (row +ℤ pos 1) <ℤ s.seen.to → (row +ℤ pos 1 -ℤ pos (reach_after nib.y)) <ℤ s.rows.to
reaches_next nib row to s active more =
    let begun = active.inside.0 in
    let last = (active.seen.reaches (row +ℤ pos 1) (omega (arith, ints, begun), more)).last in omega (arith, ints, last)
