-- One line's strip from row to row.
use Rattle.std.proofs.Common.{◌≡◌, ℕ, ◌≤◌, ℤ, pos, negsuc, ◌+ℤ◌, ◌-ℤ◌, ◌≤ℤ◌, ◌<ℤ◌, true, arith, refl, ap, subst, sym, ◌∙◌}
use Rattle.std.specs.Prelude.{FitsSigned, ◌↔◌}
use Rattle.std.specs.Int.{w32}
use Rattle.std.proofs.lemmas.Int.{fits_signed_from_abs, ints}
use Rattle.std.proofs.lemmas.Bool.{true≢false}
use Rattle.mapping.specs.Nibs.{IsNib, reach_after}
use Rattle.mapping.specs.declared.nib.Nib.{Nib}
use Rattle.span_fill.specs.Clips.{IsIn}
use Rattle.span_fill.specs.StrokeRows.{HasSeen, IsActive, IsBegun, IsPassed, IsPast}
use Rattle.span_fill.specs.WideEdges.{IsAtRow, IsNearRow, LiesNear, part_high, part_low}
use Rattle.span_fill.specs.WideLineInside.{IsWideLine}
use Rattle.span_fill.specs.WideLines.{HasAllRows, TakesRowAmong}
use Rattle.span_fill.specs.WideStrokes.{on_wide_line}
use Rattle.span_fill.specs.declared.bounds.CoordinateRange.{CoordinateRange}
use Rattle.span_fill.specs.declared.line.Line.{Line}
use Rattle.span_fill.specs.declared.span.Span.{Span}
use Rattle.span_fill.specs.declared.wide_edge.WideEdge.{WideEdge}
use Rattle.span_fill.specs.declared.wide_line.WideLine.TheInside.{Inside}
use Rattle.span_fill.proofs.WideEdgeSeen.{active_passed, passed_active, reaches_next}
use Rattle.span_fill.proofs.StrokeLemmas.{part_exact}

-- the rows of a strip alone
seen_to_end : (from to : ℤ) (nib : Nib) (s : WideEdge) → HasSeen from to nib s → HasSeen from s.seen.to nib s
seen_to_end from to nib s h =
    let within = h.within in
    record { reaches = h.reaches; all = λ x y low high t. h.all x y low (omega (arith, ints, high, within)) t; within = omega (arith, ints) }

-- a strip that begins in a range stands at its first row
pub begun_passed : (nib : Nib) (from to : ℤ) (line : Line) (s : WideEdge) → IsBegun nib from to line s → IsPassed nib s.seen.from s.seen.to s
begun_passed nib from to line s begun =
    let seen = seen_to_end from to nib s begun.waiting.seen in
    let begins = begun.waiting.begins in
    record {
      seen = record { reaches = seen.reaches; all = λ x y low high t. seen.all x y (omega (arith, ints, low, begins)) high t; within = seen.within };
      at = λ more. begun.waiting.at;
      begun = omega (arith, ints);
    }

-- and one that nothing is seen of has no row
pub unseen_passed : (nib : Nib) (row : ℤ) (s : WideEdge) → s.seen.from ≡ row → s.seen.to ≡ row → IsPassed nib row s.seen.to s
unseen_passed nib row s from to = record {
  seen = record {
    reaches = λ y h. let a = h.0 in let b = h.1 in absurd (omega (arith, ints, a, b, from, to));
    all = λ x y low high t. absurd (omega (arith, ints, low, high, to));
    within = omega (arith, ints);
  };
  at = λ more. absurd (omega (arith, ints, more, to));
  begun = omega (arith, ints, from);
}

-- the fields of a line that begins in a range
pub begun_line :
    (nib : Nib) (from to : ℤ) (line : Line) (s : WideEdge) → IsNib nib → negsuc 4095 ≤ℤ from → to ≤ℤ pos 12288 → IsBegun nib from to line s
    → IsWideLine (record { nib = nib; edge = s; next = s.seen.from })
begun_line nib from to line s is low high begun =
    let first = begun.waiting.begins in
    let last = begun.waiting.seen.within in
    record { nib = is; edge = begun_passed nib from to line s begun; low = omega (arith, ints, low, first); high = omega (arith, ints, last, high) }

pub unseen_line :
    (nib : Nib) (from to : ℤ) (s : WideEdge) → IsNib nib → negsuc 4095 ≤ℤ from → from ≤ℤ to → to ≤ℤ pos 12288 → s.seen.from ≡ from → s.seen.to ≡ from
    → IsWideLine (record { nib = nib; edge = s; next = from })
unseen_line nib from to s is low order high first last =
    record { nib = is; edge = unseen_passed nib from s first last; low = low; high = omega (arith, ints, last, order, high) }

-- all rows of the range in which the nib covers something are to come
pub all_rows :
    (nib : Nib) (from to : ℤ) (line : Line) (s : WideEdge) → IsBegun nib from to line s
    → HasAllRows from to (record { line = s.line; nib = nib; next = s.seen.from; end = s.seen.to })
all_rows nib from to line s begun = record { first = begun.waiting.begins; last = begun.waiting.seen.within; all = begun.waiting.seen.all }

pub no_rows :
    (nib : Nib) (from to : ℤ) (line : Line) (s : WideEdge) → s.line ≡ line → IsPast nib from to line → s.seen.to ≡ from → from ≤ℤ to
    → HasAllRows from to (record { line = s.line; nib = nib; next = from; end = s.seen.to })
no_rows nib from to line s same past last order = record {
  first = omega (arith, ints);
  last = omega (arith, ints, last, order);
  all = λ x y low high t. absurd (true≢false (sym (subst (λ (l : Line). on_wide_line nib l x y ≡ true) same t) ∙ past x y low high));
}

-- the next row is the last one's
pub seen_next : (nib : Nib) (row : ℤ) (old new : WideEdge) → new.seen ≡ old.seen → IsPassed nib (row +ℤ pos 1) old.seen.to new → IsPassed nib (row +ℤ pos 1) new.seen.to new
seen_next nib row old new same passed = subst (λ (to : ℤ). IsPassed nib (row +ℤ pos 1) to new) (sym (ap (λ (r : CoordinateRange). r.to) same)) passed

-- a line with a row to come is at it
pub active_now : (a : Inside) → IsWideLine a → a.next <ℤ a.edge.seen.to → IsActive a.nib a.next a.edge.seen.to a.edge
active_now a is more = passed_active a.nib a.next a.edge.seen.to a.edge is.edge more

pub near_now : (a : Inside) → IsWideLine a → a.next <ℤ a.edge.seen.to → IsNearRow a.next
near_now a is more = let high = is.high in record { low = is.low; high = omega (arith, ints, more, high) }

pub next_fits : (a : Inside) → IsWideLine a → a.next <ℤ a.edge.seen.to → FitsSigned w32 (a.next +ℤ pos 1)
next_fits a is more = let low = is.low in let high = is.high in fits_signed_from_abs w32 (a.next +ℤ pos 1) (omega (arith, ints, low, more, high))

-- and then at the next one
pub line_next :
    (a : Inside) (new : WideEdge) → IsWideLine a → a.next <ℤ a.edge.seen.to → new.line ≡ a.edge.line → new.rows ≡ a.edge.rows → new.seen ≡ a.edge.seen
    → (IsAtRow a.nib a.next a.edge → IsNearRow (a.next +ℤ pos 1) → (a.next +ℤ pos 1 -ℤ pos (reach_after a.nib.y)) <ℤ a.edge.rows.to → IsAtRow a.nib (a.next +ℤ pos 1) new)
    → IsWideLine (record { nib = a.nib; edge = new; next = a.next +ℤ pos 1 })
line_next a new is more line rows seen at =
    let active = active_now a is more in
    let low = is.low in
    let high = is.high in
    let passed =
    active_passed a.nib a.next a.edge.seen.to a.edge new active line rows seen
    (λ m. at active.at (record { low = omega (arith, ints, low); high = omega (arith, ints, m, high) }) (reaches_next a.nib a.next a.edge.seen.to a.edge active m)) in
    record {
      nib = is.nib;
      edge = seen_next a.nib a.next a.edge new seen passed;
      low = omega (arith, ints, low);
      high = subst (λ (r : CoordinateRange). r.to ≤ℤ pos 12288) (sym seen) high;
    }

-- the row is given
pub line_taken :
    (a : Inside) (new : WideEdge) (seen columns : Span) → IsWideLine a → a.next <ℤ a.edge.seen.to → new.line ≡ a.edge.line → new.seen ≡ a.edge.seen
    → ((x : ℕ) → IsIn seen x → IsIn columns x ↔ LiesNear a.nib (part_low a.edge) (part_high a.edge) (pos x))
    → seen.from ≤ columns.from → columns.from ≤ columns.to → columns.to ≤ seen.to
    → TakesRowAmong seen (record { line = a.edge.line; nib = a.nib; next = a.next; end = a.edge.seen.to })
    (record { line = new.line; nib = a.nib; next = a.next +ℤ pos 1; end = new.seen.to }) (record { y = a.next; columns = columns })
line_taken a new seen columns is more line rows part first order last = record {
  left = more;
  row = refl;
  exact = λ x inside. part_exact a.nib a.next a.edge.seen.to a.edge columns x is.nib (active_now a is more) (part x inside);
  first = first;
  order = order;
  last = last;
  line = line;
  nib = refl;
  next = refl;
  end = ap (λ (r : CoordinateRange). r.to) rows;
}
