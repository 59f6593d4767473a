-- What remains of a fill after each step.
use Rattle.std.proofs.Common.{◌≡◌, ℕ, zero, suc, ◌+◌, ◌-◌, ◌<◌, ◌≤◌, Bool, true, false, ◌&&◌, ◌||◌, ◌==◌, nat_le, nat_lt, inl, inr, List, [], ◌∷◌, length, drop, get_or, refl, sym, ap, subst, ◌∙◌, arith}
use Rattle.std.proofs.lemmas.Bool.{and_parts, and_right, cases_eq, cases_lt, eq-eqb, false_from_ne_true, le-leb, lt-leb, lt-ltb, ne_eqb, true≢false}
use Rattle.std.proofs.lemmas.Bool.Decides.{nat_tests}
use Rattle.std.proofs.lemmas.List.{drop_more, drop_all}
use Rattle.std.proofs.Math.Bool.{or-false}
use Rattle.canvas.specs.SpanSources.{GivesSpan}
use Rattle.canvas.specs.declared.span_source.RowSpan.{RowSpan}
use Rattle.span_fill.specs.RowState.{FillsRow, RowState, RowWork, SameWork, filling, idle, stroking}
use Rattle.span_fill.specs.Spans.{AreApart, in_region, in_span, in_spans}
use Rattle.span_fill.specs.declared.line.Line.{Line}
use Rattle.span_fill.specs.declared.span.Region.{Region}
use Rattle.span_fill.specs.declared.span.Span.{Span}
use Rattle.painting.specs.FillSpans.{remains, spans_left}
use Rattle.painting.specs.Fills.{AreSeparateFrom, is_filled, is_filling, no_columns}
use Rattle.painting.proofs.RowLemmas.{spans_are, within_ends}
use Rattle.painting.proofs.TestLemmas.{column_true}

-- a listed span is returned
module _ (rows : RowState) (columns : Span) (end returned : ℕ) (there : returned < length rows.spans) (separate : AreSeparateFrom returned rows.spans) (latest : 1 ≤ rows.next) (span : RowSpan) where
  abbrev first : Span
  first = get_or rows.spans returned no_columns

  module _ (row : span.y ≡ rows.next - 1) (from : span.from ≡ first.from) (to : span.to ≡ first.to) where
    rest_is : (x : ℕ) → in_spans (drop returned rows.spans) x ≡ (in_span first x || in_spans (drop (returned + 1) rows.spans) x)
    rest_is x = ap (λ spans. in_spans spans x) (drop_more rows.spans returned no_columns there)

    apart_is : (x : ℕ) → (in_span first x && in_spans (drop (returned + 1) rows.spans) x) ≡ false
    apart_is x =
        let e : suc returned ≡ returned + 1 = omega arith in
        subst (λ (n : ℕ). (in_span first x && in_spans (drop n rows.spans) x) ≡ false) e (separate returned x (omega arith))

    pub returns_listed : GivesSpan (remains rows columns end returned) (remains rows columns end (returned + 1)) (spans_left rows end returned) (spans_left rows end (returned + 1)) span
    returns_listed = record {
      given = λ x y h. let rest = rest_is x in let t = rw (row, from, to) at h in grind (arith, nat_tests, t, rest, latest);
      others = λ x y. let rest = rest_is x in let apart = apart_is x in rw (row, from, to) (grind (arith, nat_tests, rest, apart, latest));
      less = omega (arith, there);
    }

-- apart spans are few, and share no column
pub apart_few : (first last : ℕ) (spans : List Span) → first ≤ last → AreApart first last spans → first + length spans ≤ last
apart_few first last [] h apart = omega (arith, h)
apart_few first last (span ∷ spans) h apart =
    let low = apart.0 in
    let order = apart.1 in
    let high = apart.2 in
    omega (arith, low, order, high, later_few (suc span.to) last spans apart.3)
  where
    later_few : (first last : ℕ) (spans : List Span) → AreApart first last spans → length spans ≤ last - first
    later_few first last [] apart = omega arith
    later_few first last (span ∷ spans) apart =
        let low = apart.0 in
        let order = apart.1 in
        let high = apart.2 in
        omega (arith, low, order, high, later_few (suc span.to) last spans apart.3)

-- apart spans share no column
pub apart_separate : (first last : ℕ) (spans : List Span) → AreApart first last spans → AreSeparateFrom 0 spans
apart_separate first last [] apart k x h = and_right _ _ refl
apart_separate first last (span ∷ spans) apart zero x h = false_from_ne_true _ (λ both.
    let parts = and_parts (in_span span x) (in_spans spans x) both in
    let here = column_true span.from span.to x parts.0 in
    let to = here.1 in
    let later = within_ends (suc span.to) last spans x apart.3 parts.1 in
    let from = later.0 in absurd (omega (arith, to, from)))
apart_separate first last (span ∷ spans) apart (suc k) x h = apart_separate (suc span.to) last spans apart.3 k x (omega arith)

-- the spans that were computed are what is inside of the row
row_listed : (work : RowWork) (lines : List Line) (y : ℕ) (columns : Span) (spans : List Span) (x : ℕ) → is_filling work ≡ true → FillsRow work lines y columns spans → in_spans spans x ≡ (in_span columns x && is_filled work lines x y)
row_listed idle lines y columns spans x is fills = absurd fills
row_listed (filling rule) lines y columns spans x is fills = spans_are columns spans (λ x. is_filled (filling rule) lines x y) x fills
row_listed (stroking nib) lines y columns spans x is fills = absurd (true≢false (sym is))

-- they are apart within the columns
pub row_apart : (work : RowWork) (lines : List Line) (y : ℕ) (columns : Span) (spans : List Span) → is_filling work ≡ true → FillsRow work lines y columns spans → AreApart columns.from columns.to spans
row_apart idle lines y columns spans is fills = absurd fills
row_apart (filling rule) lines y columns spans is fills = fills.apart
row_apart (stroking nib) lines y columns spans is fills = absurd (true≢false (sym is))

-- a row after the next one
later_same : (next y : ℕ) → (y ≡ next → ⊥) → nat_le (next + 1) y ≡ nat_le next y
later_same next y ne = elim (cases_lt y next) [
  | inl a ↦ lt-leb (next + 1) y (omega arith) ∙ sym (lt-leb next y a)
  | inr b ↦ le-leb (next + 1) y (omega (arith, b, λ (e : y ≡ next). ne e)) ∙ sym (le-leb next y b)
]

-- rows from one on are that one and those after it
row_first : (next end y : ℕ) (inside : Bool) (filled : ℕ → Bool) → next < end
    → ((suc y == next + 1 && (inside && filled next)) || ((nat_le (next + 1) y && nat_lt y end) && (inside && filled y))) ≡ ((nat_le next y && nat_lt y end) && (inside && filled y))
row_first next end y inside filled more = elim (cases_eq y next) [
  | inl here ↦ rw (here, eq-eqb (suc next) (next + 1) (omega arith), lt-leb (next + 1) next (omega arith), le-leb next next (omega arith), lt-ltb next end more) (or-false _)
  | inr ne ↦ rw (ne_eqb (suc y) (next + 1) (λ e. ne (omega (arith, e))), later_same next y ne) refl
]

-- the spans of the next row were computed
module _ (rows new : RowState) (columns : Span) (end returned : ℕ) (all : length rows.spans ≤ returned) (more : rows.next < end) (is : is_filling rows.work ≡ true) (fills : FillsRow rows.work rows.lines rows.next columns new.spans) (next : new.next ≡ rows.next + 1) (same : SameWork rows new) where
  pub same_remain : (x y : ℕ) → remains new columns end 0 x y ≡ remains rows columns end returned x y
  same_remain x y =
      let work = same.work in
      let lines = same.lines in
      let none : drop returned rows.spans ≡ [] = drop_all returned rows.spans all in
      let here = row_listed rows.work rows.lines rows.next columns new.spans x is fills in
      let gone : (suc y == rows.next && false) ≡ false = and_right (suc y == rows.next) false refl in
      rw (next, work, lines, none, here, gone) (row_first rows.next end y (in_span columns x) (λ y. is_filled rows.work rows.lines x y) more)

  -- a row of at most 8,192 spans comes in place of itself
  pub listed_less : columns.from ≤ columns.to → columns.to ≤ 8192 → spans_left new end 0 < spans_left rows end returned
  listed_less order side =
      let few = apart_few columns.from columns.to new.spans order (row_apart rows.work rows.lines rows.next columns new.spans is fills) in
      rw next (omega (arith, few, side, more, all))

-- the same three tests in another order
tests_ordered : (rows column filled : Bool) → (rows && (column && filled)) ≡ ((column && rows) && filled)
tests_ordered true true filled = refl
tests_ordered true false filled = refl
tests_ordered false true filled = refl
tests_ordered false false filled = refl

-- at the start, the pixels of the region that are inside remain
pub all_remain : (rows : RowState) (region : Region) → rows.spans ≡ [] → rows.next ≡ region.rows.from → (x y : ℕ) → remains rows region.columns region.rows.to 0 x y ≡ (in_region region x y && is_filled rows.work rows.lines x y)
all_remain rows region none first x y =
    rw (none, first, and_right (suc y == region.rows.from) false refl)
    (tests_ordered (in_span region.rows y) (in_span region.columns x) (is_filled rows.work rows.lines x y))

no_row : (next end y : ℕ) → end ≤ next → (nat_le next y && nat_lt y end) ≡ false
no_row next end y over = grind (arith, nat_tests, over)

-- after the last row, and the last span of the latest one, no pixel remains
pub none_remain : (rows : RowState) (columns : Span) (end returned : ℕ) → length rows.spans ≤ returned → end ≤ rows.next → (x y : ℕ) → remains rows columns end returned x y ≡ false
none_remain rows columns end returned all over x y =
    let listed : drop returned rows.spans ≡ [] = drop_all returned rows.spans all in
    let gone : (suc y == rows.next && false) ≡ false = and_right (suc y == rows.next) false refl in
    rw (listed, gone, no_row rows.next end y over) refl
