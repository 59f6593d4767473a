-- Parts of a row, painted one after another.
use Rattle.std.proofs.Common.{◌≡◌, ℕ, zero, suc, ◌+◌, ◌-◌, ◌*◌, ◌%◌, ◌<◌, ◌≤◌, ◌^◌, Bool, true, false, not, cond, eqb, leb, ltb, ◌&&◌, ◌||◌, List, [], ◌∷◌, drop, get_or, length, inl, inr, refl, sym, ap, ◌∙◌, arith, w8}
use Rattle.std.proofs.Math.Seq.{drop-cons}
use Rattle.std.proofs.lemmas.Bool.{and_parts, and_left, and_right, or_from, eqb-true, leb-true, ltb-true, le-leb, lt-leb, lt-ltb, le-ltb, false_from_ne_true, true≢false, cases_lt, cond-true, cond-false, not-true}
use Rattle.std.proofs.lemmas.Nat.Bits.{bit_at-lt, bit_at_not}
use Rattle.std.specs.Int.{bit_at, bit_not}
use Rattle.std.specs.List.{list_any}
use Rattle.std.proofs.Math.Bool.{or-false, or_self}
use Rattle.mapping.specs.declared.geometry.Colour.{Colour}
use Rattle.mapping.specs.declared.geometry.Rect.{Rect}
use Rattle.mapping.specs.declared.mix.Mix.{Mix}
use Rattle.mapping.specs.Mixes.{mixed_by}
use Rattle.mapping.specs.Pixels.{is_cell}
use Rattle.canvas.specs.CanvasState.{CanvasState, HasRow}
use Rattle.canvas.specs.Writing.{Repaints, in_cells, in_row_span}
use Rattle.canvas.specs.WritingLaws.{IsWhole, WritingLaws}
use Rattle.canvas.specs.declared.splat.Splat.{Splat}
use Rattle.mapping.specs.PixelBoxes.{in_box}
use Rattle.span_fill.specs.declared.span.Span.{Span}
use Rattle.span_fill.specs.Spans.{AreApart, in_spans}
use Rattle.painting.specs.RowOps.{inked, is_inked}
use Rattle.painting.specs.declared.row_op.RowOp.{RowOp}
use Rattle.painting.specs.declared.row_op.RowOp.TheVariants.{Full, Nothing}
use Rattle.painting.specs.Strips.{MayPaint, is_painted, is_uncut}
use Rattle.painting.proofs.TestLemmas.{is_column, column_true}

-- a test, and the parts of it that another test accepts or rejects
halves_apart : (s c : Bool) → ((s && c) && (s && not c)) ≡ false
halves_apart true true = refl
halves_apart true false = refl
halves_apart false c = refl

halves_whole : (s c : Bool) → ((s && c) || (s && not c)) ≡ s
halves_whole true true = refl
halves_whole true false = refl
halves_whole false c = refl

-- a bit of a number's complement is 1 where the number's bit is 0
flipped_bit : (b : ℕ) → b < 2 → eqb (1 - b) 1 ≡ not (eqb b 1)
flipped_bit zero h = refl
flipped_bit (suc zero) h = refl
flipped_bit (suc (suc b)) h = absurd (omega arith)

-- the cells of a byte's complement are those that aren't cells of the byte
pub other_cells : (cells x : ℕ) → cells < 2 ^ 8 → is_cell (bit_not w8 cells) x ≡ not (is_cell cells x)
other_cells cells x fits =
    ap (λ (b : ℕ). eqb b 1) (bit_at_not w8 cells (x % 8) fits (omega arith)) ∙ flipped_bit (bit_at cells (x % 8)) (bit_at-lt cells (x % 8))

-- the result for a pixel by its column: cells are mixed by one mix, gaps by another
abbrev pub by_cells : ℕ → Mix → Mix → ℕ → ℕ → Colour → Colour
by_cells cells mix gaps column row old = cond (is_cell cells column) (mixed_by mix old) (mixed_by gaps old)

pub both_mixed :
    WritingLaws → (cells y from to : ℕ) (mix gaps : Mix) (old between new : CanvasState) → cells < 2 ^ 8 → IsWhole old
    → Repaints (in_cells y from to cells) (λ column row c. mixed_by mix c) old between
    → Repaints (in_cells y from to (bit_not w8 cells)) (λ column row c. mixed_by gaps c) between new
    → Repaints (in_row_span y from to) (by_cells cells mix gaps) old new
both_mixed laws cells y from to mix gaps old between new fits whole r s =
    let f = by_cells cells mix gaps in
    let rest : ℕ → ℕ → Bool = λ x row. in_row_span y from to x row && not (is_cell cells x) in
    let first : Repaints (in_cells y from to cells) f old between =
    laws.same _ _ _ f old between whole (λ x row at. refl) (λ x row c at t. sym (cond-true (is_cell cells x) _ _ (and_parts (in_row_span y from to x row) (is_cell cells x) t).1)) r in
    let held = laws.stays_whole _ _ old between first whole in
    let other : (x row : ℕ) → in_cells y from to (bit_not w8 cells) x row ≡ rest x row = λ x row. ap (λ (b : Bool). in_row_span y from to x row && b) (other_cells cells x fits) in
    let second : Repaints rest f between new =
    laws.same _ rest _ f between new held (λ x row at. other x row) (λ x row c at t. sym (cond-false (is_cell cells x) _ _ (not-true _ (and_parts (in_row_span y from to x row) (not (is_cell cells x)) (sym (other x row) ∙ t)).1))) s in
    let joined = laws.both _ _ f old between new whole (λ x row at. halves_apart (in_row_span y from to x row) (is_cell cells x)) first second in
    laws.same _ _ f f old new whole (λ x row at. halves_whole (in_row_span y from to x row) (is_cell cells x)) (λ x row c at t. refl) joined

-- the result of a row operation for a pixel
abbrev pub by_row_op : RowOp → ℕ → ℕ → Colour → Colour
by_row_op row_op column row old = inked row_op column old

-- no row operation writes no pixel
pub nothing_painted : WritingLaws → (row_op : RowOp) (cuts : List Rect) (y : ℕ) (columns : ℕ → Bool) (canvas : CanvasState) → IsWhole canvas → row_op ≡ Nothing → Repaints (is_painted row_op cuts y columns) (by_row_op row_op) canvas canvas
nothing_painted laws row_op cuts y columns canvas whole e =
    laws.none _ _ canvas whole (λ x row at. and_right _ (is_inked row_op x) (ap (λ (k : RowOp). is_inked k x) e))

-- the pixels of no column
painted_nowhere : (r p u i : Bool) → p ≡ false → (r && p && u && i) ≡ false
painted_nowhere r p u i e = and_left _ i (and_left _ u (and_right r p e))

pub no_columns : WritingLaws → (row_op : RowOp) (cuts : List Rect) (y : ℕ) (columns : ℕ → Bool) (canvas : CanvasState) → IsWhole canvas → ((x : ℕ) → columns x ≡ false) → Repaints (is_painted row_op cuts y columns) (by_row_op row_op) canvas canvas
no_columns laws row_op cuts y columns canvas whole empty =
    laws.none _ _ canvas whole (λ x row at. painted_nowhere _ (columns x) _ _ (empty x))

pub empty_column : (from to x : ℕ) → to ≤ from → is_column from to x ≡ false
empty_column from to x h =
    false_from_ne_true _ (λ t. let parts = and_parts (leb from x) (ltb x to) t in let low = leb-true from x parts.0 in let high = ltb-true x to parts.1 in omega arith)

parts_apart : (r p q u i : Bool) → (p && q) ≡ false → ((r && p && u && i) && (r && q && u && i)) ≡ false
parts_apart r true true u i h = absurd (true≢false h)
parts_apart r true false u i h = and_right _ _ (painted_nowhere r false u i refl)
parts_apart r false q u i h = and_left _ _ (painted_nowhere r false u i refl)

parts_joined : (r p q u i : Bool) → ((r && p && u && i) || (r && q && u && i)) ≡ (r && (p || q) && u && i)
parts_joined false p q u i = refl
parts_joined true false q u i = refl
parts_joined true true true u i = or_self (u && i)
parts_joined true true false u i = or-false (u && i)

pub both_painted :
    WritingLaws → (row_op : RowOp) (cuts : List Rect) (y : ℕ) (p q : ℕ → Bool) (old between new : CanvasState) → IsWhole old
    → ((x : ℕ) → (p x && q x) ≡ false)
    → Repaints (is_painted row_op cuts y p) (by_row_op row_op) old between
    → Repaints (is_painted row_op cuts y q) (by_row_op row_op) between new
    → Repaints (is_painted row_op cuts y (λ x. p x || q x)) (by_row_op row_op) old new
both_painted laws row_op cuts y p q old between new whole apart r s =
    let joined = laws.both _ _ (by_row_op row_op) old between new whole (λ x row at. parts_apart (eqb row y) (p x) (q x) (is_uncut cuts x row) (is_inked row_op x) (apart x)) r s in
    laws.same _ _ (by_row_op row_op) (by_row_op row_op) old new whole (λ x row at. parts_joined (eqb row y) (p x) (q x) (is_uncut cuts x row) (is_inked row_op x)) (λ x row c at t. refl) joined

-- the columns on both sides of a part are those that aren't in it
beside : (from a b to x : ℕ) → from ≤ a → a ≤ b → b ≤ to → (is_column from a x || is_column b to x) ≡ (is_column from to x && not (is_column a b x))
beside from a b to x h k l = elim (cases_lt x from) [
  | inl below ↦ simp (lt-leb from x below, lt-leb b x (omega arith)) refl
  | inr c ↦ elim (cases_lt x a) [
    | inl left ↦ simp (le-leb from x c, lt-ltb x a left, lt-ltb x to (omega arith), lt-leb a x left) refl
    | inr d ↦ elim (cases_lt x b) [
      | inl within ↦ simp (le-leb from x c, le-ltb x a d, lt-leb b x within, lt-ltb x to (omega arith), le-leb a x d, lt-ltb x b within) refl
      | inr e ↦ elim (cases_lt x to) [
        | inl right ↦ simp (le-leb from x c, le-ltb x a d, le-leb b x e, lt-ltb x to right, le-leb a x d, le-ltb x b e) refl
        | inr after ↦ simp (le-leb from x c, le-ltb x a d, le-leb b x e, le-ltb x to after) refl
      ]
    ]
  ]
]

without_both : (c b : Bool) → (c && not (c && b)) ≡ (c && not b)
without_both true b = refl
without_both false b = refl

without_any : (r c b any i : Bool) → (r && (c && not b) && not any && i) ≡ (r && c && not (b || any) && i)
without_any false c b any i = refl
without_any true false b any i = refl
without_any true true true any i = refl
without_any true true false any i = refl

-- tests of a pixel that agree on the columns of its row
in_row : (r p q u i : Bool) → (r ≡ true → p ≡ q) → (r && p && u && i) ≡ (r && q && u && i)
in_row false p q u i h = refl
in_row true p q u i h = ap (λ (b : Bool). b && u && i) (h refl)

-- What is painted on both sides of what a box hides is what the box leaves.
pub uncut_painted :
    WritingLaws → (row_op : RowOp) (box : Rect) (cuts : List Rect) (y from a b to : ℕ) (old between new : CanvasState) → IsWhole old
    → from ≤ a → a ≤ b → b ≤ to
    → ((x : ℕ) → (is_column from to x && in_box box x y) ≡ is_column a b x)
    → Repaints (is_painted row_op cuts y (is_column from a)) (by_row_op row_op) old between
    → Repaints (is_painted row_op cuts y (is_column b to)) (by_row_op row_op) between new
    → Repaints (is_painted row_op (box ∷ cuts) y (is_column from to)) (by_row_op row_op) old new
uncut_painted laws row_op box cuts y from a b to old between new whole h k l hides r s =
    let apart : (x : ℕ) → (is_column from a x && is_column b to x) ≡ false =
    λ x. false_from_ne_true _ (λ t. let both = and_parts (is_column from a x) (is_column b to x) t in let left = column_true from a x both.0 in let right = column_true b to x both.1 in omega (arith, left.1, right.0)) in
    let joined = both_painted laws row_op cuts y (is_column from a) (is_column b to) old between new whole apart r s in
    let left_over : (x : ℕ) → (is_column from a x || is_column b to x) ≡ (is_column from to x && not (in_box box x y)) =
    λ x. beside from a b to x h k l ∙ ap (λ (c : Bool). is_column from to x && not c) (sym (hides x)) ∙ without_both (is_column from to x) (in_box box x y) in
    laws.same _ _ (by_row_op row_op) (by_row_op row_op) old new whole
    (λ x row at. in_row (eqb row y) _ (is_column from to x && not (in_box box x row)) (is_uncut cuts x row) (is_inked row_op x) (λ t. left_over x ∙ ap (λ (n : ℕ). is_column from to x && not (in_box box x n)) (sym (eqb-true row y t)))
    ∙ without_any (eqb row y) (is_column from to x) (in_box box x row) (list_any (λ c. in_box c x row) cuts) (is_inked row_op x))
    (λ x row c at t. refl)
    joined

-- no span has a column before the first
spans_begin : (first last x : ℕ) (spans : List Span) → AreApart first last spans → x < first → in_spans spans x ≡ false
spans_begin first last x [] apart h = refl
spans_begin first last x (span ∷ spans) apart h =
    let low = apart.0 in let order = apart.1 in
    or_from _ _ (and_left _ _ (lt-leb span.from x (omega (arith, low)))) (spans_begin (suc span.to) last x spans apart.3 (omega (arith, low, order)))

-- One more span is painted, and then the others.
pub spans_painted :
    WritingLaws → (row_op : RowOp) (cuts : List Rect) (y last : ℕ) (span : Span) (spans : List Span) (old between new : CanvasState) → IsWhole old
    → AreApart (suc span.to) last spans
    → Repaints (is_painted row_op cuts y (is_column span.from span.to)) (by_row_op row_op) old between
    → Repaints (is_painted row_op cuts y (in_spans spans)) (by_row_op row_op) between new
    → Repaints (is_painted row_op cuts y (in_spans (span ∷ spans))) (by_row_op row_op) old new
spans_painted laws row_op cuts y last span spans old between new whole apart r s =
    let shared : (x : ℕ) → (is_column span.from span.to x && in_spans spans x) ≡ false =
    λ x. false_from_ne_true _ (λ t. let both = and_parts (is_column span.from span.to x) (in_spans spans x) t in let here = column_true span.from span.to x both.0 in let high = here.1 in true≢false (sym both.1 ∙ spans_begin (suc span.to) last x spans apart (omega (arith, high)))) in
    both_painted laws row_op cuts y (is_column span.from span.to) (in_spans spans) old between new whole shared r s

-- What is painted of a row's spans: only columns before `after`. Painting the remaining spans completes the row.
pub record HasPainted (row_op : RowOp) (cuts : List Rect) (y : ℕ) (all left : List Span) (start now : CanvasState) : Type 0 where
  pub after : ℕ
  pub apart : AreApart after start.width left
  pub within : after ≤ start.width
  pub count : now.writes ≤ start.writes + after
  pub width : now.width ≡ start.width
  pub row : HasRow now y
  pub whole : IsWhole now
  pub goes_on :
      (new : CanvasState) → Repaints (is_painted row_op cuts y (in_spans left)) (by_row_op row_op) now new
      → Repaints (is_painted row_op cuts y (in_spans all)) (by_row_op row_op) start new

-- some columns up to one of them may be painted
pub may_paint_before : (canvas : CanvasState) (y a : ℕ) (columns : Span) → MayPaint canvas y columns → columns.from ≤ a → a ≤ columns.to → MayPaint canvas y (record { from = columns.from; to = a })
may_paint_before canvas y a columns may low high =
    let width = may.width in
    let countable = may.countable in
    record { whole = may.whole; order = low; width = omega (arith, high, width); row = may.row; countable = omega (arith, low, high, countable) }

-- the columns from another one on may be painted
pub may_paint_after :
    WritingLaws → (test : ℕ → ℕ → Bool) (f : ℕ → ℕ → Colour → Colour) (old new : CanvasState) (y a b : ℕ) (columns : Span) → MayPaint old y columns → columns.from ≤ a → a ≤ b
    → b ≤ columns.to → Repaints test f old new → new.writes ≤ old.writes + (a - columns.from) → MayPaint new y (record { from = b; to = columns.to })
may_paint_after laws test f old new y a b columns may low order high r counted =
    let width = may.width in
    let countable = may.countable in
    let low_row = may.row.from_first in
    let high_row = may.row.to_last in
    let same_width = r.width in
    let same_first = r.first in
    let same_rows = r.rows in
    record {
      whole = laws.stays_whole _ _ old new r may.whole;
      order = high;
      width = omega (arith, width, same_width);
      row = record { from_first = omega (arith, low_row, same_first); to_last = omega (arith, high_row, same_first, same_rows) };
      countable = omega (arith, low, order, high, countable, counted);
    }

-- the next of a row's spans may be painted
pub may_paint_next :
    (row_op : RowOp) (cuts : List Rect) (y : ℕ) (all spans : List Span) (span : Span) (start now : CanvasState) → HasPainted row_op cuts y all (span ∷ spans) start now
    → start.writes + 2 * start.width < 2 ^ 64 → MayPaint now y span
may_paint_next row_op cuts y all spans span start now h capacity =
    let low = h.apart.0 in
    let order = h.apart.1 in
    let high = h.apart.2 in
    let counted = h.count in
    let width = h.width in
    record { whole = h.whole; order = omega (arith, order); width = omega (arith, high, width); row = h.row; countable = omega (arith, low, order, high, counted, capacity) }

-- spans that are separate from a column on are separate from an earlier one on
apart_from : (first last lower : ℕ) (spans : List Span) → lower ≤ first → AreApart first last spans → AreApart lower last spans
apart_from first last lower [] h apart = apart
apart_from first last lower (span ∷ spans) h apart = let low = apart.0 in (omega (arith, low), apart.1, apart.2, apart.3)

-- one more span is painted
pub one_painted_more :
    WritingLaws → (row_op : RowOp) (cuts : List Rect) (y : ℕ) (all spans : List Span) (span : Span) (start now new : CanvasState)
    → HasPainted row_op cuts y all (span ∷ spans) start now
    → Repaints (is_painted row_op cuts y (is_column span.from span.to)) (by_row_op row_op) now new
    → new.writes ≤ now.writes + (span.to - span.from)
    → HasPainted row_op cuts y all spans start new
one_painted_more laws row_op cuts y all spans span start now new h r counted =
    let low = h.apart.0 in
    let order = h.apart.1 in
    let high = h.apart.2 in
    let before = h.count in
    let held = h.row in
    let low_row = held.from_first in
    let high_row = held.to_last in
    let same_first = r.first in
    let same_rows = r.rows in
    record {
      after = span.to;
      apart = apart_from (suc span.to) start.width span.to spans (omega arith) h.apart.3;
      within = high;
      count = omega arith;
      width = r.width ∙ h.width;
      row = record { from_first = omega arith; to_last = omega arith };
      whole = laws.stays_whole _ _ now new r h.whole;
      goes_on = λ made rest. h.goes_on made (spans_painted laws row_op cuts y start.width span spans now new made h.whole h.apart.3 r rest);
    }

-- no span remains
pub all_painted :
    WritingLaws → (row_op : RowOp) (cuts : List Rect) (y : ℕ) (all : List Span) (start now : CanvasState)
    → HasPainted row_op cuts y all [] start now → Repaints (is_painted row_op cuts y (in_spans all)) (by_row_op row_op) start now
all_painted laws row_op cuts y all start now h = h.goes_on now (no_columns laws row_op cuts y (in_spans []) now h.whole (λ x. refl))

-- the spans from an index on are the one at the index and those after it
pub next_span : (spans : List Span) (place : ℕ) → place < length spans → drop place spans ≡ get_or spans place record { from = 0; to = 0 } ∷ drop (place + 1) spans
next_span spans place there =
    let next : suc place ≡ place + 1 = omega arith in
    drop-cons spans place record { from = 0; to = 0 } there ∙ ap (λ n. get_or spans place record { from = 0; to = 0 } ∷ drop n spans) next

-- a span of one colour, if nothing is cut out
pub full_span :
    WritingLaws → (splat : Splat) (y from to : ℕ) (now new : CanvasState) → IsWhole now
    → Repaints (in_row_span y from to) (λ column row old. splat.colour) now new
    → Repaints (is_painted (Full splat) [] y (is_column from to)) (by_row_op (Full splat)) now new
full_span laws splat y from to now new whole r =
    laws.same (in_row_span y from to) (is_painted (Full splat) [] y (is_column from to)) (λ x row old. splat.colour) (by_row_op (Full splat)) now new whole
    (λ x row at. alike (eqb row y) (leb from x) (ltb x to))
    (λ x row c at t. refl)
    r
  where
    alike : (row from to : Bool) → (row && from && to) ≡ (row && (from && to) && true && true)
    alike true true true = refl
    alike true true false = refl
    alike true false to = refl
    alike false from to = refl
