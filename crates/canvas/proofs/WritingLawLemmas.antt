-- Calls that write, put together.
use Rattle.std.proofs.Common.{◌≡◌, ℕ, ◌+◌, ◌-◌, ◌*◌, ◌/◌, ◌%◌, ◌<◌, ◌≤◌, Bool, true, false, ◌&&◌, ◌||◌, cond, refl, sym, ap, ◌∙◌, arith}
use Rattle.std.proofs.lemmas.Bool.{true≢false}
use Rattle.std.proofs.lemmas.Nat.{mod_below, div_below}
use Rattle.mapping.specs.IndexLaws.{count_indexes_most, count_indexes_none, length-map_indexed, map_indexed_none}
use Rattle.mapping.specs.declared.geometry.Colour.{Colour}
use Rattle.canvas.specs.CanvasState.{CanvasState, HasPixel, HasRow}
use Rattle.canvas.specs.Writing.{Repaints, in_row_span}
use Rattle.canvas.specs.WritingLaws.{IsWhole, PassesNone, SameTest, SameWhere, WritingLaws}
use Rattle.canvas.proofs.IndexLemmas.{map_indexed_same, map_indexed_both, count_same, count_all, count_either}
use Rattle.canvas.proofs.SpanLemmas.{IsPart, count_part, span_from}

-- the pixel at an index of the list of colours is held
held : (canvas : CanvasState) → IsWhole canvas → (i : ℕ) → i < canvas.rows * canvas.width → HasPixel canvas (i % canvas.width) (canvas.first + i / canvas.width)
held canvas whole i h =
    let wide = whole.wide in
    let row : i / canvas.width < canvas.rows = div_below i canvas.width canvas.rows (omega arith) h in
    record { column = mod_below i canvas.width (omega arith); from_first = omega arith; to_last = omega arith }

none : (t : ℕ → ℕ → Bool) (f : ℕ → ℕ → Colour → Colour) (canvas : CanvasState) → IsWhole canvas → PassesNone canvas t → Repaints t f canvas canvas
none t f canvas whole passes =
    let fails : (i : ℕ) → i < canvas.rows * canvas.width → t (i % canvas.width) (canvas.first + i / canvas.width) ≡ false = λ i h. passes _ _ (held canvas whole i h) in
    let long = whole.whole in
    record {
      colours = sym (map_indexed_none _ 0 canvas.colours (λ i c a b. rw (fails i (omega arith)) refl));
      writes = omega (arith, count_indexes_none (λ i. t (i % canvas.width) (canvas.first + i / canvas.width)) 0 (canvas.rows * canvas.width) (λ i a b. fails i (omega arith)));
      width = refl;
      first = refl;
      rows = refl;
      most = refl;
    }

-- tests and functions that agree at a pixel make the same of it
agrees : (a b : Bool) (x y old : Colour) → a ≡ b → (a ≡ true → x ≡ y) → cond a x old ≡ cond b y old
agrees true true x y old e h = h refl
agrees true false x y old e h = absurd (true≢false e)
agrees false true x y old e h = absurd (true≢false (sym e))
agrees false false x y old e h = refl

same : (t u : ℕ → ℕ → Bool) (f g : ℕ → ℕ → Colour → Colour) (old new : CanvasState) → IsWhole old → SameTest old t u → SameWhere old t f g → Repaints t f old new → Repaints u g old new
same t u f g old new whole tests makes r =
    let long = whole.whole in
    record {
      colours = r.colours ∙ map_indexed_same _ _ 0 old.colours (λ i c a b. let at = held old whole i (omega arith) in agrees _ _ _ _ c (tests _ _ at) (makes _ _ c at));
      writes = r.writes ∙ ap (λ (n : ℕ). old.writes + n) (count_same _ _ 0 (old.rows * old.width) (λ i a b. tests _ _ (held old whole i (omega arith))));
      width = r.width;
      first = r.first;
      rows = r.rows;
      most = r.most;
    }

-- a pixel that one of two tests has, and not both
pub either_one : (a b : Bool) (f : Colour → Colour) (old : Colour) → (a && b) ≡ false → cond b (f (cond a (f old) old)) (cond a (f old) old) ≡ cond (a || b) (f old) old
either_one true true f old h = absurd (true≢false h)
either_one true false f old h = refl
either_one false true f old h = refl
either_one false false f old h = refl

both : (t u : ℕ → ℕ → Bool) (f : ℕ → ℕ → Colour → Colour) (old between new : CanvasState) → IsWhole old → PassesNone old (λ x y. t x y && u x y) → Repaints t f old between → Repaints u f between new → Repaints (λ x y. t x y || u x y) f old new
both t u f old between new whole apart r s =
    let long = whole.whole in
    let fails : (i : ℕ) → i < old.rows * old.width → (t (i % old.width) (old.first + i / old.width) && u (i % old.width) (old.first + i / old.width)) ≡ false = λ i h. apart _ _ (held old whole i h) in
    let second = rw (r.width, r.first, r.colours) at s.colours in
    let counted = rw (r.width, r.first, r.rows) at s.writes in
    let sum = count_either (λ i. t (i % old.width) (old.first + i / old.width)) (λ i. u (i % old.width) (old.first + i / old.width)) 0 (old.rows * old.width) (λ i a b. fails i (omega arith)) in
    let before = r.writes in
    record {
      colours = second ∙ map_indexed_both _ _ 0 old.colours ∙ map_indexed_same _ _ 0 old.colours (λ i c a b. either_one _ _ (f (i % old.width) (old.first + i / old.width)) c (fails i (omega arith)));
      writes = omega (arith, counted, sum, before);
      width = s.width ∙ r.width;
      first = s.first ∙ r.first;
      rows = s.rows ∙ r.rows;
      most = s.most ∙ r.most;
    }

span : (y from to : ℕ) (f : ℕ → ℕ → Colour → Colour) (old new : CanvasState) → IsWhole old → HasRow old y → from ≤ to → to ≤ old.width → Repaints (in_row_span y from to) f old new → new.writes ≡ old.writes + (to - from)
span y from to f old new whole row order within r =
    let part : IsPart old.width old.first old.rows y from to = record { order = order; within = within; from_first = row.from_first; to_last = row.to_last } in
    let counted = count_part old.width old.first old.rows y from to part (in_row_span y from to) (λ x row h. h) in
    let all = count_all (λ k. in_row_span y from to (from + k) y) 0 (to - from) (λ k a b. span_from y from to (from + k) y refl (omega arith) (omega arith)) in
    r.writes ∙ ap (λ (n : ℕ). old.writes + n) (counted ∙ all)

bounded : (t : ℕ → ℕ → Bool) (f : ℕ → ℕ → Colour → Colour) (old new : CanvasState) → Repaints t f old new → new.writes ≤ old.writes + old.rows * old.width
bounded t f old new r =
    let e = r.writes in
    omega (arith, e, count_indexes_most (λ i. t (i % old.width) (old.first + i / old.width)) 0 (old.rows * old.width))

stays_whole : (t : ℕ → ℕ → Bool) (f : ℕ → ℕ → Colour → Colour) (old new : CanvasState) → Repaints t f old new → IsWhole old → IsWhole new
stays_whole t f old new r whole =
    let wide = whole.wide in
    let w = r.width in
    record {
      wide = omega (arith, w, wide);
      whole = rw (r.colours, r.rows, r.width) (length-map_indexed _ 0 old.colours ∙ whole.whole);
    }

pub writing_laws : WritingLaws
writing_laws = record { none = none; same = same; both = both; span = span; bounded = bounded; stays_whole = stays_whole }
