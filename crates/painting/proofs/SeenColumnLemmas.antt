-- The columns from the first span to the last one, and those that no box cuts off.
use Rattle.std.proofs.Common.{◌≡◌, ℕ, zero, suc, ◌-◌, ◌<◌, ◌≤◌, Bool, true, false, ◌||◌, not, refl, List, [], ◌∷◌, length, Some, sym, arith}
use Rattle.std.specs.Prelude.{get_or, slice_get}
use Rattle.std.specs.List.{list_any}
use Rattle.mapping.specs.PixelBoxes.{in_box}
use Rattle.mapping.specs.declared.geometry.Rect.{Rect}
use Rattle.dc_stack.specs.declared.clip.ClipBox.{ClipBox}
use Rattle.span_fill.specs.Spans.{AreApart, in_span, in_spans}
use Rattle.span_fill.specs.declared.span.Span.{Span}
use Rattle.painting.specs.Strips.{is_uncut, placed_boxes}
use Rattle.painting.proofs.TestLemmas.{column_true}

-- the columns of spans lie between the start of the first one and the end of the last one
pub record IsHull (first last : Span) (high : ℕ) (spans : List Span) : Type 0 where
  pub all : (x : ℕ) → in_spans spans x ≡ true → (first.from ≤ x) × (x < last.to)
  pub order : first.from < last.to
  pub end : last.to ≤ high

one_of : (one other : Bool) (holds : Type 0) → (one ≡ true → holds) → (other ≡ true → holds) → (one || other) ≡ true → holds
one_of true other holds f g h = f h
one_of false other holds f g h = g h

pub is_hull : (low high : ℕ) (first last : Span) (spans : List Span) → AreApart low high (first ∷ spans) → slice_get (first ∷ spans) (length spans) ≡ Some last → IsHull first last high (first ∷ spans)
is_hull low high first last [] apart e =
    let same : first ≡ last = cc in
    let some = apart.1 in
    let end = apart.2 in
    rw (← same) (record {
      all = λ x h. one_of (in_span first x) false ((first.from ≤ x) × (x < first.to)) (column_true first.from first.to x) (λ k. absurd (cc)) h;
      order = some;
      end = end;
    })
is_hull low high first last (next ∷ spans) apart e =
    let rest = is_hull (suc first.to) high next last spans apart.3 e in
    let some = apart.1 in
    let after = apart.3.0 in
    let order = rest.order in
    record {
      all = λ x h.
          one_of (in_span first x) (in_spans (next ∷ spans) x) ((first.from ≤ x) × (x < last.to))
          (λ k. let at = column_true first.from first.to x k in let low = at.0 in let high = at.1 in (low, omega (arith, high, after, order)))
          (λ k. let at = rest.all x k in let low = at.0 in (omega (arith, low, after, some), at.1))
          h;
      order = omega (arith, some, after, order);
      end = rest.end;
    }

pub hull_of : (spans : List Span) (first last : Span) → AreApart 0 8192 spans → Some first ≡ slice_get spans 0 → Some last ≡ slice_get spans (length spans - 1) → IsHull first last 8192 spans
hull_of [] first last apart e f = absurd (cc)
hull_of (span ∷ spans) first last apart e f =
    let same : first ≡ span = cc in
    let last_place : length (span ∷ spans) - 1 ≡ length spans = omega arith in
    let at : slice_get (span ∷ spans) (length spans) ≡ Some last = sym (rw last_place at f) in
    rw same (is_hull 0 8192 span last spans apart at)

-- a column that no box cuts out is in none of them
pub not_cut : (cuts : List ClipBox) (x y place : ℕ) (none : ClipBox) → place < length cuts → is_uncut (placed_boxes cuts) x y ≡ true → in_box (get_or cuts place none).placed x y ≡ true → ⊥
not_cut [] x y place none h uncut i = absurd (omega (arith, h))
not_cut (cut ∷ cuts) x y zero none h uncut i = let there : is_uncut (placed_boxes (cut ∷ cuts)) x y ≡ false = rw i refl in absurd (cc)
not_cut (cut ∷ cuts) x y (suc place) none h uncut i = not_cut cuts x y place none (omega (arith, h)) (later (in_box cut.placed x y) (list_any (λ (box : Rect). in_box box x y) (placed_boxes cuts)) uncut) i
  where
    later : (one other : Bool) → not (one || other) ≡ true → not other ≡ true
    later true other h = absurd (cc)
    later false other h = h
