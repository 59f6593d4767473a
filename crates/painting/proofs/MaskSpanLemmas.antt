-- The spans of a mask are those of a source of spans.
use Rattle.std.proofs.Common.{◌≡◌, ℕ, Bool, true, false, not, ◌&&◌, ◌==◌, nat_le, nat_lt, refl, sym, ◌∙◌}
use Rattle.canvas.specs.SpanSources.{GivesSpan}
use Rattle.canvas.specs.Writing.{in_row_span}
use Rattle.span_fill.specs.StrokeMasks.{StrokeMaskState, TakesSpan, pixels_left, to_come, in_row_span as has_pixel}
use Rattle.span_fill.specs.declared.stroke_mask.RowSpan.{RowSpan as MaskSpan}

regrouped : (a b c : Bool) → (a && b && c) ≡ (a && (b && c))
regrouped true b c = refl
regrouped false b c = refl

-- what is removed isn't there any more, and everything else stays
taken_away : (old gone new : Bool) → (gone ≡ true → new ≡ false) → (gone ≡ false → new ≡ old) → new ≡ (old && not gone)
taken_away true true new f g = f refl
taken_away true false new f g = g refl
taken_away false true new f g = f refl
taken_away false false new f g = g refl

pub mask_gives : (old new : StrokeMaskState) (span : MaskSpan) → TakesSpan old new span
    → GivesSpan (to_come old) (to_come new) (pixels_left old) (pixels_left new) (record { y = span.y; from = span.columns.from; to = span.columns.to })
mask_gives old new span taken = record {
  given = λ x y h. taken.were x y (sym (same x y) ∙ h);
  others = λ x y.
      taken_away (to_come old x y) (in_row_span span.y span.columns.from span.columns.to x y) (to_come new x y)
      (λ e. taken.taken x y (sym (same x y) ∙ e)) (λ e. taken.others x y (sym (same x y) ∙ e));
  less = taken.less;
}
  where
    same : (x y : ℕ) → in_row_span span.y span.columns.from span.columns.to x y ≡ has_pixel span x y
    same x y = regrouped (y == span.y) (nat_le span.columns.from x) (nat_lt x span.columns.to)
