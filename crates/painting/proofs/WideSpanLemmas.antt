-- The remaining rows of a wide line are what a region has of it, and what is mixed of a region is what is stroked.
use Rattle.std.proofs.Common.{◌≡◌, ℕ, pos, Bool, true, false, ◌&&◌, ◌||◌, int_le, int_lt, [], ◌∷◌, List, arith, refl, ap, ◌∙◌}
use Rattle.std.proofs.lemmas.Bool.{and_from, and_parts}
use Rattle.std.proofs.lemmas.Int.{ints}
use Rattle.mapping.specs.TestLaws.{int_le-from, int_le-true, int_lt-from, int_lt-true, same_test}
use Rattle.mapping.specs.Mixes.{mixed_by}
use Rattle.mapping.specs.declared.mix.Mix.{Mix}
use Rattle.mapping.specs.declared.nib.Nib.{Nib}
use Rattle.canvas.specs.CanvasState.{CanvasState}
use Rattle.canvas.specs.WritingLaws.{IsWhole, WritingLaws}
use Rattle.dc_stack.specs.Clip.{ClipValue}
use Rattle.span_fill.specs.Spans.{in_region, in_span}
use Rattle.span_fill.specs.WideLines.{HasAllRows, WideLineState}
use Rattle.span_fill.specs.WideStrokes.{in_wide_stroke, on_wide_line}
use Rattle.span_fill.specs.declared.line.Line.{Line}
use Rattle.span_fill.specs.declared.span.Region.{Region}
use Rattle.painting.specs.Painted.{PaintsShape, mixing_paint, paints}
use Rattle.painting.specs.Regions.{HasVisible}
use Rattle.painting.specs.WideSpans.{MixesWide, is_wide_to_come}
use Rattle.painting.proofs.TestLemmas.{column_from, column_true}
use Rattle.painting.proofs.VisibleLemmas.{seen_uncut}

or_nothing : (b : Bool) → b ≡ (b || false)
or_nothing true = refl
or_nothing false = refl

module _ (wide : WideLineState) (region : Region) (all : HasAllRows (pos region.rows.from) (pos region.rows.to) wide) (x y : ℕ) where
  abbrev covered : Bool
  covered = on_wide_line wide.nib wide.line (pos x) (pos y)

  -- what remains lies in the region
  pub wide_inside : is_wide_to_come wide region.columns x y ≡ true → in_region region x y ≡ true
  wide_inside h =
      let a = and_parts (in_span region.columns x && covered) (int_le wide.next (pos y) && int_lt (pos y) wide.end) h in
      let column = (and_parts (in_span region.columns x) covered a.0).0 in
      let rows = and_parts (int_le wide.next (pos y)) (int_lt (pos y) wide.end) a.1 in
      let low = int_le-true wide.next (pos y) rows.0 in
      let high = int_lt-true (pos y) wide.end rows.1 in
      let first = all.first in
      let last = all.last in
      and_from (in_span region.columns x) (in_span region.rows y) column
      (column_from region.rows.from region.rows.to y (omega (arith, ints, low, first)) (omega (arith, ints, high, last)))

  -- all that the region has of the line remains
  to_come : is_wide_to_come wide region.columns x y ≡ (in_region region x y && covered)
  to_come = same_test _ _
      (λ h.
      let a = and_parts (in_span region.columns x && covered) (int_le wide.next (pos y) && int_lt (pos y) wide.end) h in
      and_from (in_region region x y) covered (wide_inside h) (and_parts (in_span region.columns x) covered a.0).1)
      (λ h.
      let a = and_parts (in_region region x y) covered h in
      let b = and_parts (in_span region.columns x) (in_span region.rows y) a.0 in
      let row = column_true region.rows.from region.rows.to y b.1 in
      let low = row.0 in
      let high = row.1 in
      let left = all.all (pos x) (pos y) (omega (arith, ints, low)) (omega (arith, ints, high)) a.1 in
      and_from (in_span region.columns x && covered) (int_le wide.next (pos y) && int_lt (pos y) wide.end)
      (and_from (in_span region.columns x) covered b.0 a.1)
      (and_from (int_le wide.next (pos y)) (int_lt (pos y) wide.end) (int_le-from wide.next (pos y) left.0) (int_lt-from (pos y) wide.end left.1)))

  pub wide_to_come : is_wide_to_come wide region.columns x y ≡ (in_region region x y && in_wide_stroke wide.nib (wide.line ∷ []) x y)
  wide_to_come = to_come ∙ ap (λ (b : Bool). in_region region x y && b) (or_nothing covered)

-- if a clip cuts nothing out, the pixels mixed in a region that contains everything visible are those of the stroke
pub painted_wide : WritingLaws → (clip : ClipValue) (mix : Mix) (nib : Nib) (lines : List Line) (region : Region) (old new : CanvasState) → IsWhole old → HasVisible clip (in_wide_stroke nib lines) old region → clip.cuts ≡ [] → MixesWide region nib lines mix old new → PaintsShape (mixing_paint clip mix) (in_wide_stroke nib lines) old new
painted_wide laws clip mix nib lines region old new whole visible none r =
    laws.same (λ x y. in_region region x y && in_wide_stroke nib lines x y) (paints (mixing_paint clip mix) (in_wide_stroke nib lines)) (λ x y c. mixed_by mix c) (mixing_paint clip mix).makes old new whole
    (λ x y held. seen_uncut clip mix (in_wide_stroke nib lines) old region visible none x y held)
    (λ x y c held t. refl)
    r
