-- Strokes through a mask: what boxes cut out of it, and parts of a region one after another.
use Rattle.std.proofs.Common.{◌≡◌, ℕ, ◌≤◌, Bool, true, false, ◌&&◌, ◌||◌, not, pos, int_le, int_lt, List, arith, refl, ap, sym, ◌∙◌, inl, inr}
use Rattle.std.proofs.lemmas.Bool.{and_from, and_parts, cases_lt, or_left, or_right, true≢false}
use Rattle.mapping.specs.TestLaws.{by_either, same_test}
use Rattle.mapping.specs.Mixes.{mixed_by}
use Rattle.mapping.specs.PixelBoxes.{in_box, is_from_to}
use Rattle.mapping.specs.declared.geometry.Colour.{Colour}
use Rattle.mapping.specs.declared.geometry.Rect.{Rect}
use Rattle.canvas.specs.CanvasState.{CanvasState, HasPixel}
use Rattle.canvas.specs.WritingLaws.{IsWhole, WritingLaws}
use Rattle.dc_stack.specs.Clip.{in_boxes, in_kept}
use Rattle.dc_stack.specs.Values.{placed_value}
use Rattle.span_fill.specs.Spans.{in_region, in_span}
use Rattle.span_fill.specs.StrokeMasks.{StrokeMaskState, comes_from, is_marked, to_come}
use Rattle.span_fill.specs.WideStrokes.{in_wide_stroke}
use Rattle.span_fill.specs.declared.line.Line.{Line}
use Rattle.span_fill.specs.declared.span.Region.{Region}
use Rattle.span_fill.specs.declared.span.Span.{Span}
use Rattle.painting.specs.Painted.{PaintsShape, paints}
use Rattle.painting.specs.PenStrokes.{stroke_paint}
use Rattle.painting.specs.Regions.{HasVisible}
use Rattle.painting.specs.Strips.{is_uncut}
use Rattle.painting.specs.WideSpans.{MixesUncutWide, is_uncut_wide}
use Rattle.painting.specs.declared.stroke.Stroke.{Stroke}
use Rattle.painting.proofs.TestLemmas.{column_from, column_true}

-- what a box hides of a pixel of the region that was left
pub cut_more : (column row left right above below rest : Bool) → (((column && row) && rest) && not ((column && (left && right)) && (row && (above && below)))) ≡ (((column && row) && rest) && not ((left && right) && (above && below)))
cut_more true true left right above below rest = refl
cut_more true false left right above below rest = refl
cut_more false row left right above below rest = refl

pub cut_one :
    (m : StrokeMaskState) (hidden : Region) (box : Rect) (x y : ℕ) → in_span hidden.columns x ≡ (in_span m.region.columns x && is_from_to box.l box.r x)
    → in_span hidden.rows y ≡ (in_span m.region.rows y && is_from_to box.t box.b y) → (to_come m x y && not (in_region hidden x y)) ≡ (to_come m x y && not (in_box box x y))
cut_one m hidden box x y columns rows =
    ap (λ (b : Bool). to_come m x y && not (b && in_span hidden.rows y)) columns
    ∙ ap (λ (b : Bool). to_come m x y && not ((in_span m.region.columns x && is_from_to box.l box.r x) && b)) rows
    ∙ cut_more (in_span m.region.columns x) (in_span m.region.rows y) (int_le box.l (pos x)) (int_lt (pos x) box.r) (int_le box.t (pos y)) (int_lt (pos y) box.b) (comes_from m.row m.column x y && is_marked m.bits m.region x y)

-- what several boxes leave
pub cut_rest : (left box rest : Bool) → ((left && not box) && not rest) ≡ (left && not (box || rest))
cut_rest true true rest = refl
cut_rest true false rest = refl
cut_rest false box rest = refl

pub cut_none : (left : Bool) → left ≡ (left && true)
cut_none true = refl
cut_none false = refl

-- the rows of a region before a row
abbrev pub before : Region → ℕ → Region
before region y = record { columns = region.columns; rows = record { from = region.rows.from; to = y } }

module _ (laws : WritingLaws) (stroke : Stroke) (lines : List Line) (old : CanvasState) (whole : IsWhole old) where
  abbrev uncut : ℕ → ℕ → Bool
  uncut x y = in_wide_stroke stroke.nib lines x y && is_uncut (placed_value stroke.clip.now).cuts x y

  abbrev mixed : ℕ → ℕ → Colour → Colour
  mixed x y c = mixed_by stroke.mix c

  -- no row
  pub none_mixed : (region : Region) → MixesUncutWide (before region region.rows.from) stroke lines old old
  none_mixed region =
      laws.none (is_uncut_wide (before region region.rows.from) stroke lines) mixed old whole
      (λ x y held. nowhere (in_span region.columns x) (in_span (record { from = region.rows.from; to = region.rows.from }) y) (uncut x y) (no_row y))
    where
      nowhere : (a b c : Bool) → b ≡ false → ((a && b) && c) ≡ false
      nowhere true b c e = rw e refl
      nowhere false b c e = refl

      no_row : (y : ℕ) → in_span (record { from = region.rows.from; to = region.rows.from }) y ≡ false
      no_row y = same_test _ _ (λ t. let there = column_true region.rows.from region.rows.from y t in let a = there.0 in let b = there.1 in absurd (omega (arith, a, b))) (λ t. absurd (true≢false (sym t)))

  -- the rows of one more part
  pub part_mixed :
      (region part : Region) (y : ℕ) (between new : CanvasState) → part.columns ≡ region.columns → part.rows.from ≡ y → region.rows.from ≤ y → y ≤ part.rows.to
      → MixesUncutWide (before region y) stroke lines old between → MixesUncutWide part stroke lines between new → MixesUncutWide (before region part.rows.to) stroke lines old new
  part_mixed region part y between new columns first low order so_far more =
      laws.same (λ a b. is_uncut_wide (before region y) stroke lines a b || is_uncut_wide part stroke lines a b) (is_uncut_wide (before region part.rows.to) stroke lines) mixed mixed old new whole
      (λ a b held. together a b)
      (λ a b c held t. refl)
      (laws.both (is_uncut_wide (before region y) stroke lines) (is_uncut_wide part stroke lines) mixed old between new whole (λ a b held. apart a b) so_far more)
    where
      apart : (a b : ℕ) → (is_uncut_wide (before region y) stroke lines a b && is_uncut_wide part stroke lines a b) ≡ false
      apart a b = same_test _ _
          (λ t.
          let both = and_parts (is_uncut_wide (before region y) stroke lines a b) (is_uncut_wide part stroke lines a b) t in
          let one = and_parts (in_span region.columns a) (in_span (record { from = region.rows.from; to = y }) b) (and_parts (in_region (before region y) a b) (uncut a b) both.0).0 in
          let two = and_parts (in_span part.columns a) (in_span part.rows b) (and_parts (in_region part a b) (uncut a b) both.1).0 in
          let c = (column_true region.rows.from y b one.1).1 in
          let d = (column_true part.rows.from part.rows.to b two.1).0 in
          absurd (omega (arith, c, d, first)))
          (λ t. absurd (true≢false (sym t)))

      rows : (b : ℕ) → (in_span (record { from = region.rows.from; to = y }) b || in_span part.rows b) ≡ in_span (record { from = region.rows.from; to = part.rows.to }) b
      rows b = same_test _ _
          (λ t. by_either (in_span (record { from = region.rows.from; to = y }) b) (in_span part.rows b) t
          (λ (h : in_span (record { from = region.rows.from; to = y }) b ≡ true). let there = column_true region.rows.from y b h in let c = there.0 in let d = there.1 in column_from region.rows.from part.rows.to b c (omega (arith, d, order)))
          (λ (h : in_span part.rows b ≡ true). let there = column_true part.rows.from part.rows.to b h in let c = there.0 in let d = there.1 in column_from region.rows.from part.rows.to b (omega (arith, c, first, low)) d))
          (λ t.
          let there = column_true region.rows.from part.rows.to b t in
          let c = there.0 in
          let d = there.1 in
          elim (cases_lt b y) [
            | inl h ↦ or_left _ _ (column_from region.rows.from y b c h)
            | inr h ↦ or_right _ _ (column_from part.rows.from part.rows.to b (omega (arith, h, first)) d)
          ])

      joined : (columns one two rest : Bool) → (((columns && one) && rest) || ((columns && two) && rest)) ≡ ((columns && (one || two)) && rest)
      joined true true two true = refl
      joined true true true false = refl
      joined true true false false = refl
      joined true false two rest = refl
      joined false one two rest = refl

      together : (a b : ℕ) → (is_uncut_wide (before region y) stroke lines a b || is_uncut_wide part stroke lines a b) ≡ is_uncut_wide (before region part.rows.to) stroke lines a b
      together a b =
          ap (λ (s : Span). ((in_span region.columns a && in_span (record { from = region.rows.from; to = y }) b) && uncut a b) || ((in_span s a && in_span part.rows b) && uncut a b)) columns
          ∙ joined (in_span region.columns a) (in_span (record { from = region.rows.from; to = y }) b) (in_span part.rows b) (uncut a b)
          ∙ ap (λ (r : Bool). (in_span region.columns a && r) && uncut a b) (rows b)

  -- a region with everything visible of a stroke has what is stroked
  pub stroked : (region : Region) (new : CanvasState) → HasVisible (placed_value stroke.clip.now) (in_wide_stroke stroke.nib lines) old region → MixesUncutWide region stroke lines old new
      → PaintsShape (stroke_paint stroke) (in_wide_stroke stroke.nib lines) old new
  stroked region new visible r =
      laws.same (is_uncut_wide region stroke lines) (paints (stroke_paint stroke) (in_wide_stroke stroke.nib lines)) mixed (stroke_paint stroke).makes old new whole
      (λ x y held. seen x y held)
      (λ x y c held t. refl)
      r
    where
      seen : (x y : ℕ) → HasPixel old x y → is_uncut_wide region stroke lines x y ≡ paints (stroke_paint stroke) (in_wide_stroke stroke.nib lines) x y
      seen x y held = same_test _ _
          (λ t.
          let a = and_parts (in_region region x y) (in_wide_stroke stroke.nib lines x y && is_uncut (placed_value stroke.clip.now).cuts x y) t in
          let b = and_parts (in_wide_stroke stroke.nib lines x y) (is_uncut (placed_value stroke.clip.now).cuts x y) a.1 in
          and_from (in_boxes (placed_value stroke.clip.now) x y && in_wide_stroke stroke.nib lines x y) true (and_from (in_boxes (placed_value stroke.clip.now) x y) (in_wide_stroke stroke.nib lines x y) (and_from (in_kept (placed_value stroke.clip.now).kept x y) (is_uncut (placed_value stroke.clip.now).cuts x y) (visible.kept x y held a.0) b.1) b.0) refl)
          (λ t.
          let a = and_parts (in_boxes (placed_value stroke.clip.now) x y) (in_wide_stroke stroke.nib lines x y) (and_parts (in_boxes (placed_value stroke.clip.now) x y && in_wide_stroke stroke.nib lines x y) true t).0 in
          let b = and_parts (in_kept (placed_value stroke.clip.now).kept x y) (is_uncut (placed_value stroke.clip.now).cuts x y) a.0 in
          and_from (in_region region x y) (in_wide_stroke stroke.nib lines x y && is_uncut (placed_value stroke.clip.now).cuts x y) (visible.all x y held b.0 a.1) (and_from (in_wide_stroke stroke.nib lines x y) (is_uncut (placed_value stroke.clip.now).cuts x y) a.1 b.1))
