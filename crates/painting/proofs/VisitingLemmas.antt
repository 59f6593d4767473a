-- Lines are stroked through a visited mask: a pixel is written when it is marked.
use Rattle.std.proofs.Common.{◌≡◌, ℕ, ◌+◌, ◌*◌, ◌^◌, ◌<◌, ◌≤◌, ℤ, pos, Bool, true, false, not, ◌&&◌, ◌||◌, if◌then◌else◌, List, [], ◌∷◌, arith, refl, ap, sym, ◌∙◌}
use Rattle.std.proofs.lemmas.Int.{ints}
use Rattle.canvas.specs.CanvasState.{CanvasState}
use Rattle.canvas.specs.Writing.{Repaints}
use Rattle.canvas.specs.WritingLaws.{IsWhole, WritingLaws}
use Rattle.mapping.specs.Mixes.{mixed_by}
use Rattle.mapping.specs.TestLaws.{same_test}
use Rattle.mapping.specs.declared.mix.Mix.{Mix}
use Rattle.span_fill.specs.Spans.{in_region}
use Rattle.span_fill.specs.Strokes.{OnePixelForEachStep, far, in_stroke, is_y_major, on_line, steps_of}
use Rattle.span_fill.specs.declared.line.Line.{Line}
use Rattle.span_fill.specs.declared.span.Region.{Region}
use Rattle.painting.specs.Regions.{HasRegion}
use Rattle.painting.specs.LinePixels.{is_visible}
use Rattle.painting.specs.Visiting.{VisitsLine}
use Rattle.painting.specs.VisitedMask.{VisitedMaskState, is_taken}

-- a line that ends where it begins has no pixel
no_steps : (line : Line) → line.from.x ≡ line.to.x → line.from.y ≡ line.to.y → steps_of line ≡ 0
no_steps line e d = none (is_y_major line)
  where
    nowhere : (a b : ℤ) → a ≡ b → far a b ≡ 0
    nowhere a b h = rw h (omega (arith, ints))

    none : (y_major : Bool) → (if y_major then far line.from.y line.to.y else far line.from.x line.to.x) ≡ 0
    none true = nowhere line.from.y line.to.y d
    none false = nowhere line.from.x line.to.x e

no_pixel : OnePixelForEachStep → (line : Line) → line.from.x ≡ line.to.x → line.from.y ≡ line.to.y → (x y : ℤ) → on_line line x y ≡ false
no_pixel law line e d x y = same_test _ _
    (λ h. let before = law.no_other line x y h in let none = no_steps line e d in absurd (omega (arith, before, none)))
    (λ e. cc)

nowhere_visible : (on inside : Bool) → on ≡ false → (inside && on) ≡ false
nowhere_visible on true e = e
nowhere_visible on false e = refl

nothing_new : (taken visible : Bool) → visible ≡ false → (visible && not taken) ≡ false
nothing_new taken true e = absurd (no e)
  where
    no : true ≡ false → ⊥
    no e = cc
nothing_new taken false e = refl

same_taken : (taken visible : Bool) → visible ≡ false → taken ≡ (taken || visible)
same_taken true visible e = refl
same_taken false visible e = sym e

-- if nothing of a line is visible, nothing of it is marked or written
pub nothing_visited : WritingLaws → (line : Line) (mix : Mix) (visited : VisitedMaskState) (canvas : CanvasState) → IsWhole canvas → ((x y : ℕ) → is_visible visited.region line x y ≡ false) → VisitsLine line mix visited visited canvas canvas
nothing_visited laws line mix visited canvas whole none = record {
  region = refl;
  taken = λ x y. same_taken (is_taken visited x y) (is_visible visited.region line x y) (none x y);
  written =
      laws.none (λ x y. is_visible visited.region line x y && not (is_taken visited x y)) (λ x y old. mixed_by mix old) canvas whole
      (λ x y held. nothing_new (is_taken visited x y) (is_visible visited.region line x y) (none x y));
}

pub point_visited : WritingLaws → OnePixelForEachStep → (line : Line) (mix : Mix) (visited : VisitedMaskState) (canvas : CanvasState) → IsWhole canvas → line.from.x ≡ line.to.x → line.from.y ≡ line.to.y → VisitsLine line mix visited visited canvas canvas
point_visited laws law line mix visited canvas whole e d =
    nothing_visited laws line mix visited canvas whole (λ x y.
    nowhere_visible (on_line line (pos x) (pos y)) (in_region visited.region x y) (no_pixel law line e d (pos x) (pos y)))

-- the pixels of the lines before the remaining ones are marked and written
pub record HasVisited (mix : Mix) (all left : List Line) (region : Region) (visited : VisitedMaskState) (before after : CanvasState) : Type 0 where
  pub region_is : visited.region ≡ region
  pub whole : IsWhole after
  pub so_far : (x y : ℕ) → (is_taken visited x y || (in_region region x y && in_stroke left x y)) ≡ (in_region region x y && in_stroke all x y)
  pub written : Repaints (is_taken visited) (λ x y old. mixed_by mix old) before after

first_of : (t r on st u : Bool) → u ≡ (t || (r && on)) → (u || (r && st)) ≡ (t || (r && (on || st)))
first_of true true on st u e = rw e refl
first_of true false on st u e = rw e refl
first_of false true true st u e = rw e refl
first_of false true false st u e = rw e refl
first_of false false on st u e = rw e refl

none_of : (u r : Bool) → (u || (r && false)) ≡ u
none_of true r = refl
none_of false true = refl
none_of false false = refl

none_taken : (t a : Bool) → t ≡ false → (t || a) ≡ a
none_taken t a e = rw e refl

apart : (t v : Bool) → (t && (v && not t)) ≡ false
apart true true = refl
apart true false = refl
apart false v = refl

together : (t v u : Bool) → u ≡ (t || v) → (t || (v && not t)) ≡ u
together true v u e = sym e
together false true u e = sym e
together false false u e = sym e

module _ (laws : WritingLaws) (mix : Mix) (all : List Line) (region : Region) (before : CanvasState) (whole : IsWhole before) where
  -- none is marked yet
  pub none_visited : (visited : VisitedMaskState) → visited.region ≡ region → ((x y : ℕ) → is_taken visited x y ≡ false) → HasVisited mix all all region visited before before
  none_visited visited same none = record {
    region_is = same;
    whole = whole;
    so_far = λ x y. none_taken (is_taken visited x y) (in_region region x y && in_stroke all x y) (none x y);
    written = laws.none (is_taken visited) (λ x y old. mixed_by mix old) before whole (λ x y held. none x y);
  }

  module _ (left : List Line) (visited : VisitedMaskState) (after : CanvasState) (so_far : HasVisited mix all left region visited before after) where
    -- the canvas still contains the box, and its count can take a line
    pub still_held : HasRegion before region → HasRegion after visited.region
    still_held held =
        let w = so_far.written in
        record {
          right = rw (so_far.region_is, w.width) held.right;
          top = rw (so_far.region_is, w.first) held.top;
          bottom = rw (so_far.region_is, w.first, w.rows) held.bottom;
        }

    pub still_countable : before.rows * before.width ≤ 2 ^ 26 → before.writes + 2 ^ 27 + 2 ^ 26 < 2 ^ 64 → after.writes + after.rows * after.width + 1 < 2 ^ 64
    still_countable pixels capacity =
        let bound = laws.bounded _ _ before after so_far.written in
        let size : after.rows * after.width ≡ before.rows * before.width = rw (so_far.written.rows, so_far.written.width) refl in
        omega (arith, bound, size, pixels, capacity)

    -- one more line
    pub one_visited : (rest : List Line) (line : Line) (new : VisitedMaskState) (last : CanvasState) → left ≡ line ∷ rest → VisitsLine line mix visited new after last → HasVisited mix all rest region new before last
    one_visited rest line new last is one =
        let visible = is_visible visited.region line in
        record {
          region_is = one.region ∙ so_far.region_is;
          whole = laws.stays_whole _ _ after last one.written so_far.whole;
          so_far = λ x y.
              first_of (is_taken visited x y) (in_region region x y) (on_line line (pos x) (pos y)) (in_stroke rest x y) (is_taken new x y)
              (one.taken x y ∙ ap (λ (r : Region). is_taken visited x y || is_visible r line x y) so_far.region_is)
              ∙ ap (λ (lines : List Line). is_taken visited x y || (in_region region x y && in_stroke lines x y)) (sym is)
              ∙ so_far.so_far x y;
          written =
              laws.same (λ x y. is_taken visited x y || (visible x y && not (is_taken visited x y))) (is_taken new) (λ x y old. mixed_by mix old) (λ x y old. mixed_by mix old) before last whole
              (λ x y held. together (is_taken visited x y) (visible x y) (is_taken new x y) (one.taken x y))
              (λ x y c held t. refl)
              (laws.both (is_taken visited) (λ x y. visible x y && not (is_taken visited x y)) (λ x y old. mixed_by mix old) before after last whole
              (λ x y held. apart (is_taken visited x y) (visible x y)) so_far.written one.written);
        }

    -- all are marked, if no line remains
    pub all_visited : left ≡ [] → Repaints (λ x y. in_region region x y && in_stroke all x y) (λ x y old. mixed_by mix old) before after
    all_visited none =
        laws.same (is_taken visited) (λ x y. in_region region x y && in_stroke all x y) (λ x y old. mixed_by mix old) (λ x y old. mixed_by mix old) before after whole
        (λ x y held.
        sym (none_of (is_taken visited x y) (in_region region x y))
        ∙ ap (λ (lines : List Line). is_taken visited x y || (in_region region x y && in_stroke lines x y)) (sym none)
        ∙ so_far.so_far x y)
        (λ x y c held t. refl)
        so_far.written
