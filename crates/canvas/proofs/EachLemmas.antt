-- What a source gives is written, pixel after pixel or span after span.
use Rattle.std.proofs.Common.{◌≡◌, ℕ, ◌+◌, ◌*◌, ◌-◌, ◌<◌, ◌≤◌, ◌^◌, Bool, true, false, not, ◌&&◌, ◌||◌, eqb, refl, sym, ap, ◌∙◌, arith}
use Rattle.std.proofs.lemmas.Bool.{and_from, and_parts, eq-eqb, eqb-true, false_from_ne_true, true≢false}
use Rattle.mapping.specs.declared.geometry.Colour.{Colour}
use Rattle.canvas.specs.CanvasState.{CanvasState, HasPixel, HasRow}
use Rattle.canvas.specs.PixelSources.{GivesOne, counted}
use Rattle.canvas.specs.SpanSources.{GivesSpan}
use Rattle.canvas.specs.Writing.{Repaints, in_row_span, is_at}
use Rattle.canvas.specs.WritingLaws.{IsWhole}
use Rattle.canvas.specs.declared.pixel_source.PixelAt.{PixelAt}
use Rattle.canvas.specs.declared.span_source.RowSpan.{RowSpan}
use Rattle.canvas.proofs.SpanLemmas.{span_from, span_parts}
use Rattle.canvas.proofs.WritingLawLemmas.{writing_laws}

-- the pixels of a piece, one or a span, were to come, and every other that was is to come still
pub record GivesPiece (old new piece : ℕ → ℕ → Bool) : Type 0 where
  pub given : (x y : ℕ) → piece x y ≡ true → old x y ≡ true
  pub others : (x y : ℕ) → new x y ≡ (old x y && not (piece x y))

pub gives_pixel : (places : ℕ → ℕ → ℕ) (old new : ℕ → ℕ → Bool) (before after : ℕ) (pixel : PixelAt) → GivesOne places old new before after pixel → GivesPiece old new (is_at pixel.x pixel.y)
gives_pixel places old new before after pixel gives = record {
  given = λ x y at.
      let parts = and_parts (eqb x pixel.x) (eqb y pixel.y) at in
      let column = eqb-true x pixel.x parts.0 in
      let row = eqb-true y pixel.y parts.1 in
      rw (column, row) gives.given;
  others = gives.others;
}

pub gives_span : (old new : ℕ → ℕ → Bool) (before after : ℕ) (span : RowSpan) → GivesSpan old new before after span → GivesPiece old new (in_row_span span.y span.from span.to)
gives_span old new before after span gives = record { given = gives.given; others = gives.others }

pub is_itself : (x y : ℕ) → is_at x y x y ≡ true
is_itself x y = and_from _ _ (eq-eqb x x refl) (eq-eqb y y refl)

-- a pixel was given before: it was to come, and isn't any more
abbrev pub is_given : (ℕ → ℕ → Bool) → (ℕ → ℕ → Bool) → ℕ → ℕ → Bool
is_given start now x y = start x y && not (now x y)

-- the pixels that were given are changed, but for their count, and what is to come was to come from the start
pub record HasChanged (start now : ℕ → ℕ → Bool) (made : Colour → Colour) (count : ℕ) (old canvas : CanvasState) : Type 0 where
  pub written : Repaints (is_given start now) (λ x y c. made c) old (counted count canvas)
  pub kept : (x y : ℕ) → now x y ≡ true → start x y ≡ true
  pub writes : canvas.writes ≡ old.writes

none_given : (a : Bool) → (a && not a) ≡ false
none_given true = refl
none_given false = refl

given_now : (s n q : Bool) → (q ≡ true → n ≡ true) → (n ≡ true → s ≡ true) → ((s && not n) && q) ≡ false
given_now true true q h k = refl
given_now false n q h k = refl
given_now true false false h k = refl
given_now true false true h k = absurd (true≢false (sym (h refl)))

given_more : (s n q : Bool) → (q ≡ true → n ≡ true) → (n ≡ true → s ≡ true) → ((s && not n) || q) ≡ (s && not (n && not q))
given_more true true true h k = refl
given_more true true false h k = refl
given_more true false true h k = refl
given_more true false false h k = refl
given_more false n false h k = refl
given_more false true true h k = absurd (true≢false (sym (k refl)))
given_more false false true h k = absurd (true≢false (sym (h refl)))

all_given : (s n : Bool) → n ≡ false → (s && not n) ≡ s
all_given true false h = refl
all_given false false h = refl
all_given s true h = cc

still : (n q : Bool) → (n && not q) ≡ true → n ≡ true
still true q h = refl
still false q h = h

none_counted : (canvas : CanvasState) → counted 0 canvas ≡ canvas
none_counted canvas = let e : canvas.writes + 0 ≡ canvas.writes = omega arith in rw e refl

-- the writes of a piece are counted behind as many as were before
shifted : (t : ℕ → ℕ → Bool) (f : ℕ → ℕ → Colour → Colour) (count more : ℕ) (old new : CanvasState) → new.writes ≡ old.writes → Repaints t f old (counted more new) → Repaints t f (counted count old) (counted (count + more) new)
shifted t f count more old new same r =
    let writes = r.writes in
    record {
      colours = r.colours;
      writes = omega (arith, writes, same);
      width = r.width;
      first = r.first;
      rows = r.rows;
      most = r.most;
    }

module _ (start : ℕ → ℕ → Bool) (made : Colour → Colour) (old : CanvasState) (whole : IsWhole old) where
  pub none_changed : HasChanged start start made 0 old old
  none_changed = record {
    written = nothing;
    kept = λ x y h. h;
    writes = refl;
  }
    where
      nothing : Repaints (is_given start start) (λ x y c. made c) old (counted 0 old)
      nothing = rw (none_counted old) (writing_laws.none (is_given start start) (λ x y c. made c) old whole (λ x y held. none_given (start x y)))

  module _ (now next piece : ℕ → ℕ → Bool) (count : ℕ) (canvas : CanvasState) (so_far : HasChanged start now made count old canvas) (gives : GivesPiece now next piece) where
    -- the pixels of a piece were to come from the start, and so the canvas holds them
    pub held_now : ((x y : ℕ) → start x y ≡ true → HasPixel old x y) → (x y : ℕ) → piece x y ≡ true → HasPixel canvas x y
    held_now held x y at =
        let from_start = held x y (so_far.kept x y (gives.given x y at)) in
        let w = so_far.written.width in
        let f = so_far.written.first in
        let r = so_far.written.rows in
        let column = from_start.column in
        let low = from_start.from_first in
        let high = from_start.to_last in
        record {
          column = omega (arith, column, w);
          from_first = omega (arith, low, f);
          to_last = omega (arith, high, f, r);
        }

    pub piece_changed : (more : ℕ) (new : CanvasState) → new.writes ≡ canvas.writes → Repaints piece (λ x y c. made c) canvas (counted more new) → HasChanged start next made (count + more) old new
    piece_changed more new same wrote = record {
      written =
          writing_laws.same (λ x y. is_given start now x y || piece x y) (is_given start next) (λ x y c. made c) (λ x y c. made c) old (counted (count + more) new) whole
          (λ x y held. rw (gives.others x y) (given_more (start x y) (now x y) (piece x y) (gives.given x y) (so_far.kept x y)))
          (λ x y c held t. refl)
          (writing_laws.both (is_given start now) piece (λ x y c. made c) old (counted count canvas) (counted (count + more) new) whole
          (λ x y held. given_now (start x y) (now x y) (piece x y) (gives.given x y) (so_far.kept x y))
          so_far.written
          (shifted piece (λ x y c. made c) count more canvas new same wrote));
      kept = λ x y h. so_far.kept x y (still (now x y) (piece x y) (sym (gives.others x y) ∙ h));
      writes = same ∙ so_far.writes;
    }

  -- the same are changed after a step that returns nothing
  pub same_changed : (now next : ℕ → ℕ → Bool) (count : ℕ) (canvas : CanvasState) → HasChanged start now made count old canvas → ((x y : ℕ) → next x y ≡ now x y) → HasChanged start next made count old canvas
  same_changed now next count canvas so_far same = record {
    written =
        writing_laws.same (is_given start now) (is_given start next) (λ x y c. made c) (λ x y c. made c) old (counted count canvas) whole
        (λ x y held. ap (λ (b : Bool). start x y && not b) (sym (same x y)))
        (λ x y c held t. refl)
        so_far.written;
    kept = λ x y h. so_far.kept x y (sym (same x y) ∙ h);
    writes = so_far.writes;
  }

  -- all are, once none is to come
  pub all_changed : (now : ℕ → ℕ → Bool) (count : ℕ) (canvas : CanvasState) → HasChanged start now made count old canvas → ((x y : ℕ) → now x y ≡ false) → Repaints start (λ x y c. made c) old (counted count canvas)
  all_changed now count canvas so_far ended =
      writing_laws.same (is_given start now) start (λ x y c. made c) (λ x y c. made c) old (counted count canvas) whole
      (λ x y held. all_given (start x y) (now x y) (ended x y))
      (λ x y c held t. refl)
      so_far.written

-- and their count fits
pub sum_fits : (start now : ℕ → ℕ → Bool) (made : Colour → Colour) (count : ℕ) (old canvas : CanvasState) → HasChanged start now made count old canvas → old.writes + old.rows * old.width + 1 < 2 ^ 64 → canvas.writes + count < 2 ^ 64
sum_fits start now made count old canvas so_far few =
    let bound = writing_laws.bounded _ _ old (counted count canvas) so_far.written in omega (arith, bound, few)

-- a span that isn't empty, of pixels held, lies in a row held
pub record LiesHeld (canvas : CanvasState) (span : RowSpan) : Type 0 where
  pub width : span.to ≤ canvas.width
  pub row : HasRow canvas span.y

pub lies_held : (canvas : CanvasState) (span : RowSpan) → span.from < span.to → ((x y : ℕ) → in_row_span span.y span.from span.to x y ≡ true → HasPixel canvas x y) → LiesHeld canvas span
lies_held canvas span some held =
    let last = held (span.to - 1) span.y (span_from span.y span.from span.to (span.to - 1) span.y refl (omega arith) (omega arith)) in
    let column = last.column in
    record {
      width = omega arith;
      row = record { from_first = last.from_first; to_last = last.to_last };
    }

-- and an empty one changes nothing
pub empty_changed : (canvas : CanvasState) (span : RowSpan) (f : ℕ → ℕ → Colour → Colour) → IsWhole canvas → span.to ≤ span.from → Repaints (in_row_span span.y span.from span.to) f canvas (counted 0 canvas)
empty_changed canvas span f whole none =
    rw (none_counted canvas)
    (writing_laws.none (in_row_span span.y span.from span.to) f canvas whole
    (λ x y held. false_from_ne_true _ (λ h. let parts = span_parts span.y span.from span.to x y h in let left = parts.1 in let right = parts.2 in omega arith)))
