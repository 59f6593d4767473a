-- A source that yields the selected pixels of another source.
use Rattle.std.proofs.Common.{◌≡◌, ℕ, Bool, true, false, not, ◌&&◌, refl, ap, sym, ◌∙◌}
use Rattle.std.proofs.lemmas.Bool.{and_from}
use Rattle.std.proofs.Math.Bool.{and-true}
use Rattle.canvas.specs.PixelSources.{GivesNone, GivesOne}
use Rattle.canvas.specs.Writing.{is_at}
use Rattle.canvas.specs.declared.pixel_source.PixelAt.{PixelAt}
use Rattle.painting.proofs.LinePixelLemmas.{is_at_true}

-- the pixels of a source that are selected
abbrev pub filtered : (ℕ → ℕ → Bool) → (ℕ → ℕ → Bool) → ℕ → ℕ → Bool
filtered source keeps x y = source x y && keeps x y

left_over : (s a k l : Bool) → (l && not a) ≡ (k && not a) → ((s && not a) && l) ≡ ((s && k) && not a)
left_over true true true l e = refl
left_over true true false l e = refl
left_over true false k l e = sym (and-true l) ∙ e
left_over false a k l e = refl

left_same : (s a k l : Bool) → (l && not a) ≡ (k && not a) → (a ≡ true → k ≡ false) → ((s && not a) && l) ≡ (s && k)
left_same true true k l e h = sym (h refl)
left_same true false k l e h = sym (and-true l) ∙ e ∙ and-true k
left_same false a k l e h = refl

module _ (places : ℕ → ℕ → ℕ) (old now keeps later : ℕ → ℕ → Bool) (before after : ℕ) (pixel : PixelAt) (given : GivesOne places old now before after pixel) (same : (x y : ℕ) → (later x y && not (is_at pixel.x pixel.y x y)) ≡ (keeps x y && not (is_at pixel.x pixel.y x y))) where
  -- a selected pixel is one of those
  pub gives_kept : keeps pixel.x pixel.y ≡ true → GivesOne places (filtered old keeps) (filtered now later) before after pixel
  gives_kept kept = record {
    given = and_from (old pixel.x pixel.y) (keeps pixel.x pixel.y) given.given kept;
    place = given.place;
    others = λ x y. rw (given.others x y) (left_over (old x y) (is_at pixel.x pixel.y x y) (keeps x y) (later x y) (same x y));
    less = given.less;
  }

  -- a pixel that isn't selected leaves those unchanged
  pub skips_other : keeps pixel.x pixel.y ≡ false → (x y : ℕ) → filtered now later x y ≡ filtered old keeps x y
  skips_other other x y = rw (given.others x y)
      (left_same (old x y) (is_at pixel.x pixel.y x y) (keeps x y) (later x y) (same x y)
      (λ here. let at = is_at_true pixel.x pixel.y x y here in rw (at.0, at.1) other))

-- a step that returns nothing leaves the selected pixels unchanged too
pub still_kept : (old now keeps : ℕ → ℕ → Bool) (before after : ℕ) → GivesNone old now before after → GivesNone (filtered old keeps) (filtered now keeps) before after
still_kept old now keeps before after gives = record { same = λ x y. ap (λ (b : Bool). b && keeps x y) (gives.same x y); less = gives.less }

-- if no pixel remains, no selected pixel remains
pub none_kept : (now keeps : ℕ → ℕ → Bool) → ((x y : ℕ) → now x y ≡ false) → (x y : ℕ) → filtered now keeps x y ≡ false
none_kept now keeps none x y = ap (λ (b : Bool). b && keeps x y) (none x y)
