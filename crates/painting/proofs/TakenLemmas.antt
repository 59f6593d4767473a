-- Pixels that are marked one after another, and the remaining pixels.
use Rattle.std.proofs.Common.{◌≡◌, ℕ, Bool, true, false, not, ◌&&◌, ◌||◌, refl, sym, ◌∙◌}
use Rattle.std.proofs.lemmas.Bool.{and_parts}
use Rattle.canvas.specs.PixelSources.{GivesOne}
use Rattle.canvas.specs.Writing.{is_at}
use Rattle.canvas.specs.declared.pixel_source.PixelAt.{PixelAt}
use Rattle.painting.proofs.LinePixelLemmas.{is_at_true}

-- what isn't marked, besides one more, is what wasn't marked
beside : (t a : Bool) → (not (t || a) && not a) ≡ (not t && not a)
beside true a = refl
beside false true = refl
beside false false = refl

-- a pixel that remained still does, or it is marked
kept_all : (t s a : Bool) → (a ≡ true → s ≡ true) → ((t || a) || (s && not a)) ≡ (t || s)
kept_all true s a h = refl
kept_all false true true h = refl
kept_all false true false h = refl
kept_all false false true h = sym (h refl)
kept_all false false false h = refl

module _ (places : ℕ → ℕ → ℕ) (old now taken later : ℕ → ℕ → Bool) (before after : ℕ) (pixel : PixelAt) (given : GivesOne places old now before after pixel) (takes : (x y : ℕ) → later x y ≡ (taken x y || is_at pixel.x pixel.y x y)) where
  pub taken_outside : (x y : ℕ) → (not (later x y) && not (is_at pixel.x pixel.y x y)) ≡ (not (taken x y) && not (is_at pixel.x pixel.y x y))
  taken_outside x y = rw (takes x y) (beside (taken x y) (is_at pixel.x pixel.y x y))

  -- a pixel that is marked or remains stays so
  pub still_all : (x y : ℕ) → (later x y || now x y) ≡ (taken x y || old x y)
  still_all x y = rw (takes x y, given.others x y)
      (kept_all (taken x y) (old x y) (is_at pixel.x pixel.y x y)
      (λ here. let at = is_at_true pixel.x pixel.y x y here in rw (at.0, at.1) given.given))

  -- what holds for each pixel that remained holds for each that remains now
  pub still_boxed : (test : ℕ → ℕ → Bool) → ((x y : ℕ) → old x y ≡ true → test x y ≡ true) → (x y : ℕ) → now x y ≡ true → test x y ≡ true
  still_boxed test all x y h = all x y (and_parts (old x y) (not (is_at pixel.x pixel.y x y)) (sym (given.others x y) ∙ h)).0
