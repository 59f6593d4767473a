-- Boxes that are placed are boxes of what was placed.
use Rattle.std.proofs.Common.{◌≡◌, ℤ, ◌≤ℤ◌, Bool, List, [], ◌∷◌, map, Option, Some, None, ◌⊎◌, inl, inr, arith, refl, ap, sym, ◌∙◌}
use Rattle.std.proofs.lemmas.Int.{by_lt_z, ints}
use Rattle.std.specs.Int.{int_max, int_min}
use Rattle.std.specs.List.{list_any}
use Rattle.mapping.specs.declared.geometry.Rect.{Rect}
use Rattle.mapping.specs.PlacingLaws.{PlacingLaws, ShowsFrame}
use Rattle.mapping.specs.Surface.{Surface, placed}
use Rattle.dc_stack.specs.Values.{IsPlacedOn, clip_value, placed_value}
use Rattle.dc_stack.specs.declared.clip.Clip.{Clip}
use Rattle.dc_stack.specs.declared.clip.ClipBox.{ClipBox}
use Rattle.dc_stack.specs.Clip.{ClipValue, placed_box, placed_clip, with_kept}
use Rattle.mapping.specs.Boxes.{common_box}

-- what keeps the order keeps the lesser and the greater
min_kept : (f : ℤ → ℤ) → ((v w : ℤ) → v ≤ℤ w → f v ≤ℤ f w) → (v w : ℤ) → int_min (f v) (f w) ≡ f (int_min v w)
min_kept f keeps v w = by_lt_z w v
    (λ b. let there : f w ≤ℤ f v = keeps w v (grind (arith, ints)) in let least : int_min v w ≡ w = grind (arith, ints) in rw least (grind (arith, ints)))
    (λ b. let there : f v ≤ℤ f w = keeps v w b in let least : int_min v w ≡ v = grind (arith, ints) in rw least (grind (arith, ints)))

max_kept : (f : ℤ → ℤ) → ((v w : ℤ) → v ≤ℤ w → f v ≤ℤ f w) → (v w : ℤ) → int_max (f v) (f w) ≡ f (int_max v w)
max_kept f keeps v w = by_lt_z w v
    (λ b. let there : f w ≤ℤ f v = keeps w v (grind (arith, ints)) in let most : int_max v w ≡ v = grind (arith, ints) in rw most (grind (arith, ints)))
    (λ b. let there : f v ≤ℤ f w = keeps v w b in let most : int_max v w ≡ w = grind (arith, ints) in rw most (grind (arith, ints)))

-- a box is kept, or none
kept_cases : (kept : Option Rect) → (kept ≡ None) ⊎ ((box : Rect) × (kept ≡ Some box))
kept_cases None = inl refl
kept_cases (Some box) = inr (box, refl)

module _ (laws : PlacingLaws) (s : Surface) (shows : ShowsFrame s) where
  columns : (v w : ℤ) → v ≤ℤ w → placed v s.width s.frame_width ≤ℤ placed w s.width s.frame_width
  columns v w h = laws.keeps_order s.width s.frame_width v w shows.wide h

  rows : (v w : ℤ) → v ≤ℤ w → placed v s.height s.frame_height ≤ℤ placed w s.height s.frame_height
  rows v w h = laws.keeps_order s.height s.frame_height v w shows.high h

  left : (v w : ℤ) → int_min (placed v s.width s.frame_width) (placed w s.width s.frame_width) ≡ placed (int_min v w) s.width s.frame_width
  left = min_kept (λ v. placed v s.width s.frame_width) columns

  right : (v w : ℤ) → int_max (placed v s.width s.frame_width) (placed w s.width s.frame_width) ≡ placed (int_max v w) s.width s.frame_width
  right = max_kept (λ v. placed v s.width s.frame_width) columns

  top : (v w : ℤ) → int_min (placed v s.height s.frame_height) (placed w s.height s.frame_height) ≡ placed (int_min v w) s.height s.frame_height
  top = min_kept (λ v. placed v s.height s.frame_height) rows

  bottom : (v w : ℤ) → int_max (placed v s.height s.frame_height) (placed w s.height s.frame_height) ≡ placed (int_max v w) s.height s.frame_height
  bottom = max_kept (λ v. placed v s.height s.frame_height) rows

  -- what placed boxes have in common
  placed_common : (first second : Rect) → common_box (placed_box s first) (placed_box s second) ≡ placed_box s (common_box first second)
  placed_common first second = rw (right first.l second.l, bottom first.t second.t, left first.r second.r, top first.b second.b) refl

  -- a placed clip that keeps a placed box
  pub placed_kept : (box : Rect) (clip : ClipValue) → with_kept (placed_box s box) (placed_clip s clip) ≡ placed_clip s (with_kept box clip)
  placed_kept box clip = elim (kept_cases clip.kept) [
    | inl none ↦ rw none refl
    | inr some ↦ rw (some.1, placed_common some.0 box) refl
  ]

  -- a clip whose boxes are where they land keeps a box that is where it lands
  pub keeps_placed : (old new : Clip) (box : ClipBox) → placed_value new ≡ with_kept box.placed (placed_value old) → clip_value new ≡ with_kept box.plane (clip_value old) → box.placed ≡ placed_box s box.plane → IsPlacedOn s old → IsPlacedOn s new
  keeps_placed old new box placed plane there h =
      placed ∙ ap (λ b. with_kept b (placed_value old)) there ∙ ap (with_kept (placed_box s box.plane)) h ∙ placed_kept box.plane (clip_value old) ∙ ap (placed_clip s) (sym plane)

-- a test of what is made of each
pub any_map : {A B : Type 0} (f : A → B) (p : B → Bool) (xs : List A) → list_any (λ x. p (f x)) xs ≡ list_any p (map f xs)
any_map f p [] = refl
any_map f p (x ∷ xs) = rw (any_map f p xs) refl
