-- What lies between two coordinates lies between their images, by a page map and by a place.
use Rattle.std.proofs.Common.{◌≢◌, ℕ, zero, suc, ℤ, pos, negsuc, neg_ℤ, ◌+ℤ◌, ◌-ℤ◌, ◌*ℤ◌, ◌≤ℤ◌, arith, inl, inr, refl}
use Rattle.std.proofs.lemmas.Int.{ints}
use Rattle.mapping.specs.Boxes.{KeepsBetween}
use Rattle.mapping.specs.Floor.{floor_div}
use Rattle.mapping.specs.Limits.{IsFrameSide}
use Rattle.mapping.specs.Plane.{AxisNumbers, plane_coordinate}
use Rattle.mapping.specs.Surface.{placed}
use Rattle.mapping.proofs.PlacingLemmas.{quotients, times_count}

-- what keeps the order keeps what lies between, and so does what turns it
keeps_order : (f : ℤ → ℤ) → ((v w : ℤ) → v ≤ℤ w → f v ≤ℤ f w) → KeepsBetween f
keeps_order f order from v to between = elim between [
  | inl h ↦ inl (order from v h.0, order v to h.1)
  | inr h ↦ inr (order to v h.0, order v from h.1)
]

turns_order : (f : ℤ → ℤ) → ((v w : ℤ) → v ≤ℤ w → f w ≤ℤ f v) → KeepsBetween f
turns_order f order from v to between = elim between [
  | inl h ↦ inr (order v to h.1, order from v h.0)
  | inr h ↦ inl (order v from h.1, order to v h.0)
]

-- one after the other
both : (f g : ℤ → ℤ) → KeepsBetween f → KeepsBetween g → KeepsBetween (λ v. g (f v))
both f g first second from v to between = second (f from) (f v) (f to) (first from v to between)

-- a sum with a number
shifted : (c : ℤ) → KeepsBetween (λ v. v -ℤ c)
shifted c = keeps_order (λ v. v -ℤ c) (λ v w h. omega (arith, ints, h))

moved : (c : ℤ) → KeepsBetween (λ v. v +ℤ c)
moved c = keeps_order (λ v. v +ℤ c) (λ v w h. omega (arith, ints, h))

-- a product with a number
times_below : (v w : ℤ) (n : ℕ) → v ≤ℤ w → (w *ℤ negsuc n) ≤ℤ (v *ℤ negsuc n)
times_below v w n h = let le = times_count v w (suc n) h in omega (arith, ints, le)

scaled : (k : ℤ) → KeepsBetween (λ v. v *ℤ k)
scaled (pos n) = keeps_order (λ v. v *ℤ pos n) (λ v w h. times_count v w n h)
scaled (negsuc n) = turns_order (λ v. v *ℤ negsuc n) (λ v w h. times_below v w n h)

-- a floor
negated : (a b : ℤ) → a ≤ℤ b → neg_ℤ b ≤ℤ neg_ℤ a
negated a b h = omega (arith, ints, h)

floored : (d : ℤ) → d ≢ pos 0 → KeepsBetween (λ a. floor_div a d)
floored (pos zero) ne = absurd (ne refl)
floored (pos (suc n)) ne = keeps_order (λ a. floor_div a (pos (suc n))) (λ a b h. quotients a b (suc n) (omega arith) h)
floored (negsuc n) ne = turns_order (λ a. floor_div a (negsuc n)) (λ a b h. quotients (neg_ℤ b) (neg_ℤ a) (suc n) (omega arith) (negated a b h))

-- a page map
pub map_keeps_between : (n : AxisNumbers) → n.window_extent ≢ pos 0 → KeepsBetween (plane_coordinate n)
map_keeps_between n ne from v to between =
    let scaled_there = scaled n.viewport_extent _ _ _ (scaled (pos n.parts) _ _ _ (shifted n.window_origin from v to between)) in
    moved ((n.viewport_origin -ℤ n.corner) *ℤ pos n.parts) _ _ _ (floored n.window_extent ne _ _ _ scaled_there)

-- a place
pub place_keeps_between : (side frame_side : ℕ) → IsFrameSide frame_side → KeepsBetween (λ v. placed v side frame_side)
place_keeps_between side frame_side allowed from v to between =
    keeps_order (λ a. floor_div a (pos frame_side)) (λ a b h. quotients a b frame_side allowed.not_empty h) _ _ _ (scaled (pos side) from v to between)
