-- How many pixels of a surface's side a pen covers.
use Rattle.std.proofs.Common.{◌≡◌, ◌≢◌, ℕ, zero, suc, ◌*◌, ◌/◌, ◌≤◌, ℤ, pos, negsuc, refl, ap, ◌∙◌, sym, arith}
use Rattle.std.specs.Prelude.{max, unsigned_abs}
use Rattle.std.proofs.Math.Nat.{mul_comm, mul_assoc, mul-le-mul_left, zero-div, div-zero, div-mul-le_self, mul-div-mul_left}
use Rattle.std.proofs.lemmas.Nat.{le-div}
use Rattle.mapping.specs.Nibs.{NibLaws, nib_side, scaled_width}
use Rattle.mapping.specs.Plane.{AxisNumbers}

-- a quotient doesn't fall as its dividend grows
quotient_grows : (m n d : ℕ) → m ≤ n → m / d ≤ n / d
quotient_grows m n zero h = omega (arith, div-zero m, div-zero n)
quotient_grows m n (suc d) h = le-div (m / suc d) n (suc d) (omega arith) (omega (arith, div-mul-le_self m (suc d), h))

side_grows :
    (width : ℕ) (axis : AxisNumbers) (shorter longer frame_side : ℕ) → shorter ≤ longer
    → nib_side width axis shorter frame_side ≤ nib_side width axis longer frame_side
side_grows width axis shorter longer frame_side h =
    let length = width * unsigned_abs axis.viewport_extent in
    let whole = unsigned_abs axis.window_extent * frame_side in
    let more = quotient_grows (length * (axis.parts * shorter)) (length * (axis.parts * longer)) whole (mul-le-mul_left length (mul-le-mul_left axis.parts h)) in omega (arith, more)

nothing_scaled : (viewport surface_side whole : ℕ) → 0 * viewport * surface_side / whole ≡ 0
nothing_scaled viewport surface_side whole = ap (λ (n : ℕ). n / whole) (omega arith) ∙ zero-div whole

one_without_width : (axis : AxisNumbers) (surface_side frame_side : ℕ) → nib_side 0 axis surface_side frame_side ≡ 1
one_without_width axis surface_side frame_side =
    let e = nothing_scaled (unsigned_abs axis.viewport_extent) (axis.parts * surface_side) (unsigned_abs axis.window_extent * frame_side) in omega (arith, e)

pub nib_laws : NibLaws
nib_laws = record {
  grows = λ width map smaller larger shows no_larger.
      rw (no_larger.frame_width, no_larger.frame_height)
      record {
        x = side_grows width map.x smaller.width larger.width larger.frame_width no_larger.width;
        y = side_grows width map.y smaller.height larger.height larger.frame_height no_larger.height;
      };
  one_without_width = λ map s. rw (one_without_width map.x s.width s.frame_width, one_without_width map.y s.height s.frame_height) refl;
}

-- an axis whose extents have the same length scales nothing
same_extents : (width extent surface_side frame_side : ℕ) → 1 ≤ extent → width * extent * surface_side / (extent * frame_side) ≡ width * surface_side / frame_side
same_extents width extent surface_side frame_side some =
    ap (λ (n : ℕ). n / (extent * frame_side)) (ap (λ (n : ℕ). n * surface_side) (mul_comm width extent) ∙ mul_assoc extent width surface_side)
    ∙ mul-div-mul_left (width * surface_side) frame_side some

-- the absolute value of a number that isn't 0 is at least 1
some_from_zero : (v : ℤ) → v ≢ pos 0 → 1 ≤ unsigned_abs v
some_from_zero (pos zero) h = absurd (h refl)
some_from_zero (pos (suc n)) h = omega arith
some_from_zero (negsuc n) h = omega arith

unscaled :
    (width surface_side frame_side : ℕ) (axis : AxisNumbers) → unsigned_abs axis.viewport_extent ≡ unsigned_abs axis.window_extent
    → axis.window_extent ≢ pos 0 → width * (axis.parts * surface_side) / frame_side ≡ scaled_width width axis surface_side frame_side
unscaled width surface_side frame_side axis e h =
    rw e (sym (same_extents width (unsigned_abs axis.window_extent) (axis.parts * surface_side) frame_side (some_from_zero axis.window_extent h)))

pub unscaled_side :
    (part width surface_side frame_side : ℕ) (axis : AxisNumbers) → part ≡ width * (axis.parts * surface_side)
    → unsigned_abs axis.viewport_extent ≡ unsigned_abs axis.window_extent → axis.window_extent ≢ pos 0
    → max 1 (part / frame_side) ≡ nib_side width axis surface_side frame_side
unscaled_side part width surface_side frame_side axis is e h =
    ap (λ (n : ℕ). max 1 n) (ap (λ (n : ℕ). n / frame_side) is ∙ unscaled width surface_side frame_side axis e h)
