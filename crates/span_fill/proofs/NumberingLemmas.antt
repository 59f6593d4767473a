-- Numbers of pixels along a line.
use Rattle.std.proofs.Common.{◌≡◌, ◌^◌, Bool, true, false, ℤ, pos, negsuc, neg_ℤ, ◌+ℤ◌, ◌-ℤ◌, ◌*ℤ◌, ◌≤ℤ◌, ◌<ℤ◌, if◌then◌else◌, arith, ap, sym, ◌∙◌}
use Rattle.std.proofs.lemmas.Int.{ints}
use Rattle.mapping.specs.Limits.{IsWithin}
use Rattle.span_fill.specs.Axis.{ahead}
use Rattle.span_fill.specs.MajorLines.{pixel_column, pixel_row}
use Rattle.span_fill.specs.Numberings.{IsNumbered, major_weight, minor_weight, number_of}
use Rattle.span_fill.specs.declared.fixed_walk.FixedWalk.{FixedWalk}
use Rattle.span_fill.specs.declared.grid.Grid.{Grid}
use Rattle.span_fill.specs.declared.numbering.Numbering.{Numbering}
use Rattle.span_fill.proofs.FixedWalkLemmas.{Advances}
use Rattle.mapping.proofs.Products.{add_mul, mul_one, order_mul}

-- a row so many rows further on
row_moved : (y f d s : ℤ) → (y +ℤ d -ℤ f) *ℤ s ≡ (y -ℤ f) *ℤ s +ℤ d *ℤ s
row_moved y f d s =
    let apart : y +ℤ d -ℤ f ≡ (y -ℤ f) +ℤ d = omega (arith, ints) in
    ap (λ n. n *ℤ s) apart ∙ add_mul (y -ℤ f) d s

-- the number of the pixel at coordinates on the axes
abbrev number_at : Grid → Bool → ℤ → ℤ → ℤ
number_at grid y_major u v = number_of grid (pixel_column y_major u v) (pixel_row y_major u v)

-- a pixel's number is that of the one with 0 on the minor axis, and what its coordinate there adds
pub number_across : (grid : Grid) (y_major : Bool) (u v : ℤ) → number_at grid y_major u v ≡ number_at grid y_major u (pos 0) +ℤ v *ℤ minor_weight grid y_major
number_across grid true u v = omega (arith, ints, mul_one v)
number_across grid false u v =
    let none : v ≡ pos 0 +ℤ v = omega (arith, ints) in
    let e = ap (λ (n : ℤ). (n -ℤ pos grid.first) *ℤ pos grid.stride) none ∙ row_moved (pos 0) (pos grid.first) v (pos grid.stride) in
    omega (arith, ints, e)

-- a step ahead on the major axis
stepped : (grid : Grid) (y_major forwards : Bool) (u : ℤ) →
    number_at grid y_major (ahead forwards u 1) (pos 0)
    ≡ number_at grid y_major u (pos 0) +ℤ (if forwards then major_weight grid y_major else neg_ℤ (major_weight grid y_major))
stepped grid true true u = let e = row_moved u (pos grid.first) (pos 1) (pos grid.stride) in omega (arith, ints, e)
stepped grid true false u =
    let back : u -ℤ pos 1 ≡ u +ℤ negsuc 0 = omega (arith, ints) in
    let e = ap (λ n. (n -ℤ pos grid.first) *ℤ pos grid.stride) back ∙ row_moved u (pos grid.first) (negsuc 0) (pos grid.stride) in omega (arith, ints, e)
stepped grid false true u = omega (arith, ints)
stepped grid false false u = omega (arith, ints)

-- the numbers of a position after a step
pub renumbered : (grid : Grid) (y_major : Bool) (old new : FixedWalk) (was now : Numbering) → IsNumbered grid y_major old was → Advances old new → now.number ≡ was.number +ℤ was.along → now.along ≡ was.along → now.across ≡ was.across → IsNumbered grid y_major new now
renumbered grid y_major old new was now there next number along across = record {
  number =
      let at = there.number in let more = there.along in let e = stepped grid y_major old.forwards old.u in
      let here : now.number ≡ number_at grid y_major (ahead old.forwards old.u 1) (pos 0) = omega (arith, ints, number, at, more, e) in
      here ∙ ap (λ (u : ℤ). number_at grid y_major u (pos 0)) (sym next.u);
  along = along ∙ there.along ∙ ap (λ (b : Bool). if b then major_weight grid y_major else neg_ℤ (major_weight grid y_major)) (sym next.forwards);
  across = across ∙ there.across;
}

-- the numbers on a surface are small
module _ (grid : Grid) where
  row_near : (y : ℤ) → pos 0 ≤ℤ y → y <ℤ pos 8192 → IsWithin (2 ^ 30) ((y -ℤ pos grid.first) *ℤ pos grid.stride)
  row_near y low high =
      let narrow = grid.narrow in
      let first = grid.low in
      let stride : pos 0 ≤ℤ pos grid.stride = omega (arith, ints) in
      let most = order_mul (y -ℤ pos grid.first) (pos 8192) (pos grid.stride) stride (omega (arith, ints, high)) in
      let least = order_mul (negsuc 8191) (y -ℤ pos grid.first) (pos grid.stride) stride (omega (arith, ints, low, first)) in
      record { low = omega (arith, ints, least, narrow); high = omega (arith, ints, most, narrow) }

  number_near : (y_major : Bool) (u v : ℤ) → pos 0 ≤ℤ u → u <ℤ pos 8192 → pos 0 ≤ℤ v → v <ℤ pos 8192 → IsWithin (2 ^ 60) (number_at grid y_major u v)
  number_near true u v ul uh vl vh = let row = row_near u ul uh in record { low = omega (arith, ints, row.low, vl); high = omega (arith, ints, row.high, vh) }
  number_near false u v ul uh vl vh = let row = row_near v vl vh in record { low = omega (arith, ints, row.low, ul); high = omega (arith, ints, row.high, uh) }

  weight_near : (y_major : Bool) → IsWithin (2 ^ 16) (minor_weight grid y_major) × IsWithin (2 ^ 16) (major_weight grid y_major)
  weight_near true = let narrow = grid.narrow in (record { low = omega (arith, ints); high = omega (arith, ints) }, record { low = omega (arith, ints); high = omega (arith, ints, narrow) })
  weight_near false = let narrow = grid.narrow in (record { low = omega (arith, ints); high = omega (arith, ints, narrow) }, record { low = omega (arith, ints); high = omega (arith, ints) })

  -- a step's numbers fit
  pub record AreNear (numbering : Numbering) : Type 0 where
    pub number : IsWithin (2 ^ 61) numbering.number
    pub along : IsWithin (2 ^ 61) numbering.along
    pub across : IsWithin (2 ^ 30) numbering.across

-- a weight in its direction
directed_near : (forwards : Bool) (m : ℤ) → IsWithin (2 ^ 16) m → IsWithin (2 ^ 16) (if forwards then m else neg_ℤ m)
directed_near true m near = near
directed_near false m near = record { low = omega (arith, ints, near.high); high = omega (arith, ints, near.low) }

pub near_numbers : (grid : Grid) (y_major : Bool) (position : FixedWalk) (numbering : Numbering) → IsNumbered grid y_major position numbering → pos 0 ≤ℤ position.u → position.u <ℤ pos 8192 → AreNear grid numbering
near_numbers grid y_major position numbering there low high =
    let number = number_near grid y_major position.u (pos 0) low high (omega (arith, ints)) (omega (arith, ints)) in
    let weights = weight_near grid y_major in
    let ahead = directed_near position.forwards (major_weight grid y_major) weights.1 in
    record {
      number = record { low = omega (arith, ints, there.number, number.low); high = omega (arith, ints, there.number, number.high) };
      along = record { low = omega (arith, ints, there.along, ahead.low); high = omega (arith, ints, there.along, ahead.high) };
      across = record { low = omega (arith, ints, there.across, weights.0.low); high = omega (arith, ints, there.across, weights.0.high) };
    }
