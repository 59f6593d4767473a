use Rattle.std.proofs.Common.{◌≡◌, ◌+ℤ◌, pos, w32, to_z, of_z, arith, refl}
use Rattle.std.proofs.lemmas.Int.{ints}
use Rattle.mapping.specs.Limits.{place_limit}
use Rattle.painting.proofs.rectangles.rectangle_box.Goals as goal

pub overflow_add-result : goal.overflow_add-result
unfolding place_limit
overflow_add-result c = let high = c.between-inside.ensures.right.high in let low = c.between-inside.ensures.right.low in omega (arith, ints, low, high)

pub overflow_add-result-in-Inclusive : goal.overflow_add-result-in-Inclusive
unfolding place_limit
overflow_add-result-in-Inclusive c = let high = c.between-inside.ensures.bottom.high in let low = c.between-inside.ensures.bottom.low in omega (arith, ints, low, high)

pub returns-in-Inclusive-clause-value : goal.returns-in-Inclusive-clause-value
unfolding place_limit
returns-in-Inclusive-clause-value c =
    let inside = c.between-inside.result in
    let right = c.between-inside.ensures.right.high in
    let bottom = c.between-inside.ensures.bottom.high in
    let l : to_z w32 (of_z w32 inside.l) ≡ inside.l = omega (arith, ints) in
    let t : to_z w32 (of_z w32 inside.t) ≡ inside.t = omega (arith, ints) in
    let r : to_z w32 (of_z w32 (to_z w32 (of_z w32 inside.r) +ℤ pos 1)) ≡ inside.r +ℤ pos 1 = omega (arith, ints, right) in
    let b : to_z w32 (of_z w32 (to_z w32 (of_z w32 inside.b) +ℤ pos 1)) ≡ inside.b +ℤ pos 1 = omega (arith, ints, bottom) in
    rw (l, t, r, b, c.in-Inclusive.is, c.between-inside.ensures.value) refl

pub returns-in-Inclusive-clause-near : goal.returns-in-Inclusive-clause-near
unfolding place_limit
returns-in-Inclusive-clause-near c =
    let inside = c.between-inside.result in
    let within = c.between-inside.ensures in
    let left_low = within.left.low in
    let left_high = within.left.high in
    let top_low = within.top.low in
    let top_high = within.top.high in
    let right_low = within.right.low in
    let right_high = within.right.high in
    let bottom_low = within.bottom.low in
    let bottom_high = within.bottom.high in
    let l : to_z w32 (of_z w32 inside.l) ≡ inside.l = omega (arith, ints) in
    let t : to_z w32 (of_z w32 inside.t) ≡ inside.t = omega (arith, ints) in
    let r : to_z w32 (of_z w32 (to_z w32 (of_z w32 inside.r) +ℤ pos 1)) ≡ inside.r +ℤ pos 1 = omega (arith, ints, right_high) in
    let b : to_z w32 (of_z w32 (to_z w32 (of_z w32 inside.b) +ℤ pos 1)) ≡ inside.b +ℤ pos 1 = omega (arith, ints, bottom_high) in
    rw (l, t, r, b) (record {
      left = record { low = omega (arith, ints, left_low); high = omega (arith, ints, left_high) };
      top = record { low = omega (arith, ints, top_low); high = omega (arith, ints, top_high) };
      right = record { low = omega (arith, ints, right_low); high = omega (arith, ints, right_high) };
      bottom = record { low = omega (arith, ints, bottom_low); high = omega (arith, ints, bottom_high) };
    })
