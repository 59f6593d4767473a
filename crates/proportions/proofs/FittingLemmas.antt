-- The largest sides in a frame's proportion are within those that are given.
use Rattle.std.proofs.Common.{◌≡◌, ◌+◌, ◌*◌, ◌/◌, ◌≤◌, ◌<◌, ◌⊎◌, inl, inr, ℕ, Bool, true, false, cond, refl, sym, arith, max}
use Rattle.std.specs.Prelude.{nat_le}
use Rattle.std.proofs.lemmas.Bool.{leb-true, leb-false}
use Rattle.std.proofs.lemmas.Nat.{div_below}
use Rattle.mapping.specs.Limits.{IsFrameSide}
use Rattle.proportions.specs.Fitting.{fitted_height, fitted_width, is_wide, scaled_side}
use Rattle.proportions.specs.FittingLaws.{FittingLaw, IsFitted}
use Rattle.proportions.specs.Rounding.{nearest}

-- a quotient that is at most a whole number isn't rounded above it
pub nearest_most : (dividend divisor most : ℕ) → 1 ≤ divisor → dividend ≤ most * divisor → nearest dividend divisor ≤ most
nearest_most dividend divisor most some within =
    let twice : (most + 1) * (2 * divisor) ≡ 2 * (most * divisor) + 2 * divisor = grind arith in
    let below = div_below (2 * dividend + divisor) (2 * divisor) (most + 1) (omega (arith, some)) (rw twice (omega (arith, some, within))) in
    omega (arith, below)

-- the side that goes with a width or a height, where it is at most what is given
pub scaled_most : (side of_side of_result most : ℕ) → 1 ≤ of_side → 1 ≤ most → side * of_result ≤ most * of_side → scaled_side side of_side of_result ≤ most
scaled_most side of_side of_result most some not_0 within =
    let e = nearest_most (side * of_result) of_side most some within in
    omega (arith, e, not_0)

scaled_some : (side of_side of_result : ℕ) → 1 ≤ scaled_side side of_side of_result
scaled_some side of_side of_result = omega arith

-- the sides fit
pub fits : FittingLaw
fits frame_width frame_height width height wide high some_width some_height = go (is_wide frame_width frame_height width height) refl
  where
    go : (by_width : Bool) → is_wide frame_width frame_height width height ≡ by_width → IsFitted frame_width frame_height width height
    go true is =
        let within : width * frame_height ≤ height * frame_width = leb-true _ _ is in
        record {
          some_width = rw is some_width;
          some_height = rw is (scaled_some width frame_width frame_height);
          no_wider = rw is (omega arith);
          no_higher = rw is (scaled_most width frame_width frame_height height wide.not_empty some_height within);
          largest = inl (rw is refl);
        }
    go false is =
        let less : height * frame_width < width * frame_height = leb-false _ _ is in
        record {
          some_width = rw is (scaled_some height frame_height frame_width);
          some_height = rw is some_height;
          no_wider = rw is (scaled_most height frame_height frame_width width high.not_empty some_width (omega (arith, less)));
          no_higher = rw is (omega arith);
          largest = inr (rw is refl);
        }
