-- What holds for the largest sides in a frame's proportion.
use Rattle.std.specs.Prelude.{◌≡◌, ◌≤◌, ◌⊎◌, ℕ}
use Rattle.mapping.specs.Limits.{IsFrameSide}
use Rattle.proportions.specs.Fitting.{fitted_height, fitted_width}

-- each side is at least 1 and at most what is given, and one of them is what is given
pub record IsFitted (frame_width frame_height width height : ℕ) : Type 0 where
  pub some_width : 1 ≤ fitted_width frame_width frame_height width height
  pub some_height : 1 ≤ fitted_height frame_width frame_height width height
  pub no_wider : fitted_width frame_width frame_height width height ≤ width
  pub no_higher : fitted_height frame_width frame_height width height ≤ height
  pub largest : (fitted_width frame_width frame_height width height ≡ width) ⊎ (fitted_height frame_width frame_height width height ≡ height)

-- the sides fit, for each frame and each size of at least 1
abbrev pub FittingLaw : Type 0
FittingLaw =
    (frame_width frame_height width height : ℕ) → IsFrameSide frame_width → IsFrameSide frame_height → 1 ≤ width → 1 ≤ height
    → IsFitted frame_width frame_height width height
