-- The largest sides in a frame's proportion.
use Rattle.std.specs.Prelude.{ℕ, ◌*◌, Bool, nat_le, max, if◌then◌else◌}
use Rattle.proportions.specs.Rounding.{nearest}

-- with this width, a surface in the frame's proportion isn't higher than this height
abbrev pub is_wide : ℕ → ℕ → ℕ → ℕ → Bool
is_wide frame_width frame_height width height = nat_le (width * frame_height) (height * frame_width)

-- the side of a surface that goes with this one, by the sides of the frame that they go with; it is at least 1
abbrev pub scaled_side : ℕ → ℕ → ℕ → ℕ
scaled_side side of_side of_result = max (nearest (side * of_result) of_side) 1

-- The width and the height of the largest surface in a frame's proportion, within a width and a height.
abbrev pub fitted_width : ℕ → ℕ → ℕ → ℕ → ℕ
fitted_width frame_width frame_height width height =
    if is_wide frame_width frame_height width height then width else scaled_side height frame_height frame_width

abbrev pub fitted_height : ℕ → ℕ → ℕ → ℕ → ℕ
fitted_height frame_width frame_height width height =
    if is_wide frame_width frame_height width height then scaled_side width frame_width frame_height else height
