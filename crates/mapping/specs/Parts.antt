-- How many parts a unit of the frame has, if the plane is fine.
use Rattle.std.specs.Prelude.{◌≡◌, ◌⊎◌, ℕ, ◌^◌, ◌*◌, ◌≤◌, ℤ, ◌+ℤ◌, ◌-ℤ◌, ◌*ℤ◌, List, [], ◌∷◌, if◌then◌else◌, max, nat_le, unsigned_abs, ◌/◌}
use Rattle.mapping.specs.Floor.{floor_div}
use Rattle.mapping.specs.Limits.{IsFrameSide}
use Rattle.mapping.specs.Nibs.{scaled_width}
use Rattle.mapping.specs.PageMap.{axis_in_parts}
use Rattle.mapping.specs.Plane.{AxisNumbers, plane_coordinate}
use Rattle.mapping.specs.declared.geometry.Frame.{Frame}

-- the first of these numbers whose product with a side is at most 2^20, or 1 if there is none
abbrev pub first_fine : ℕ → List ℕ → ℕ
first_fine side [] = 1
first_fine side (parts ∷ fewer) = if nat_le (parts * side) (2 ^ 20) then parts else first_fine side fewer

-- the numbers of parts that a unit may have, the greatest first, apart from 1
abbrev pub part_counts : List ℕ
part_counts = 4096 ∷ 2048 ∷ 1024 ∷ 512 ∷ 256 ∷ 128 ∷ 64 ∷ 32 ∷ 16 ∷ 8 ∷ 4 ∷ 2 ∷ []

-- the greatest of 1, 2, 4, .. 4096 with which the longer side of a frame of this size has at most 2^20 parts, or 1 if
-- there is none
abbrev pub fine_parts : ℕ → ℕ → ℕ
fine_parts width height = first_fine (max width height) part_counts

-- On the fine plane a frame's sides are within the limits of frames, a unit has from 1 to 4,096 parts, and the longer
-- side has at most 2^20, unless a unit has one part. Where it has, plane coordinates and nibs are computed as without
-- parts. A pen has the same nib for any number of parts.
pub record PartLaws : Type 0 where
  pub some : (frame : Frame) → 1 ≤ fine_parts frame.width frame.height
  pub few : (frame : Frame) → fine_parts frame.width frame.height ≤ 4096
  pub wide : (frame : Frame) → IsFrameSide (frame.width * fine_parts frame.width frame.height)
  pub high : (frame : Frame) → IsFrameSide (frame.height * fine_parts frame.width frame.height)
  pub short : (frame : Frame) → (fine_parts frame.width frame.height ≡ 1) ⊎ (fine_parts frame.width frame.height * max frame.width frame.height ≤ 2 ^ 20)
  pub one_part :
      (n : AxisNumbers) (v : ℤ) → n.parts ≡ 1
      → plane_coordinate n v ≡ floor_div ((v -ℤ n.window_origin) *ℤ n.viewport_extent) n.window_extent +ℤ n.viewport_origin -ℤ n.corner
  pub one_part_nib :
      (width : ℕ) (n : AxisNumbers) (surface_side frame_side : ℕ) → n.parts ≡ 1
      → scaled_width width n surface_side frame_side
      ≡ width * unsigned_abs n.viewport_extent * surface_side / (unsigned_abs n.window_extent * frame_side)
  pub same_nib :
      (width parts : ℕ) (n : AxisNumbers) (surface_side frame_side : ℕ) → n.parts ≡ 1 → 1 ≤ parts
      → scaled_width width (axis_in_parts parts n) surface_side (frame_side * parts) ≡ scaled_width width n surface_side frame_side
