-- The limits on plane coordinates, placed coordinates and sizes, as facts and as tests.
use Rattle.std.specs.Prelude.{◌≡◌, ℕ, ◌^◌, ◌≤◌, ℤ, pos, neg_ℤ, ◌≤ℤ◌, Bool, true, ◌&&◌, int_le, nat_le}
use Rattle.std.proofs.lemmas.Bool.{and_from, and_parts, le-leb, leb-true}
use Rattle.mapping.specs.TestLaws.{int_le-from, int_le-true}

-- the greatest distance of a plane coordinate from 0
unfoldable pub plane_limit : ℕ
plane_limit = 2 ^ 30

-- the greatest distance of a placed coordinate from 0
unfoldable pub place_limit : ℕ
place_limit = 2 ^ 28

-- the greatest width or height of a surface, in pixels
abbrev pub surface_side_limit : ℕ
surface_side_limit = 8192

-- the greatest width or height of a frame, in plane units
abbrev pub frame_side_limit : ℕ
frame_side_limit = 2 ^ 28

-- the number is at most this far from 0
pub record IsWithin (limit : ℕ) (v : ℤ) : Type 0 where
  pub low : neg_ℤ (pos limit) ≤ℤ v
  pub high : v ≤ℤ pos limit

-- whether the number is at most this far from 0
abbrev pub is_within : ℕ → ℤ → Bool
is_within limit v = int_le (neg_ℤ (pos limit)) v && int_le v (pos limit)

pub within_true : (limit : ℕ) (v : ℤ) → is_within limit v ≡ true → IsWithin limit v
within_true limit v test =
    let parts = and_parts (int_le (neg_ℤ (pos limit)) v) (int_le v (pos limit)) test in
    record { low = int_le-true _ _ parts.0; high = int_le-true _ _ parts.1 }

pub within_from : (limit : ℕ) (v : ℤ) → IsWithin limit v → is_within limit v ≡ true
within_from limit v h = and_from (int_le (neg_ℤ (pos limit)) v) (int_le v (pos limit)) (int_le-from _ _ h.low) (int_le-from _ _ h.high)

-- a surface may have this width or height
pub record IsSurfaceSide (side : ℕ) : Type 0 where
  pub not_empty : 1 ≤ side
  pub within : side ≤ surface_side_limit

-- whether a surface may have this width or height
abbrev pub is_surface_side : ℕ → Bool
is_surface_side side = nat_le 1 side && nat_le side surface_side_limit

pub surface_side_true : (side : ℕ) → is_surface_side side ≡ true → IsSurfaceSide side
surface_side_true side test =
    let parts = and_parts (nat_le 1 side) (nat_le side surface_side_limit) test in
    record { not_empty = leb-true _ _ parts.0; within = leb-true _ _ parts.1 }

pub surface_side_from : (side : ℕ) → IsSurfaceSide side → is_surface_side side ≡ true
surface_side_from side h = and_from (nat_le 1 side) (nat_le side surface_side_limit) (le-leb _ _ h.not_empty) (le-leb _ _ h.within)

-- a frame may have this width or height
pub record IsFrameSide (side : ℕ) : Type 0 where
  pub not_empty : 1 ≤ side
  pub within : side ≤ frame_side_limit

-- whether a frame may have this width or height
abbrev pub is_frame_side : ℕ → Bool
is_frame_side side = nat_le 1 side && nat_le side frame_side_limit

pub frame_side_true : (side : ℕ) → is_frame_side side ≡ true → IsFrameSide side
frame_side_true side test =
    let parts = and_parts (nat_le 1 side) (nat_le side frame_side_limit) test in
    record { not_empty = leb-true _ _ parts.0; within = leb-true _ _ parts.1 }

pub frame_side_from : (side : ℕ) → IsFrameSide side → is_frame_side side ≡ true
frame_side_from side h = and_from (nat_le 1 side) (nat_le side frame_side_limit) (le-leb _ _ h.not_empty) (le-leb _ _ h.within)
