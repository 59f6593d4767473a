-- Points that land, or don't, and how many of them one drawing may have.
use Rattle.std.proofs.Common.{◌≡◌, ℕ, ◌<◌, ◌≤◌, Bool, true, false, cond, ◌&&◌, List, [], ◌∷◌, length, Option, Some, None, arith, refl}
use Rattle.std.proofs.lemmas.Bool.{le-leb, lt-leb}
use Rattle.std.proofs.lemmas.List.{length-map}
use Rattle.std.specs.List.{list_all}
use Rattle.mapping.specs.Plane.{MapNumbers, is_on_plane}
use Rattle.mapping.specs.Surface.{Surface, fits_place, lands_within_limits, placed_point}
use Rattle.mapping.specs.declared.geometry.Point.{Point}
use Rattle.draw_ops.specs.declared.record_fault.RecordFault.{RecordFault}
use Rattle.draw_ops.specs.declared.record_fault.RecordFault.TheVariants.{OffPlane, TooManyEdges}
use Rattle.dc_stack.specs.Drawing.{edge_limit}
use Rattle.dc_stack.specs.Mapped.{mapped_list, mapped_point}
use Rattle.dc_stack.specs.OperationFault.{off_plane_fault, points_fault}

-- off the plane where a test fails
abbrev pub off_unless : Bool → Option RecordFault
off_unless test = cond test None (Some OffPlane)

passed : (test : Bool) → None ≡ off_unless test → test ≡ true
passed true e = refl
passed false e = cc

module _ (s : Surface) where
  -- all points of the plane land
  abbrev all_lands : List Point → Bool
  all_lands points = list_all (λ p. lands_within_limits p s) points

  -- where no point is off the plane, all land
  pub all_land : (points : List Point) → None ≡ off_plane_fault points s → all_lands points ≡ true
  all_land points h = passed (all_lands points) h

  -- the fault of a point and others, of which one may be off
  pub first_point_off : (p : Point) (points : List Point) (fault : RecordFault) → Some fault ≡ off_plane_fault (p ∷ []) s → Some fault ≡ off_plane_fault (p ∷ points) s
  first_point_off p points fault h = first_fails (lands_within_limits p s) h
    where
      first_fails : (a : Bool) → Some fault ≡ off_unless (a && true) → Some fault ≡ off_unless (a && all_lands points)
      first_fails true e = cc
      first_fails false e = e

  pub others_off : (p : Point) (points : List Point) (fault : Option RecordFault) → None ≡ off_plane_fault (p ∷ []) s → fault ≡ off_plane_fault points s → fault ≡ off_plane_fault (p ∷ points) s
  others_off p points fault here h = others_fail (lands_within_limits p s) here
    where
      others_fail : (a : Bool) → None ≡ off_unless (a && true) → fault ≡ off_unless (a && all_lands points)
      others_fail true e = h
      others_fail false e = cc

  -- a point that isn't one of the plane is off it, and so are others with it
  pub point_off : (p : Point) → is_on_plane p ≡ false → Some OffPlane ≡ off_plane_fault (p ∷ []) s
  point_off p off = by_test (is_on_plane p) (fits_place (placed_point p s)) off
    where
      by_test : (on fits : Bool) → on ≡ false → Some OffPlane ≡ off_unless ((on && fits) && true)
      by_test true fits h = cc
      by_test false fits h = refl

  pub later_off : (p : Point) (points : List Point) (fault : RecordFault) → Some fault ≡ off_plane_fault points s → Some fault ≡ off_plane_fault (p ∷ points) s
  later_off p points fault h = by_tests (lands_within_limits p s) (all_lands points) h
    where
      by_tests : (a b : Bool) → Some fault ≡ off_unless b → Some fault ≡ off_unless (a && b)
      by_tests true b e = e
      by_tests false true e = cc
      by_tests false false e = e

-- more points than one drawing may have, or no more
module _ (m : MapNumbers) (points : List Point) (s : Surface) (count : ℕ) (counted : count ≡ length points) where
  pub past_limit : 1048576 < count → Some TooManyEdges ≡ points_fault (mapped_list m points) s
  unfolding edge_limit
  past_limit h = rw (lt-leb (length (mapped_list m points)) 1048576 (omega (arith, length-map points (mapped_point m)))) refl

  pub within_limit : count ≤ 1048576 → off_plane_fault (mapped_list m points) s ≡ points_fault (mapped_list m points) s
  unfolding edge_limit
  within_limit h = rw (le-leb (length (mapped_list m points)) 1048576 (omega (arith, length-map points (mapped_point m)))) refl
