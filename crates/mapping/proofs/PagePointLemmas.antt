-- A point of the plane, by the coordinates on both axes.
use Rattle.std.proofs.Common.{◌≡◌, ℕ, ℤ, Bool, true, false, ◌&&◌, ◌∙◌, FitsSigned, to_z, of_z, ap, refl, sym}
use Rattle.std.specs.Int.{w32, w64}
use Rattle.std.proofs.lemmas.Int.{to_z-of_z}
use Rattle.mapping.specs.PageMap.{axis_coordinate, axis_numbers, fine_coordinate}
use Rattle.mapping.specs.Plane.{plane_coordinate}
use Rattle.mapping.specs.declared.fine_axis.FineAxis.{FineAxis}
use Rattle.mapping.specs.declared.geometry.Point.{Point}
use Rattle.mapping.specs.declared.page_axis.PageAxis.{PageAxis}

-- a number in its 32 bits, and in its 64
pub in_bits : (z : ℤ) → FitsSigned w32 z → to_z w32 (of_z w32 z) ≡ z
in_bits z fits = simp to_z-of_z

pub wide_bits : (z : ℤ) → FitsSigned w64 z → to_z w64 (of_z w64 z) ≡ z
wide_bits z fits = simp to_z-of_z

-- a point by its coordinates
abbrev pub point_of : ℤ → ℤ → Point
point_of x y = record { x = x; y = y }

pub same_point : (a b x y : ℤ) → a ≡ x → b ≡ y → point_of a b ≡ point_of x y
same_point a b x y e f = ap (λ n. point_of n b) e ∙ ap (point_of x) f

-- both tests hold, or the first or the second fails
pub both : (a b : Bool) → true ≡ a → true ≡ b → true ≡ (a && b)
both true b e f = f
both false b e f = e

pub first_fails : (a b : Bool) → false ≡ a → false ≡ (a && b)
first_fails true b e = absurd (cc e)
first_fails false b e = refl

pub second_fails : (a b : Bool) → false ≡ b → false ≡ (a && b)
second_fails true b e = e
second_fails false b e = refl

-- a coordinate where a unit is one part, and where it may have several
pub in_units : (axis : PageAxis) (parts : ℕ) (v w : ℤ) → parts ≡ 1 → v ≡ w → axis_coordinate axis v ≡ plane_coordinate (axis_numbers parts axis) w
in_units axis parts v w one same = ap (axis_coordinate axis) same ∙ ap (λ (p : ℕ). plane_coordinate (axis_numbers p axis) w) (sym one)

pub in_parts : (fine : FineAxis) (axis : PageAxis) (parts : ℕ) (v w : ℤ) → fine.axis ≡ axis → fine.parts ≡ parts → v ≡ w → fine_coordinate fine v ≡ plane_coordinate (axis_numbers parts axis) w
in_parts fine axis parts v w e f same =
    ap (fine_coordinate fine) same ∙ ap (λ (a : PageAxis). plane_coordinate (axis_numbers fine.parts a) w) e
    ∙ ap (λ (p : ℕ). plane_coordinate (axis_numbers p axis) w) f
