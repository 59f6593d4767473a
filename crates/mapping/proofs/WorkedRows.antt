-- The definitions on worked numbers.
use Rattle.std.proofs.Common.{◌≡◌, ◌^◌, ◌-◌, ℤ, pos, negsuc, neg_ℤ, true, false, refl}
use Rattle.mapping.specs.declared.geometry.Point.{Point}
use Rattle.mapping.specs.declared.map_mode.MapMode.{MapMode}
use Rattle.mapping.specs.declared.map_mode.MapMode.TheVariants.{Text, Isotropic, Anisotropic}
use Rattle.mapping.specs.Cells.{cells}
use Rattle.mapping.specs.MapSettings.{is_page_point, offset_by, sets_zero_extent, with_mode, with_offset_viewport_origin, with_offset_window_origin, with_viewport_extent, with_viewport_origin, with_window_extent, with_window_origin}
use Rattle.mapping.specs.PageMap.{unscaled_map}
use Rattle.mapping.specs.Plane.{AxisNumbers, MapNumbers, plane_coordinate, plane_point}
use Rattle.mapping.specs.Surface.{placed}

-- three units of the page are ten of the plane, and turned from an origin at 3
abbrev upright : AxisNumbers
upright = record { parts = 1; window_origin = pos 0; window_extent = pos 3; viewport_origin = pos 0; viewport_extent = pos 10; corner = pos 0 }

abbrev negated : AxisNumbers
negated = record { parts = 1; window_origin = pos 3; window_extent = negsuc 2; viewport_origin = pos 0; viewport_extent = pos 10; corner = pos 0 }

upright_at_2 : plane_coordinate upright (pos 2) ≡ pos 6
upright_at_2 = refl

upright_before_0 : plane_coordinate upright (negsuc 0) ≡ negsuc 3
upright_before_0 = refl

negated_at_3 : plane_coordinate negated (pos 3) ≡ pos 0
negated_at_3 = refl

negated_at_1 : plane_coordinate negated (pos 1) ≡ pos 6
negated_at_1 = refl

negated_at_0 : plane_coordinate negated (pos 0) ≡ pos 10
negated_at_0 = refl

-- a surface of half the frame's size, rounded down on both sides of 0
half_of_3 : placed (pos 3) 2 4 ≡ pos 1
half_of_3 = refl

half_before_0 : placed (negsuc 0) 2 4 ≡ negsuc 0
half_before_0 = refl

-- a point, and a map whose origins and corners are 0 and whose extents are 1, in a mode
abbrev at : ℤ → ℤ → Point
at x y = record { x = x; y = y }

abbrev fresh : MapMode → MapNumbers
fresh mode = with_mode mode (unscaled_map (at (pos 0) (pos 0)))

-- extents of 3 and 10 on x, and on y the window turned from an origin at 3
abbrev scaled : MapNumbers
scaled = with_viewport_extent (at (pos 10) (pos 10)) (with_window_extent (at (pos 3) (negsuc 2)) (with_window_origin (at (pos 0) (pos 3)) (fresh Anisotropic)))

scaled_x : scaled.x ≡ upright
scaled_x = refl

scaled_y : scaled.y ≡ negated
scaled_y = refl

scaled_at_2_3 : plane_point scaled (pos 2) (pos 3) ≡ at (pos 6) (pos 0)
scaled_at_2_3 = refl

scaled_before_0_at_1 : plane_point scaled (negsuc 0) (pos 1) ≡ at (negsuc 3) (pos 6)
scaled_before_0_at_1 = refl

scaled_at_0_0 : plane_point scaled (pos 0) (pos 0) ≡ at (pos 0) (pos 10)
scaled_at_0_0 = refl

-- a viewport's origin at 5, -7 moves what lands by as much
moved_at_2_3 : plane_point (with_viewport_origin (at (pos 5) (negsuc 6)) scaled) (pos 2) (pos 3) ≡ at (pos 11) (negsuc 6)
moved_at_2_3 = refl

-- mode 1 sets the four extents to 1, and mode 8 behind it leaves them so; the window's origin stays
text_and_back : with_mode Anisotropic (with_mode Text scaled) ≡ with_window_origin (at (pos 0) (pos 3)) (fresh Anisotropic)
text_and_back = refl

-- modes 7 and 8 leave the extents as they are
isotropic_and_back : with_mode Anisotropic (with_mode Isotropic scaled) ≡ scaled
isotropic_and_back = refl

-- an extent of 0 on either axis is refused in modes 7 and 8, and not in mode 1, where it isn't set
zero_wide_in_8 : sets_zero_extent (at (pos 0) (pos 5)) (fresh Anisotropic) ≡ true
zero_wide_in_8 = refl

zero_high_in_8 : sets_zero_extent (at (pos 5) (pos 0)) (fresh Anisotropic) ≡ true
zero_high_in_8 = refl

zero_wide_in_7 : sets_zero_extent (at (pos 0) (pos 5)) (fresh Isotropic) ≡ true
zero_wide_in_7 = refl

negative_in_8 : sets_zero_extent (at (negsuc 0) (pos 1)) (fresh Anisotropic) ≡ false
negative_in_8 = refl

zero_in_1 : sets_zero_extent (at (pos 0) (pos 0)) (fresh Text) ≡ false
zero_in_1 = refl

-- in mode 1 extents change nothing
window_extent_in_1 : with_window_extent (at (pos 3) (pos 3)) (fresh Text) ≡ fresh Text
window_extent_in_1 = refl

viewport_extent_in_1 : with_viewport_extent (at (pos 10) (pos 10)) (fresh Text) ≡ fresh Text
viewport_extent_in_1 = refl

-- an origin moved by an offset
window_moved : with_offset_window_origin (at (pos 4) (negsuc 0)) scaled ≡ with_window_origin (at (pos 4) (pos 2)) scaled
window_moved = refl

viewport_moved : with_offset_viewport_origin (at (pos 4) (negsuc 0)) scaled ≡ with_viewport_origin (at (pos 4) (negsuc 0)) scaled
viewport_moved = refl

-- the last and the first number of 32 bits, moved
abbrev last : ℤ
last = pos (2 ^ 31 - 1)

abbrev first : ℤ
first = neg_ℤ (pos (2 ^ 31))

last_by_1 : is_page_point (offset_by (at (pos 1) (pos 0)) (at last last)) ≡ false
last_by_1 = refl

last_by_1_on_y : is_page_point (offset_by (at (pos 0) (pos 1)) (at last last)) ≡ false
last_by_1_on_y = refl

last_by_0 : is_page_point (offset_by (at (pos 0) (pos 0)) (at last last)) ≡ true
last_by_0 = refl

first_by_minus_1 : is_page_point (offset_by (at (negsuc 0) (pos 0)) (at first first)) ≡ false
first_by_minus_1 = refl

first_by_minus_1_on_y : is_page_point (offset_by (at (pos 0) (negsuc 0)) (at first first)) ≡ false
first_by_minus_1_on_y = refl

first_by_0 : is_page_point (offset_by (at (pos 0) (pos 0)) (at first first)) ≡ true
first_by_0 = refl

-- of a frame of four, all of it, one line, and what lies behind it; half of a frame of eight; and no part
all_of_four : cells (pos 0) (pos 4) 4 4 ≡ 4
all_of_four = refl

one_of_four : cells (pos 2) (pos 2) 4 4 ≡ 1
one_of_four = refl

one_of_eight : cells (pos 3) (pos 4) 2 8 ≡ 2
one_of_eight = refl

after_four : cells (pos 4) (pos 9) 4 4 ≡ 0
after_four = refl

none_of_four : cells (pos 0) (negsuc 0) 4 4 ≡ 0
none_of_four = refl
