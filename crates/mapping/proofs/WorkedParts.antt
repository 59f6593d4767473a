-- The fine plane on worked numbers.
use Rattle.std.proofs.Common.{◌≡◌, ◌*◌, pos, negsuc, refl}
use Rattle.mapping.specs.Nibs.{nib_side}
use Rattle.mapping.specs.Parts.{first_fine, part_counts}
use Rattle.mapping.specs.Plane.{AxisNumbers, plane_coordinate}

-- a longer side of 1 or of 256 has 4,096 parts a unit, one more has half of them
side_1 : first_fine 1 part_counts ≡ 4096
side_1 = refl

side_256 : first_fine 256 part_counts ≡ 4096
side_256 = refl

side_257 : first_fine 257 part_counts ≡ 2048
side_257 = refl

side_8192 : first_fine 8192 part_counts ≡ 128
side_8192 = refl

-- the longest side with two parts, and the sides with one
side_524288 : first_fine 524288 part_counts ≡ 2
side_524288 = refl

side_524289 : first_fine 524289 part_counts ≡ 1
side_524289 = refl

side_268435456 : first_fine 268435456 part_counts ≡ 1
side_268435456 = refl

-- three units of the page are ten of the device: the floor is taken in parts
abbrev fine : AxisNumbers
fine = record { parts = 4096; window_origin = pos 0; window_extent = pos 3; viewport_origin = pos 0; viewport_extent = pos 10; corner = pos 0 }

fine_at_2 : plane_coordinate fine (pos 2) ≡ pos 27306
fine_at_2 = refl

fine_before_0 : plane_coordinate fine (negsuc 0) ≡ negsuc 13653
fine_before_0 = refl

-- a pen has as many pixels as without parts: its width and the frame are counted in them
abbrev plain : AxisNumbers
plain = record { parts = 1; window_origin = pos 0; window_extent = pos 3; viewport_origin = pos 0; viewport_extent = pos 10; corner = pos 0 }

same_nib : nib_side 5 fine 64 (8 * 4096) ≡ nib_side 5 plain 64 8
same_nib = refl
