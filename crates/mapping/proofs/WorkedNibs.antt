-- The nib of a pen on worked numbers.
use Rattle.std.proofs.Common.{◌≡◌, ℕ, pos, negsuc, true, false, refl}
use Rattle.mapping.specs.Cells.{wide_cells}
use Rattle.mapping.specs.MapSettings.{with_mode, with_viewport_extent, with_window_extent}
use Rattle.mapping.specs.Nibs.{is_nib, nib_of, reach_after, reach_before}
use Rattle.mapping.specs.PageMap.{unscaled_map}
use Rattle.mapping.specs.Plane.{MapNumbers}
use Rattle.mapping.specs.Surface.{Surface}
use Rattle.mapping.specs.declared.map_mode.MapMode.TheVariants.{Anisotropic}
use Rattle.mapping.specs.declared.nib.Nib.{Nib}

-- a surface for a frame of 8 by 8
abbrev sized : ℕ → ℕ → Surface
sized width height = record { width = width; height = height; frame_width = 8; frame_height = 8 }

abbrev nib : ℕ → ℕ → Nib
nib x y = record { x = x; y = y }

-- a page unit is a unit of the plane
abbrev unscaled : MapNumbers
unscaled = unscaled_map (record { x = pos 0; y = pos 0 })

three_at_8 : nib_of 3 unscaled (sized 8 8) ≡ nib 3 3
three_at_8 = refl

three_at_half : nib_of 3 unscaled (sized 4 4) ≡ nib 1 1
three_at_half = refl

three_at_half_the_height : nib_of 3 unscaled (sized 8 4) ≡ nib 3 1
three_at_half_the_height = refl

one_at_8_times_the_frame : nib_of 1 unscaled (sized 64 64) ≡ nib 8 8
one_at_8_times_the_frame = refl

no_width : nib_of 0 unscaled (sized 64 64) ≡ nib 1 1
no_width = refl

-- a nib of 4,096 is allowed, one of 4,097 isn't, and at half the size it is 2,048
greatest : is_nib (nib_of 4096 unscaled (sized 8 8)) ≡ true
greatest = refl

too_wide : is_nib (nib_of 4097 unscaled (sized 8 8)) ≡ false
too_wide = refl

half_of_it : nib_of 4097 unscaled (sized 4 4) ≡ nib 2048 2048
half_of_it = refl

-- extents of 3 and 10 on x, and of 2 and -6 on y: their signs don't matter
abbrev scaled : MapNumbers
scaled = with_viewport_extent (record { x = pos 10; y = negsuc 5 }) (with_window_extent (record { x = pos 3; y = pos 2 }) (with_mode Anisotropic unscaled))

two_scaled : nib_of 2 scaled (sized 8 8) ≡ nib 6 6
two_scaled = refl

-- of an odd number as many lie before as after, of an even one fewer
odd_before : reach_before 3 ≡ 1
odd_before = refl

odd_after : reach_after 3 ≡ 1
odd_after = refl

even_before : reach_before 2 ≡ 0
even_before = refl

even_after : reach_after 2 ≡ 1
even_after = refl

-- columns 2 to 6 of 8 under a nib of 3, of 4, and of 4,096; and none
under_3 : wide_cells (pos 2) (pos 6) 8 8 3 ≡ 7
under_3 = refl

under_4 : wide_cells (pos 2) (pos 6) 8 8 4 ≡ 8
under_4 = refl

under_most : wide_cells (pos 2) (pos 6) 8 8 4096 ≡ 8
under_most = refl

none_in_nothing : wide_cells (pos 2) (pos 1) 8 8 3 ≡ 0
none_in_nothing = refl
