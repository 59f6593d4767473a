-- The definitions of the clip on worked values.
use Rattle.std.proofs.Common.{◌≡◌, ◌+◌, ◌^◌, pos, negsuc, true, false, List, [], ◌∷◌, ◌++◌, replicate, Some, None, refl}
use Rattle.draw_ops.specs.Operation.{Operation, exclude_clip, intersect_clip, restore, save}
use Rattle.draw_ops.specs.declared.record_fault.RecordFault.TheVariants.{OffPlane, TooManyCuts}
use Rattle.mapping.specs.Limits.{place_limit, plane_limit}
use Rattle.dc_stack.specs.Clip.{ClipValue, in_clip, placed_clip}
use Rattle.dc_stack.proofs.WorkedStart.{box, fault_after, four, half, played, start}

-- a box of one pixel is cut out
abbrev cut : Operation
cut = exclude_clip (box (pos 1) (pos 1) (pos 2) (pos 2))

-- behind fifteen cuts there may be one more
cut_16 : fault_after (save ∷ replicate 15 cut) cut ≡ None
unfolding place_limit plane_limit
cut_16 = refl

-- behind sixteen there may not
cut_17 : fault_after (save ∷ replicate 16 cut) cut ≡ Some TooManyCuts
cut_17 = refl

-- also where it would be off the plane
cut_17_off_plane : fault_after (replicate 16 cut) (exclude_clip (box (pos (2 ^ 30 + 1)) (pos 0) (pos 0) (pos 0))) ≡ Some TooManyCuts
cut_17_off_plane = refl

-- where it has another fault if there are fewer
cut_1_off_plane : fault_after [] (exclude_clip (box (pos (2 ^ 30 + 1)) (pos 0) (pos 0) (pos 0))) ≡ Some OffPlane
unfolding place_limit plane_limit
cut_1_off_plane = refl

-- the saved state comes back without the cuts
cut_after_restore : fault_after (save ∷ replicate 16 cut ++ restore (negsuc 0) ∷ []) cut ≡ None
unfolding place_limit plane_limit
cut_after_restore = refl

-- a kept box is no cut
keep_after_16_cuts : fault_after (replicate 16 cut) (intersect_clip (box (pos 1) (pos 1) (pos 2) (pos 2))) ≡ None
unfolding place_limit plane_limit
keep_after_16_cuts = refl

-- the clip after some operations
abbrev clip_after : List Operation → ClipValue
clip_after operations = (played operations start).dc.clip

-- a box of two by two pixels is kept, and its right bottom pixel cut out
abbrev kept_and_cut : ClipValue
kept_and_cut = clip_after (intersect_clip (box (pos 1) (pos 1) (pos 3) (pos 3)) ∷ exclude_clip (box (pos 2) (pos 2) (pos 3) (pos 3)) ∷ [])

-- the box has its left top pixel
left_top_is_in : in_clip kept_and_cut four 1 1 ≡ true
left_top_is_in = refl

-- and its left bottom one
left_bottom_is_in : in_clip kept_and_cut four 1 2 ≡ true
left_bottom_is_in = refl

-- what is cut out isn't in
cut_is_out : in_clip kept_and_cut four 2 2 ≡ false
cut_is_out = refl

-- nor is what lies before the box
corner_is_out : in_clip kept_and_cut four 0 0 ≡ false
corner_is_out = refl

-- nor the corner at its right and bottom
right_and_bottom_are_out : in_clip kept_and_cut four 3 3 ≡ false
right_and_bottom_are_out = refl

-- nor the column at its right
right_is_out : in_clip kept_and_cut four 3 1 ≡ false
right_is_out = refl

-- nor the row at its bottom
bottom_is_out : in_clip kept_and_cut four 1 3 ≡ false
bottom_is_out = refl

-- without a clip every pixel is in
unclipped_is_in : in_clip (clip_after []) four 0 3 ≡ true
unclipped_is_in = refl

-- corners in the other order give the same boxes
other_order : clip_after (intersect_clip (box (pos 3) (pos 1) (pos 1) (pos 3)) ∷ exclude_clip (box (pos 3) (pos 3) (pos 2) (pos 2)) ∷ []) ≡ kept_and_cut
other_order = refl

-- the second kept box narrows the first, from either side
narrows : (clip_after (intersect_clip (box (pos 0) (pos 1) (pos 3) (pos 4)) ∷ intersect_clip (box (pos 1) (pos 0) (pos 4) (pos 3)) ∷ [])).kept ≡ Some (box (pos 1) (pos 1) (pos 3) (pos 3))
narrows = refl

-- two kept boxes that have nothing in common
abbrev nothing_kept : ClipValue
nothing_kept = clip_after (intersect_clip (box (pos 0) (pos 0) (pos 1) (pos 1)) ∷ intersect_clip (box (pos 2) (pos 2) (pos 4) (pos 4)) ∷ [])

-- what is narrowed past itself has its right before its left
nothing_kept_box : nothing_kept.kept ≡ Some (box (pos 2) (pos 2) (pos 1) (pos 1))
nothing_kept_box = refl

-- so it has no pixel of the first box
no_pixel_of_the_first : in_clip nothing_kept four 0 0 ≡ false
no_pixel_of_the_first = refl

-- none between them
no_pixel_between : in_clip nothing_kept four 1 1 ≡ false
no_pixel_between = refl

-- and none of the second
no_pixel_of_the_second : in_clip nothing_kept four 2 2 ≡ false
no_pixel_of_the_second = refl

-- a cut from -1 to 3 and 1
abbrev small_cut : ClipValue
small_cut = clip_after (exclude_clip (box (negsuc 0) (negsuc 0) (pos 3) (pos 1)) ∷ [])

-- on half the frame's size the corners are rounded down, also before 0
small_cut_box : (placed_clip half small_cut).cuts ≡ box (negsuc 0) (negsuc 0) (pos 1) (pos 0) ∷ []
small_cut_box = refl

-- so that the first row isn't cut
small_cut_has_no_row : in_clip small_cut half 0 0 ≡ true
small_cut_has_no_row = refl

-- as it is on the frame's own size
small_cut_on_the_frame : in_clip small_cut four 2 0 ≡ false
small_cut_on_the_frame = refl
