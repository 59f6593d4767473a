-- What blits draw and are refused for, on worked values.
use Rattle.std.proofs.Common.{◌≡◌, ◌^◌, ℕ, pos, negsuc, List, [], ◌∷◌, Option, Some, None, refl}
use Rattle.std.specs.Option.{option_map}
use Rattle.mapping.specs.Colours.{black_colour, white_colour}
use Rattle.mapping.specs.Limits.{place_limit, plane_limit}
use Rattle.mapping.specs.declared.geometry.Point.{Point}
use Rattle.mapping.specs.declared.map_mode.MapMode.TheVariants.{Anisotropic}
use Rattle.dib_views.specs.Pictures.{Picture}
use Rattle.draw_ops.specs.Blits.{CountedFrom, SourceValue, bottom, top}
use Rattle.draw_ops.specs.Operation.{Operation, begin_path, blit, set_map_mode, set_viewport_extent, set_window_extent}
use Rattle.draw_ops.specs.declared.record_fault.RecordFault.TheVariants.{OffPlane, SourceMissing, SourceOutside}
use Rattle.dc_stack.specs.Drawing.{MarkValue, blit_between, drawing_of, edge_limit}
use Rattle.dc_stack.specs.Needs.{needs_of, no_needs}
use Rattle.dc_stack.specs.Next.{next}
use Rattle.dc_stack.specs.Path.{piece_limit}
use Rattle.dc_stack.proofs.WorkedStart.{at, fault_after, played, start}

-- two columns of two rows
abbrev chequers : Picture
chequers = record { width = 2; height = 2; rows = (black_colour ∷ white_colour ∷ []) ∷ (white_colour ∷ black_colour ∷ []) ∷ [] }

-- a rectangle of it
abbrev from : CountedFrom → Point → Point → Option SourceValue
from counted corner extent = Some (record { picture = chequers; corner = corner; extent = extent; counted = counted })

-- a blit to 4 by 4, by a table, and one by a corner and an extent
abbrev block : ℕ → Option SourceValue → Operation
block table source = blit (record { corner = at (pos 0) (pos 0); extent = at (pos 4) (pos 4); table = table; source = source })

abbrev block_at : Point → Point → Option SourceValue → Operation
block_at corner extent source = blit (record { corner = corner; extent = extent; table = 0xcc; source = source })

abbrev whole : Option SourceValue
whole = from top (at (pos 0) (pos 0)) (at (pos 2) (pos 2))

-- SRCCOPY wants a bitmap, and PATINVERT, DSTINVERT and PATCOPY don't
missing : fault_after [] (block 0xcc None) ≡ Some SourceMissing
missing = refl

pattern_alone : fault_after [] (block 0x5a None) ≡ None
unfolding place_limit plane_limit piece_limit edge_limit
pattern_alone = refl

old_alone : fault_after [] (block 0x55 None) ≡ None
unfolding place_limit plane_limit piece_limit edge_limit
old_alone = refl

-- a rectangle that is the picture, from the top, from the bottom and back, lies inside
inside : fault_after [] (block 0xcc whole) ≡ None
unfolding place_limit plane_limit piece_limit edge_limit
inside = refl

inside_from_the_bottom : fault_after [] (block 0xcc (from bottom (at (pos 0) (pos 0)) (at (pos 2) (pos 2)))) ≡ None
unfolding place_limit plane_limit piece_limit edge_limit
inside_from_the_bottom = refl

inside_backwards : fault_after [] (block 0xcc (from top (at (pos 2) (pos 2)) (at (negsuc 1) (negsuc 1)))) ≡ None
unfolding place_limit plane_limit piece_limit edge_limit
inside_backwards = refl

-- three columns of two don't, nor none, nor one past a side, nor a row past the bottom
three_columns : fault_after [] (block 0xcc (from top (at (pos 0) (pos 0)) (at (pos 3) (pos 2)))) ≡ Some SourceOutside
three_columns = refl

no_column : fault_after [] (block 0xcc (from top (at (pos 0) (pos 0)) (at (pos 0) (pos 2)))) ≡ Some SourceOutside
no_column = refl

past_the_left : fault_after [] (block 0xcc (from top (at (negsuc 0) (pos 0)) (at (pos 1) (pos 1)))) ≡ Some SourceOutside
past_the_left = refl

past_the_bottom : fault_after [] (block 0xcc (from bottom (at (pos 0) (negsuc 0)) (at (pos 1) (pos 1)))) ≡ Some SourceOutside
past_the_bottom = refl

-- where the operation doesn't look at it, it may lie anywhere
not_looked_at : fault_after [] (block 0xf0 (from top (at (pos 9) (pos 9)) (at (pos 0) (pos 0)))) ≡ None
unfolding place_limit plane_limit piece_limit edge_limit
not_looked_at = refl

-- a far corner off the plane comes behind what is read
off_plane : fault_after [] (block_at (at (pos (2 ^ 30)) (pos 0)) (at (pos 1) (pos 1)) whole) ≡ Some OffPlane
unfolding place_limit plane_limit piece_limit edge_limit
off_plane = refl

outside_first : fault_after [] (block_at (at (pos (2 ^ 30)) (pos 0)) (at (pos 1) (pos 1)) None) ≡ Some SourceMissing
outside_first = refl

-- corner and extent are added on the page, beyond its own numbers too, and then mapped
abbrev mark_after : List Operation → Operation → Option MarkValue
mark_after before operation = option_map (λ drawing. drawing.mark) (drawing_of operation (played before start))

beyond_the_page :
    mark_after (set_map_mode Anisotropic ∷ set_window_extent (at (pos 4) (pos 4)) ∷ set_viewport_extent (at (pos 1) (pos 1)) ∷ []) (block_at (at (pos 2147483647) (pos 0)) (at (pos 1) (pos 4)) whole)
    ≡ Some (blit_between (at (pos 536870911) (pos 0)) (at (pos 536870912) (pos 1)) 0xcc whole)
beyond_the_page = refl

-- a blit is drawn at once in an open path, needs no room, and leaves the state as it is
in_a_path : mark_after (begin_path ∷ []) (block 0xcc whole) ≡ Some (blit_between (at (pos 0) (pos 0)) (at (pos 4) (pos 4)) 0xcc whole)
in_a_path = refl

needs_nothing : needs_of (block 0xcc whole) start ≡ no_needs
needs_nothing = refl

moves_nothing : next (block 0xcc whole) (played (begin_path ∷ []) start) ≡ played (begin_path ∷ []) start
moves_nothing = refl
