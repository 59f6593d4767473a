-- The definitions on worked values: objects, saved states, page map, pixels and needs.
use Rattle.std.proofs.Common.{◌≡◌, ◌+◌, ◌-◌, ◌^◌, pos, negsuc, List, [], ◌∷◌, ◌++◌, length, map, replicate, Some, None, refl}
use Rattle.draw_ops.specs.Objects.{ObjectValue, brush_object, font_object, null_brush, palette_object, pen_object, solid_brush}
use Rattle.draw_ops.specs.Operation.{Operation, create, delete, move_to, offset_window_origin, pixel, restore, save, select, select_palette, set_map_mode, set_window_extent}
use Rattle.draw_ops.specs.RuleSets.{core_rules}
use Rattle.draw_ops.specs.declared.record_fault.RecordFault.TheVariants.{DepthLimit, HeldObject, NoSavedState, NoSuchHandle, OffPlane, WrongKind, ZeroExtent}
use Rattle.draw_ops.specs.declared.objects.Pen.TheVariants.{Null, Solid}
use Rattle.mapping.specs.Colours.{black_colour, white_colour}
use Rattle.mapping.specs.Limits.{place_limit, plane_limit}
use Rattle.mapping.specs.MapMode.{map_mode_of}
use Rattle.mapping.specs.PageMap.{unscaled_map}
use Rattle.mapping.specs.declared.map_mode.MapMode.TheVariants.{Anisotropic}
use Rattle.object_tables.specs.Table.{by_given_index}
use Rattle.dc_stack.specs.Needs.{depth_needed, needs_of, no_needs, slots_needed}
use Rattle.dc_stack.specs.Next.{next}
use Rattle.dc_stack.specs.OperationFault.{fault_of}
use Rattle.dc_stack.specs.SavedStates.{saved_place}
use Rattle.dc_stack.specs.Selecting.{after_selecting, object_fault, own_index, palette_fault}
use Rattle.dc_stack.specs.State.{State, start_state, stock_selections}
use Rattle.dc_stack.specs.StockObjects.{grey, stock_object, stock_objects}
use Rattle.dc_stack.proofs.WorkedStart.{at, fault_after, four, half, played, start}

-- the stock objects by what is added to 0x80000000: 0 is a white brush
white_brush : stock_object 0x80000000 ≡ Some (brush_object (solid_brush white_colour))
white_brush = refl

-- 1 a light grey brush
light_grey_brush : stock_object 0x80000001 ≡ Some (brush_object (solid_brush (grey 192)))
light_grey_brush = refl

-- 2 a grey brush
grey_brush : stock_object 0x80000002 ≡ Some (brush_object (solid_brush (grey 128)))
grey_brush = refl

-- 3 a dark grey brush
dark_grey_brush : stock_object 0x80000003 ≡ Some (brush_object (solid_brush (grey 64)))
dark_grey_brush = refl

-- 4 a black brush
black_brush : stock_object 0x80000004 ≡ Some (brush_object (solid_brush black_colour))
black_brush = refl

-- 5 a brush that paints nothing
no_brush : stock_object 0x80000005 ≡ Some (brush_object null_brush)
no_brush = refl

-- 6 a white pen
white_pen : stock_object 0x80000006 ≡ Some (pen_object (Solid 0 white_colour))
white_pen = refl

-- 7 a black pen
black_pen : stock_object 0x80000007 ≡ Some (pen_object (Solid 0 black_colour))
black_pen = refl

-- 8 a pen that draws nothing
no_pen : stock_object 0x80000008 ≡ Some (pen_object Null)
no_pen = refl

-- A a font
font_a : stock_object 0x8000000a ≡ Some font_object
font_a = refl

-- B a font
font_b : stock_object 0x8000000b ≡ Some font_object
font_b = refl

-- C a font
font_c : stock_object 0x8000000c ≡ Some font_object
font_c = refl

-- D a font
font_d : stock_object 0x8000000d ≡ Some font_object
font_d = refl

-- E a font
font_e : stock_object 0x8000000e ≡ Some font_object
font_e = refl

-- F the default palette
default_palette : stock_object 0x8000000f ≡ Some palette_object
default_palette = refl

-- 10 a font
font_10 : stock_object 0x80000010 ≡ Some font_object
font_10 = refl

-- 11 a font
font_11 : stock_object 0x80000011 ≡ Some font_object
font_11 = refl

-- 12 the device's own brush, which is white
brush_of_the_context : stock_object 0x80000012 ≡ Some (brush_object (solid_brush white_colour))
brush_of_the_context = refl

-- 13 the device's own pen, which is black
pen_of_the_context : stock_object 0x80000013 ≡ Some (pen_object (Solid 0 black_colour))
pen_of_the_context = refl

-- 9 is none of them, between the null pen and the fonts
no_stock_9 : stock_object 0x80000009 ≡ None
no_stock_9 = refl

-- nor is the one behind the last
no_stock_14 : stock_object 0x80000014 ≡ None
no_stock_14 = refl

-- nor one far behind it
no_stock_ff : stock_object 0x800000ff ≡ None
no_stock_ff = refl

-- no index is kept of any of the nineteen
no_stock_index_is_kept : map (λ row. own_index row.0) stock_objects ≡ replicate 19 None
no_stock_index_is_kept = refl

-- nor of the first index of their range
first_stock_has_no_index : own_index 0x80000000 ≡ None
first_stock_has_no_index = refl

-- nor of the last that names one
last_stock_has_no_index : own_index 0x80000013 ≡ None
last_stock_has_no_index = refl

-- the greatest index below them is kept
last_own_index : own_index 0x7fffffff ≡ Some 0x7fffffff
last_own_index = refl

-- a red pen
abbrev red_pen : ObjectValue
red_pen = pen_object (Solid 0 (record { r = 255; g = 0; b = 0 }))

-- a dark grey brush
abbrev grey_64 : ObjectValue
grey_64 = brush_object (solid_brush (grey 64))

-- a pen in use changes the pen alone, and its index is kept
pen_takes_its_place : after_selecting 5 (Some red_pen) stock_selections ≡ record { pen = record { object = Solid 0 (record { r = 255; g = 0; b = 0 }); index = Some 5 }; brush = stock_selections.brush; font = None; palette = None }
pen_takes_its_place = refl

-- a brush changes the brush alone
brush_takes_its_place : after_selecting 6 (Some grey_64) stock_selections ≡ record { pen = stock_selections.pen; brush = record { object = solid_brush (grey 64); index = Some 6 }; font = None; palette = None }
brush_takes_its_place = refl

-- a font changes the font alone
font_takes_its_place : after_selecting 7 (Some font_object) stock_selections ≡ record { pen = stock_selections.pen; brush = stock_selections.brush; font = Some 7; palette = None }
font_takes_its_place = refl

-- a palette changes the palette alone
palette_takes_its_place : after_selecting 8 (Some palette_object) stock_selections ≡ record { pen = stock_selections.pen; brush = stock_selections.brush; font = None; palette = Some 8 }
palette_takes_its_place = refl

-- a stock pen takes the place of a pen, whose index goes
stock_pen_drops_the_index : after_selecting 0x80000007 (Some (pen_object (Solid 0 black_colour))) (after_selecting 5 (Some red_pen) stock_selections) ≡ stock_selections
stock_pen_drops_the_index = refl

-- SELECTOBJECT finds no object
object_none : object_fault None ≡ Some NoSuchHandle
object_none = refl

-- it selects a pen
object_pen : object_fault (Some red_pen) ≡ None
object_pen = refl

-- and a brush
object_brush : object_fault (Some grey_64) ≡ None
object_brush = refl

-- and a font
object_font : object_fault (Some font_object) ≡ None
object_font = refl

-- and no palette
object_palette : object_fault (Some palette_object) ≡ Some WrongKind
object_palette = refl

-- SELECTPALETTE finds no object
palette_none : palette_fault None ≡ Some NoSuchHandle
palette_none = refl

-- it selects no pen
palette_pen : palette_fault (Some red_pen) ≡ Some WrongKind
palette_pen = refl

-- and no brush
palette_brush : palette_fault (Some grey_64) ≡ Some WrongKind
palette_brush = refl

-- and no font
palette_font : palette_fault (Some font_object) ≡ Some WrongKind
palette_font = refl

-- but a palette
palette_palette : palette_fault (Some palette_object) ≡ None
palette_palette = refl

-- a stock pen is there from the start
select_stock : fault_after [] (select 0x80000007) ≡ None
select_stock = refl

-- a stock index that is none isn't
select_missing_stock : fault_after [] (select 0x80000009) ≡ Some NoSuchHandle
select_missing_stock = refl

-- nor is the index 0
select_missing : fault_after [] (select 0) ≡ Some NoSuchHandle
select_missing = refl

-- but it is behind a create
select_own : fault_after (create None red_pen ∷ []) (select 0) ≡ None
select_own = refl

-- SELECTOBJECT refuses the stock palette
select_stock_palette : fault_after [] (select 0x8000000f) ≡ Some WrongKind
select_stock_palette = refl

-- and SELECTPALETTE selects it
palette_stock_palette : fault_after [] (select_palette 0x8000000f) ≡ None
palette_stock_palette = refl

-- two pens, of which the first is in use and the state saved, and the second is in use behind it
abbrev used_in_saved : List Operation
used_in_saved = create None red_pen ∷ create None red_pen ∷ select 0 ∷ save ∷ select 1 ∷ []

-- the saved state holds the first pen
used_by_saved : fault_after used_in_saved (delete 0) ≡ Some HeldObject
used_by_saved = refl

-- the state holds the second
used_by_current : fault_after used_in_saved (delete 1) ≡ Some HeldObject
used_by_current = refl

-- a stock object can't be deleted
delete_stock : fault_after used_in_saved (delete 0x80000007) ≡ Some NoSuchHandle
delete_stock = refl

-- nor an index that nothing has
delete_missing : fault_after used_in_saved (delete 2) ≡ Some NoSuchHandle
delete_missing = refl

-- with the saved state back, the first pen is in use again
used_again : fault_after (used_in_saved ++ restore (negsuc 0) ∷ []) (delete 0) ≡ Some HeldObject
used_again = refl

-- and nothing holds the second
second_is_free : fault_after (used_in_saved ++ restore (negsuc 0) ∷ []) (delete 1) ≡ None
second_is_free = refl

-- with the second in use, nothing holds the first
first_is_free : fault_after (used_in_saved ++ restore (negsuc 0) ∷ select 1 ∷ []) (delete 0) ≡ None
first_is_free = refl

-- an object that is made behind a save stays where the saved state comes back
object_stays : (played (save ∷ create None red_pen ∷ restore (negsuc 0) ∷ []) start).slots ≡ (0, red_pen) ∷ []
object_stays = refl

-- at first no state is saved
restore_first : fault_after [] (restore (negsuc 0)) ≡ Some NoSavedState
restore_first = refl

-- 0 names none of the saved states
restore_0 : fault_after (save ∷ []) (restore (pos 0)) ≡ Some NoSavedState
restore_0 = refl

-- a state comes back once
restore_twice : fault_after (save ∷ restore (negsuc 0) ∷ []) (restore (negsuc 0)) ≡ Some NoSavedState
restore_twice = refl

-- of three saved states, 1 names the oldest
place_1 : saved_place (pos 1) 3 ≡ Some 0
place_1 = refl

-- 3 the newest
place_3 : saved_place (pos 3) 3 ≡ Some 2
place_3 = refl

-- -1 the newest too
place_minus_1 : saved_place (negsuc 0) 3 ≡ Some 2
place_minus_1 = refl

-- -3 the oldest
place_minus_3 : saved_place (negsuc 2) 3 ≡ Some 0
place_minus_3 = refl

-- 0 none
place_0 : saved_place (pos 0) 3 ≡ None
place_0 = refl

-- 4 none
place_4 : saved_place (pos 4) 3 ≡ None
place_4 = refl

-- -4 none
place_minus_4 : saved_place (negsuc 3) 3 ≡ None
place_minus_4 = refl

-- three states saved, with the position at 1, 2 and 3, and then at 4
abbrev three_saved : List Operation
three_saved = move_to (at (pos 1) (pos 0)) ∷ save ∷ move_to (at (pos 2) (pos 0)) ∷ save ∷ move_to (at (pos 3) (pos 0)) ∷ save ∷ move_to (at (pos 4) (pos 0)) ∷ []

-- 1 brings the oldest back
oldest_is_back : (played (three_saved ++ restore (pos 1) ∷ []) start).dc.position ≡ at (pos 1) (pos 0)
oldest_is_back = refl

-- and none is left
none_is_left : (played (three_saved ++ restore (pos 1) ∷ []) start).saved ≡ []
none_is_left = refl

-- -2 brings the second back
second_is_back : (played (three_saved ++ restore (negsuc 1) ∷ []) start).dc.position ≡ at (pos 2) (pos 0)
second_is_back = refl

-- and the oldest is left
oldest_is_left : length (played (three_saved ++ restore (negsuc 1) ∷ []) start).saved ≡ 1
oldest_is_left = refl

-- which -1 brings back then
restores_oldest_then : (played (three_saved ++ restore (negsuc 1) ∷ restore (negsuc 0) ∷ []) start).dc.position ≡ at (pos 1) (pos 0)
restores_oldest_then = refl

-- behind 255 saved states there may be one more
save_256 : fault_after (replicate 255 save) save ≡ None
save_256 = refl

-- behind 256 there may not
save_257 : fault_after (replicate 256 save) save ≡ Some DepthLimit
save_257 = refl

-- a map mode 2 can't be made
no_mode_2 : map_mode_of 2 ≡ None
no_mode_2 = refl

-- nor a map mode 6
no_mode_6 : map_mode_of 6 ≡ None
no_mode_6 = refl

-- in mode 8 a window's extent of 0 is refused
zero_in_8 : fault_after (set_map_mode Anisotropic ∷ []) (set_window_extent (at (pos 0) (pos 5))) ≡ Some ZeroExtent
zero_in_8 = refl

-- in mode 1 it isn't
zero_in_1 : fault_after [] (set_window_extent (at (pos 0) (pos 5))) ≡ None
zero_in_1 = refl

-- and it does nothing
nothing_in_1 : next (set_window_extent (at (pos 0) (pos 5))) start ≡ start
nothing_in_1 = refl

-- the window's origin at the last number of 32 bits
abbrev at_last : State
at_last = next (offset_window_origin (at (pos (2 ^ 31 - 1)) (pos 0))) start

-- a window's origin at the last number of 32 bits can't be moved by 1
last_by_1 : fault_of (offset_window_origin (at (pos 1) (pos 0))) at_last four ≡ Some OffPlane
last_by_1 = refl

-- and can by 0
last_by_0 : fault_of (offset_window_origin (at (pos 0) (pos 0))) at_last four ≡ None
last_by_0 = refl

-- a pixel past the last point of the plane is refused
pixel_off_plane : fault_after [] (pixel (at (pos (2 ^ 30 + 1)) (pos 0)) black_colour) ≡ Some OffPlane
unfolding place_limit plane_limit
pixel_off_plane = refl

-- one that lands on the last placed coordinate isn't
pixel_at_the_limit : fault_after [] (pixel (at (pos (2 ^ 28)) (pos 0)) black_colour) ≡ None
unfolding place_limit plane_limit
pixel_at_the_limit = refl

-- one that lands behind it is
pixel_past_the_limit : fault_after [] (pixel (at (pos 0) (pos (2 ^ 28 + 1))) black_colour) ≡ Some OffPlane
unfolding place_limit plane_limit
pixel_past_the_limit = refl

-- on half the frame's size it lands nearer, and isn't
pixel_on_half : fault_of (pixel (at (pos (2 ^ 28 + 1)) (pos 0)) black_colour) start half ≡ None
unfolding place_limit plane_limit
pixel_on_half = refl

-- the third object needs three slots
create_needs : needs_of (create None font_object) (played (create None font_object ∷ create None font_object ∷ []) start) ≡ slots_needed 2
create_needs = refl

-- an object at the index 9 needs ten
create_needs_its_index : needs_of (create (Some 9) font_object) (start_state core_rules (unscaled_map (at (pos 0) (pos 0))) (by_given_index 10)) ≡ record { depth = 0; slots = 10; edges = 0; pieces = 0 }
create_needs_its_index = refl

-- the second save needs room for two states
save_needs : needs_of save (played (save ∷ []) start) ≡ depth_needed 2
save_needs = refl

-- a pixel needs nothing
pixel_needs : needs_of (pixel (at (pos 0) (pos 0)) black_colour) start ≡ no_needs
pixel_needs = refl

-- with a count of 10 an object may have the index 9
create_9 : fault_of (create (Some 9) font_object) (start_state core_rules (unscaled_map (at (pos 0) (pos 0))) (by_given_index 10)) four ≡ None
create_9 = refl

-- and not 10
create_10 : fault_of (create (Some 10) font_object) (start_state core_rules (unscaled_map (at (pos 0) (pos 0))) (by_given_index 10)) four ≡ Some NoSuchHandle
create_10 = refl
