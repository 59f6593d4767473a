-- Entries against the records of a dot, a line and an end, on a surface of 4 by 4 that shows a frame of its size: worked by hand.
use Rattle.std.proofs.Common.{◌≡◌, ℕ, ℤ, pos, List, [], ◌∷◌, Option, Some, None, refl}
use Rattle.mapping.specs.Colours.{black_colour}
use Rattle.mapping.specs.Limits.{place_limit, plane_limit}
use Rattle.mapping.specs.PageMap.{unscaled_map}
use Rattle.mapping.specs.Surface.{Surface}
use Rattle.mapping.specs.declared.geometry.Point.{Point}
use Rattle.draw_ops.specs.Content.{StepValue}
use Rattle.draw_ops.specs.NoteCounts.{no_notes}
use Rattle.draw_ops.specs.Objects.{pen_object}
use Rattle.draw_ops.specs.Operation.{Operation, create, line_to, no_effect, pixel, select}
use Rattle.draw_ops.specs.declared.objects.Pen.TheVariants.{Solid}
use Rattle.draw_ops.specs.declared.record_fault.RecordFault.{RecordFault}
use Rattle.draw_ops.specs.declared.record_fault.RecordFault.TheVariants.{BoxTooSmall, NibTooSmall, NibTooWide, NoEnd, OffPlane, WrongEntry}
use Rattle.object_tables.specs.Table.{by_lowest_free}
use Rattle.dc_stack.specs.Drawing.{edge_limit}
use Rattle.dc_stack.specs.Path.{piece_limit}
use Rattle.draw_ops.specs.RuleSets.{core_rules}
use Rattle.dc_stack.specs.State.{State, start_state}
use Rattle.span_fill.specs.WideStrokes.{one_pixel}
use Rattle.preflight_cert.specs.Checked.{check_of}
use Rattle.preflight_cert.specs.Stop.{Stop, stop_at}
use Rattle.preflight_cert.specs.declared.certificate_entry.Entry.{Entry}

abbrev four : Surface
four = record { width = 4; height = 4; frame_width = 4; frame_height = 4 }

abbrev at : ℤ → ℤ → Point
at x y = record { x = x; y = y }

abbrev start : State
start = start_state core_rules (unscaled_map (at (pos 0) (pos 0))) by_lowest_free

abbrev step : ℕ → Operation → StepValue
step number operation = record { number = number; operation = operation; notes = no_notes }

-- a dot at (2, 1), a line to (3, 0) and the end
abbrev steps : List StepValue
steps = step 0 (pixel (at (pos 2) (pos 1)) black_colour) ∷ step 1 (line_to (at (pos 3) (pos 0))) ∷ step 2 no_effect ∷ []

abbrev entry : ℕ → ℤ → ℤ → ℤ → ℤ → Entry
entry number l t r b = record { number = number; bounds = record { l = l; t = t; r = r; b = b }; nib = one_pixel }

abbrev dot_entry : Entry
dot_entry = entry 0 (pos 2) (pos 1) (pos 2) (pos 1)

abbrev line_entry : Entry
line_entry = entry 1 (pos 0) (pos 0) (pos 3) (pos 0)

-- where these steps and then this fault stop, beside these entries
abbrev stop_outside : Option RecordFault → List Entry → Option Stop
stop_outside fault entries = check_of (record { steps = steps; fault = fault }) start four entries

each_has_its_own : stop_outside None (dot_entry ∷ line_entry ∷ []) ≡ None
unfolding plane_limit place_limit edge_limit piece_limit
each_has_its_own = refl

-- exchanged, left out, one left over behind the end
exchanged : stop_outside None (line_entry ∷ dot_entry ∷ []) ≡ Some (stop_at 0 WrongEntry)
unfolding plane_limit place_limit edge_limit piece_limit
exchanged = refl

left_out : stop_outside None (dot_entry ∷ []) ≡ Some (stop_at 1 WrongEntry)
unfolding plane_limit place_limit edge_limit piece_limit
left_out = refl

left_over : stop_outside None (dot_entry ∷ line_entry ∷ line_entry ∷ []) ≡ Some (stop_at 2 WrongEntry)
unfolding plane_limit place_limit edge_limit piece_limit
left_over = refl

-- a box that lacks the line's right end
short_box : stop_outside None (dot_entry ∷ entry 1 (pos 0) (pos 0) (pos 2) (pos 0) ∷ []) ≡ Some (stop_at 1 BoxTooSmall)
unfolding plane_limit place_limit edge_limit piece_limit
short_box = refl

-- the fault of an earlier entry comes before that of a later record, and a record's own before its entry's
entry_before_end : stop_outside (Some NoEnd) (dot_entry ∷ []) ≡ Some (stop_at 1 WrongEntry)
unfolding plane_limit place_limit edge_limit piece_limit
entry_before_end = refl

end_of_file : stop_outside (Some NoEnd) (dot_entry ∷ line_entry ∷ []) ≡ Some (stop_at 3 NoEnd)
unfolding plane_limit place_limit edge_limit piece_limit
end_of_file = refl

off_before_entry : check_of (record { steps = step 0 (line_to (at (pos 2000000000) (pos 0))) ∷ []; fault = None }) start four [] ≡ Some (stop_at 0 OffPlane)
unfolding plane_limit place_limit edge_limit piece_limit
off_before_entry = refl

-- a pen of this width is made and selected, and draws a line to (3, 0): record 2
abbrev wide_steps : ℕ → List StepValue
wide_steps width = step 0 (create None (pen_object (Solid width black_colour))) ∷ step 1 (select 0) ∷ step 2 (line_to (at (pos 3) (pos 0))) ∷ []

-- where they stop, beside an entry with this box and nib
abbrev wide_stop : ℕ → ℤ → ℕ → ℕ → Option Stop
wide_stop width right x y =
    check_of (record { steps = wide_steps width; fault = None }) start four
    (record { number = 2; bounds = record { l = pos 0; t = pos 0; r = right; b = pos 0 }; nib = record { x = x; y = y } } ∷ [])

nib_of_its_own : wide_stop 3 (pos 3) 3 3 ≡ None
unfolding plane_limit place_limit edge_limit piece_limit
nib_of_its_own = refl

nib_larger : wide_stop 3 (pos 3) 4 3 ≡ None
unfolding plane_limit place_limit edge_limit piece_limit
nib_larger = refl

nib_too_low : wide_stop 3 (pos 3) 3 2 ≡ Some (stop_at 2 NibTooSmall)
unfolding plane_limit place_limit edge_limit piece_limit
nib_too_low = refl

nib_too_narrow : wide_stop 3 (pos 3) 2 3 ≡ Some (stop_at 2 NibTooSmall)
unfolding plane_limit place_limit edge_limit piece_limit
nib_too_narrow = refl

-- the box comes first
box_before_nib : wide_stop 3 (pos 2) 1 1 ≡ Some (stop_at 2 BoxTooSmall)
unfolding plane_limit place_limit edge_limit piece_limit
box_before_nib = refl

-- and the record's own fault before both
too_wide : wide_stop 4097 (pos 2) 1 1 ≡ Some (stop_at 2 NibTooWide)
unfolding plane_limit place_limit edge_limit piece_limit
too_wide = refl
