-- Deletions of selected objects, worked by hand.
use Rattle.std.proofs.Common.{◌≡◌, Bool, true, false, negsuc, pos, List, [], ◌∷◌, ◌++◌, map, Option, Some, None, refl}
use Rattle.draw_ops.specs.Objects.{ObjectValue, pen_object}
use Rattle.draw_ops.specs.Operation.{Operation, create, delete, restore, save, select}
use Rattle.draw_ops.specs.declared.objects.Pen.TheVariants.{Solid}
use Rattle.draw_ops.specs.declared.record_fault.RecordFault.{RecordFault}
use Rattle.draw_ops.specs.declared.record_fault.RecordFault.TheVariants.{HeldObject}
use Rattle.draw_ops.specs.declared.rules.Profile.{Profile}
use Rattle.draw_ops.specs.declared.rules.Profile.TheVariants.{Core, Print}
use Rattle.mapping.specs.Colours.{black_colour}
use Rattle.mapping.specs.PageMap.{unscaled_map}
use Rattle.object_tables.specs.Table.{by_lowest_free}
use Rattle.dc_stack.specs.OperationFault.{fault_of}
use Rattle.dc_stack.specs.State.{State, start_state}
use Rattle.dc_stack.proofs.WorkedStart.{at, four, played}

-- the start by a profile, with or without deletions of selected objects allowed
abbrev start_by : Profile → Bool → State
start_by profile held =
    start_state (record { profile = profile; allowed = record { held_deletion = held; emf_plus = false } }) (unscaled_map (at (pos 0) (pos 0))) by_lowest_free

abbrev black_pen : ObjectValue
black_pen = pen_object (Solid 1 black_colour)

-- two pens, of which a saved state has selected the first, and the current one the second
abbrev two_pens : List Operation
two_pens = create None black_pen ∷ create None black_pen ∷ select 0 ∷ save ∷ select 1 ∷ []

abbrev fault_by : Profile → Bool → Option RecordFault
fault_by profile held = fault_of (delete 0) (played two_pens (start_by profile held)) four

-- only the print profile allows it, and only if it is asked to
allowed : fault_by Print true ≡ None
allowed = refl

not_asked : fault_by Print false ≡ Some HeldObject
not_asked = refl

not_core : fault_by Core true ≡ Some HeldObject
not_core = refl

abbrev one_deleted : State
one_deleted = played (two_pens ++ delete 0 ∷ []) (start_by Print true)

-- the saved state lets go of the index, and the current one keeps its own
saved_index : map (λ dc. dc.selected.pen.index) one_deleted.saved ≡ None ∷ []
saved_index = refl

current_index : one_deleted.dc.selected.pen.index ≡ Some 1
current_index = refl

counted_once : one_deleted.held_deletions ≡ 1
counted_once = refl

-- a restored state draws with the pen that was deleted, and doesn't hold the object that has its index then
abbrev used_again : State
used_again = played (create None black_pen ∷ restore (negsuc 0) ∷ []) one_deleted

restored_pen : used_again.dc.selected.pen ≡ record { object = Solid 1 black_colour; index = None }
restored_pen = refl

not_held : fault_of (delete 0) used_again four ≡ None
not_held = refl

not_counted : (played (delete 0 ∷ []) used_again).held_deletions ≡ 1
not_counted = refl
