-- The faults that a file's records have in its runs, on surfaces of any size.
use Rattle.std.specs.Prelude.{◌≡◌, ℕ, Bool, true, false, ◌&&◌, ◌||◌, not, if◌then◌else◌, List, [], Option, Some, None, is_some, Result, Ok, Err}
use Rattle.std.specs.Option.{option_map, option_or}
use Rattle.mapping.specs.Limits.{surface_side_limit}
use Rattle.mapping.specs.PlacingLaws.{IsNoLarger, ShowsFrame}
use Rattle.mapping.specs.Surface.{Surface}
use Rattle.mapping.specs.declared.geometry.Point.{Point}
use Rattle.draw_ops.specs.Content.{StepValue}
use Rattle.draw_ops.specs.NoteKinds.{is_noted}
use Rattle.draw_ops.specs.Operation.{Operation, fill_path, select, stroke_and_fill_path, stroke_path}
use Rattle.draw_ops.specs.RuleSets.{allows_emf_plus}
use Rattle.draw_ops.specs.declared.fault.Fault.{Fault}
use Rattle.draw_ops.specs.declared.fault.Fault.TheVariants.{Record}
use Rattle.draw_ops.specs.declared.note.Note.TheVariants.{EmfPlus as EmfPlusNote}
use Rattle.draw_ops.specs.declared.record_fault.RecordFault.{RecordFault}
use Rattle.draw_ops.specs.declared.record_fault.RecordFault.TheVariants.{EmfPlusAlone}
use Rattle.draw_ops.specs.declared.rules.Rules.{Rules}
use Rattle.meta_headers.specs.Headers.{OpenedValue}
use Rattle.meta_headers.specs.Opening.{surface_for}
use Rattle.meta_headers.specs.OpeningRules.{opened_by}
use Rattle.dc_stack.specs.Drawing.{drawing_of}
use Rattle.dc_stack.specs.Figures.{all_figures, points_of_figures}
use Rattle.dc_stack.specs.MachineState.{HasFullCapacity, IsDrawingOf, IsExtentOf, MachineState}
use Rattle.dc_stack.specs.Next.{next}
use Rattle.dc_stack.specs.OperationFault.{all_land_within, fault_of, nib_fault, place_fault, plain_fault}
use Rattle.dc_stack.specs.Path.{Path, finished_path, no_path, open_path}
use Rattle.dc_stack.specs.State.{State, start_of}
use Rattle.dc_stack.specs.declared.draw.Draw.{Draw}
use Rattle.preflight_cert.specs.EmfPlus.{is_emf_plus_alone}
use Rattle.preflight_cert.specs.declared.emf_plus.EmfPlus.{EmfPlus}

-- What determines a record's fault, as long as a run may reach it: the state after the records before it, whether those
-- records contain EMF+ and whether they draw, and the smallest and the largest surface.
pub record DryRunState : Type 0 where
  pub state : State
  pub found : EmfPlus
  pub smallest : Surface
  pub largest : Surface

-- the operation paints a path
abbrev pub is_painting : Operation → Bool
is_painting fill_path = true
is_painting stroke_path = true
is_painting stroke_and_fill_path = true
is_painting operation = false

-- the points of a path
abbrev pub path_points : Path → List Point
path_points no_path = []
path_points (open_path figures pieces) = points_of_figures (all_figures figures)
path_points (finished_path figures) = points_of_figures figures

-- the points of a path land on a surface
abbrev pub PathLands : Path → Surface → Type 0
PathLands path s = all_land_within (path_points path) s ≡ true

-- the fault of painting a path whose points land, as they do wherever a run reaches it, since each was checked when it
-- was added
abbrev pub met_in_painting : Operation → State → Surface → Option RecordFault
met_in_painting operation state s = option_or (plain_fault operation state) (nib_fault (drawing_of operation state) s)

-- the fault that runs have in an operation on a surface, if one reaches it there
abbrev pub fault_met : Operation → State → Surface → Option RecordFault
fault_met operation state s = if is_painting operation then met_in_painting operation state s else fault_of operation state s

-- the fault of the end record, if the records before it contain EMF+ and don't draw, unless the rules allow that
abbrev pub end_fault : Bool → Rules → EmfPlus → Option RecordFault
end_fault is_end rules found =
    if is_end && (is_emf_plus_alone rules found && not (allows_emf_plus rules)) then Some EmfPlusAlone else None

-- The fault of a step in runs, which is that of the end record or not: the one in its operation on the largest surface,
-- or else that of EMF+ without a drawing. A run that stops at it on some surface has the same fault there, except that a
-- nib may be too wide there which is off the plane on the largest. After a record at which every run stops there is none.
abbrev pub run_fault : Bool → Option DryRunState → StepValue → Option RecordFault
run_fault is_end None step = None
run_fault is_end (Some dry_run_state) step =
    option_or (fault_met step.operation dry_run_state.state dry_run_state.largest)
    (end_fault is_end dry_run_state.state.rules dry_run_state.found)

-- the fault in runs of a decoded record; a fault of its meaning comes before any fault of a run
abbrev pub fault_in_runs : Bool → Option DryRunState → Result StepValue RecordFault → Option RecordFault
fault_in_runs is_end dry_run_state (Err fault) = None
fault_in_runs is_end dry_run_state (Ok step) = run_fault is_end dry_run_state step

-- after an operation without a fault on the smallest surface a run continues; with a fault there, every run stops
abbrev pub gone_on : Option RecordFault → DryRunState → Option DryRunState
gone_on None dry_run_state = Some dry_run_state
gone_on (Some fault) dry_run_state = None

-- whether records contain EMF+ and whether they draw, with one more step in a state
abbrev pub found_with : EmfPlus → StepValue → State → EmfPlus
found_with found step state = record {
  is_contained = found.is_contained || is_noted step.notes EmfPlusNote;
  is_drawn = found.is_drawn || is_some (drawing_of step.operation state);
}

-- what determines the faults after a step, if a run continues
abbrev pub after_played : StepValue → DryRunState → DryRunState
after_played step dry_run_state = record {
  state = next step.operation dry_run_state.state;
  found = found_with dry_run_state.found step dry_run_state.state;
  smallest = dry_run_state.smallest;
  largest = dry_run_state.largest;
}

-- what determines the faults after a step
abbrev pub after_step : Option DryRunState → StepValue → Option DryRunState
after_step None step = None
after_step (Some dry_run_state) step =
    gone_on (fault_of step.operation dry_run_state.state dry_run_state.smallest) (after_played step dry_run_state)

-- what determines the faults after a record; every run stops at a fault of meaning
abbrev pub after_record : Option DryRunState → Result StepValue RecordFault → Option DryRunState
after_record dry_run_state (Err fault) = None
after_record dry_run_state (Ok step) = after_step dry_run_state step

-- what determines the fault of the first record of an opened file
abbrev pub start_dry_run : OpenedValue → DryRunState
start_dry_run o = record {
  state = start_of o;
  found = record { is_contained = false; is_drawn = false };
  smallest = surface_for o 1 1;
  largest = surface_for o surface_side_limit surface_side_limit;
}

-- what determines the fault of the first record of a file; one that doesn't open has no run
abbrev pub dry_run_state_if : Result OpenedValue Fault → Option DryRunState
dry_run_state_if (Err fault) = None
dry_run_state_if (Ok o) = Some (start_dry_run o)

-- the same by the rules and the bytes of a file
abbrev pub dry_run_state_of : Rules → List ℕ → Option DryRunState
dry_run_state_of rules file = dry_run_state_if (opened_by rules file)

-- an operation has this fault of a record on a surface
abbrev pub HasFault : Operation → State → Surface → Fault → Type 0
HasFault operation state s fault = option_map Record (fault_of operation state s) ≡ Some fault

-- this is the fault of an operation's position on a surface, for any operation with this drawing that the machine has
-- just played
abbrev pub IsPlaceFault : MachineState → Option Draw → Surface → Option RecordFault → Type 0
IsPlaceFault new drawn s found =
    (operation : Operation) (old : MachineState) → IsExtentOf operation old new.plane_extent → IsDrawingOf operation old new drawn
    → found ≡ place_fault operation old.state s

-- the index of the stock pen that draws nothing
abbrev pub no_pen : ℕ
no_pen = 0x80000008

-- the state with the null pen selected
abbrev pub without_pen : State → State
without_pen state = next (select no_pen) state

-- this is the fault that runs have on a surface, for any machine that has just played this operation with this drawing
abbrev pub IsFaultMet : Operation → MachineState → Option Draw → Surface → Option RecordFault → Type 0
IsFaultMet operation new drawn s found =
    (old : MachineState) → plain_fault operation old.state ≡ None → IsExtentOf operation old new.plane_extent → IsDrawingOf operation old new drawn
    → found ≡ fault_met operation old.state s

-- a machine has the capacity for any file, and plays on a surface that is no larger than another, which shows a frame
pub record IsRunning (m : MachineState) (largest : Surface) : Type 0 where
  pub capacity : HasFullCapacity m
  pub no_larger : IsNoLarger m.surface largest
  pub shows : ShowsFrame largest

-- the points of the machine's path land on its surface
abbrev pub IsLanded : MachineState → Type 0
IsLanded m = PathLands m.state.path m.surface

-- a machine has the capacity for any file, and the points of its path land on its surface
pub record IsOnItsWay (m : MachineState) (largest : Surface) : Type 0 where
  pub running : IsRunning m largest
  pub landed : IsLanded m
