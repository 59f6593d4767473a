-- How adding to an open path changes a machine.
use Rattle.std.specs.Prelude.{◌≡◌, ◌<◌, ◌⊎◌, List, Option, None, Some, Result, Ok, Err}
use Rattle.std.specs.Option.{option_map}
use Rattle.mapping.specs.declared.geometry.Point.{Point}
use Rattle.mapping.specs.declared.geometry.Rect.{Rect}
use Rattle.mapping.specs.Surface.{Surface}
use Rattle.draw_ops.specs.declared.fault.Fault.{Fault}
use Rattle.draw_ops.specs.declared.fault.Fault.TheVariants.{Record}
use Rattle.draw_ops.specs.declared.record_fault.RecordFault.{RecordFault}
use Rattle.dc_stack.specs.Extents.{IsExtent}
use Rattle.dc_stack.specs.Figures.{points_gone_on}
use Rattle.dc_stack.specs.GatheredPath.{WantsPieceCapacity, after_lists}
use Rattle.dc_stack.specs.MachineState.{IsUnchanged, MachineState}
use Rattle.dc_stack.specs.Mapped.{mapped_list, mapped_point}
use Rattle.dc_stack.specs.Needs.{greater_needs, pieces_needed}
use Rattle.dc_stack.specs.OperationFault.{addition_fault}
use Rattle.dc_stack.specs.Path.{Path, after_lines, piece_count, points_if_open}
use Rattle.dc_stack.specs.Pieces.{page_points, plane_lists}
use Rattle.dc_stack.specs.State.{with_path, with_position}
use Rattle.dc_stack.specs.declared.piece.Verb.{Verb}
use Rattle.dc_stack.specs.declared.piece.PiecePoints.{PiecePoints}

-- there are more pieces than a path may have, or else points off the plane
abbrev pub adding_fault : Path → List Point → Surface → Option RecordFault
adding_fault after points s = addition_fault (piece_count after) points s

-- the path and the position are these, and the extent of the points is returned
pub record HasAdded (after : Path) (points : List Point) (position : Point) (old new : MachineState) (reported : Option Rect) : Type 0 where
  pub no_fault : adding_fault after points old.surface ≡ None
  pub state : new.state ≡ with_position position (with_path after old.state)
  pub needs : new.needs ≡ greater_needs old.needs (pieces_needed (piece_count after))
  pub extent : IsExtent reported points

-- the addition failed, by the first fault or for lack of memory for pieces, and nothing has changed
pub record HasNotAdded (after : Path) (first : Option RecordFault) (old new : MachineState) (fault : Fault) : Type 0 where
  pub rejected : (option_map Record first ≡ Some fault) ⊎ WantsPieceCapacity first fault ((piece_count old.state.path < piece_count after) × (old.capacity.pieces < piece_count after))
  pub kept : IsUnchanged old new

-- points were added, at these positions on the plane, and the path and the position are these; or the addition failed
abbrev pub Adds : Path → List Point → Point → MachineState → Result (Option Rect) Fault → MachineState → Type 0
Adds after points position old (Ok extent) new = HasAdded after points position old new extent
Adds after points position old (Err fault) new = HasNotAdded after (adding_fault after points old.surface) old new fault

-- lines from the current position through points of the page were added; or the addition failed
abbrev pub AddsLines : List Point → Point → MachineState → Result (Option Rect) Fault → MachineState → Type 0
AddsLines points position old result new =
    let start = mapped_point old.state.dc.map old.state.dc.position in
    let through = mapped_list old.state.dc.map points in
    let path = old.state.path in
    Adds (after_lines start through path) (points_if_open path (λ figures. points_gone_on start figures.current through)) position old result new

-- the lists of a piece were added; or the addition failed
abbrev pub AddsLists : Verb → PiecePoints → MachineState → Result (Option Rect) Fault → MachineState → Type 0
AddsLists verb points old result new =
    let map = old.state.dc.map in
    Adds (after_lists verb (plane_lists map points) old.state.path) (mapped_list map (page_points points)) old.state.dc.position old result new
