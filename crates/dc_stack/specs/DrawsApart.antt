-- How drawing changes a machine whose path isn't open.
use Rattle.std.specs.Prelude.{◌≡◌, false, List, Option, None, Some, IfSome, Result, Ok, Err}
use Rattle.std.specs.Option.{option_map}
use Rattle.mapping.specs.declared.geometry.Point.{Point}
use Rattle.draw_ops.specs.declared.fault.Fault.{Fault}
use Rattle.draw_ops.specs.declared.fault.Fault.TheVariants.{Record}
use Rattle.draw_ops.specs.declared.record_fault.RecordFault.{RecordFault}
use Rattle.dc_stack.specs.Drawing.{MarkValue, drawing_now, lines_mark, mark_edges, mark_points}
use Rattle.dc_stack.specs.Draws.{IsPlacedDraw, paints_path}
use Rattle.dc_stack.specs.Extents.{IsExtent}
use Rattle.dc_stack.specs.MachineState.{HasNib, IsUnchanged, MachineState, Outcome, drawing_with}
use Rattle.dc_stack.specs.Needs.{greater_needs, points_needed}
use Rattle.dc_stack.specs.Next.{end_of}
use Rattle.dc_stack.specs.OperationFault.{drawn_fault}
use Rattle.dc_stack.specs.State.{State, with_position}
use Rattle.mapping.specs.Surface.{Surface}

-- the first fault of a mark
abbrev pub mark_fault : MarkValue → State → Surface → Option RecordFault
mark_fault mark state s = drawn_fault (drawing_now mark state) (mark_points mark) s

-- a mark that isn't that of a path was drawn, and the position is this
pub record HasDrawn (mark : MarkValue) (position : Point) (old new : MachineState) (reported : Outcome) : Type 0 where
  pub no_fault : mark_fault mark old.state old.surface ≡ None
  pub state : new.state ≡ with_position position old.state
  pub needs : new.needs ≡ greater_needs old.needs (points_needed (mark_edges mark))
  pub drawn : option_map (drawing_with new) reported.draw ≡ drawing_now mark old.state
  pub placed : IfSome reported.draw (IsPlacedDraw old.surface new.painted)
  pub nib : IfSome reported.draw (HasNib old.surface new)
  pub apart : paints_path reported.draw ≡ false
  pub extent : IsExtent reported.extent (mark_points mark)

-- a mark has a fault, and nothing has changed
pub record HasNotDrawn (mark : MarkValue) (old new : MachineState) (fault : Fault) : Type 0 where
  pub rejected : option_map Record (mark_fault mark old.state old.surface) ≡ Some fault
  pub kept : IsUnchanged old new

-- a mark was drawn, or it has a fault
abbrev pub DrawsApart : MarkValue → Point → MachineState → Result Outcome Fault → MachineState → Type 0
DrawsApart mark position old (Ok reported) new = HasDrawn mark position old new reported
DrawsApart mark position old (Err fault) new = HasNotDrawn mark old new fault

-- the mark of the state was drawn, without moving the position; or it has a fault
abbrev pub DrawsHere : (State → MarkValue) → MachineState → Result Outcome Fault → MachineState → Type 0
DrawsHere mark old result new = DrawsApart (mark old.state) old.state.dc.position old result new

-- lines from the current position through points were drawn, and the last point is the new position; or they have a
-- fault
abbrev pub DrawsLines : List Point → MachineState → Result Outcome Fault → MachineState → Type 0
DrawsLines points old result new = DrawsApart (lines_mark points old.state) (end_of old.state.dc.position points) old result new
