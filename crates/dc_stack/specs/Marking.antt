-- How making a drawing changes a machine.
use Rattle.std.specs.Prelude.{◌≡◌, ℕ, if◌then◌else◌, List, Option, Some, None, Result, Ok, Err}
use Rattle.std.specs.Option.{option_map, option_or}
use Rattle.mapping.specs.declared.geometry.Point.{Point}
use Rattle.mapping.specs.Nibs.{IsNib, nib_of}
use Rattle.mapping.specs.Surface.{Surface}
use Rattle.mapping.specs.declared.geometry.Rect.{Rect}
use Rattle.mapping.specs.declared.nib.Nib.{Nib}
use Rattle.draw_ops.specs.declared.fault.Fault.{Fault}
use Rattle.draw_ops.specs.declared.fault.Fault.TheVariants.{Record}
use Rattle.draw_ops.specs.declared.record_fault.RecordFault.{RecordFault}
use Rattle.dc_stack.specs.Drawing.{pen_width}
use Rattle.dc_stack.specs.Draws.{strokes}
use Rattle.dc_stack.specs.Extents.{IsExtent, box_of}
use Rattle.dc_stack.specs.MachineState.{IsUnchanged, MachineState, Outcome}
use Rattle.dc_stack.specs.Needs.{greater_needs, points_needed}
use Rattle.dc_stack.specs.OperationFault.{off_plane_fault, wide_fault}
use Rattle.dc_stack.specs.declared.draw.Mark.{Mark}

-- the nib of a stroke of this width on a surface, by the current page map
abbrev pub stroke_nib : ℕ → MachineState → Surface → Nib
stroke_nib width m s = nib_of width m.state.dc.map s

-- the nib of a mark on a surface, by the current pen and page map
abbrev pub mark_nib : Mark → MachineState → Surface → Nib
mark_nib mark m s = stroke_nib (if strokes mark then pen_width m.state.dc.selected.pen.object else 0) m s

-- the points of an extent all land on a surface
abbrev pub AllLand : Option Rect → Surface → Type 0
AllLand extent s = (points : List Point) → IsExtent extent points → None ≡ off_plane_fault points s

-- the fault of a drawing: the points of its extent don't all land, or else its nib is too wide
abbrev pub IsPlaceFault : Option Rect → Nib → Surface → RecordFault → Type 0
IsPlaceFault extent nib s fault =
    (points : List Point) → IsExtent extent points → option_or (off_plane_fault points s) (wide_fault nib) ≡ Some fault

-- the drawing of a mark was made: the points of its extent land on the surface, its nib is within the limits, and the
-- needs are raised to this number of points
pub record HasMarked (mark : Mark) (extent : Option Rect) (edges : ℕ) (old new : MachineState) (reported : Outcome) : Type 0 where
  pub lands : AllLand extent old.surface
  pub allowed : IsNib (mark_nib mark old old.surface)
  pub state : new.state ≡ old.state
  pub painted : new.painted ≡ old.painted
  pub needs : new.needs ≡ greater_needs old.needs (points_needed edges)
  pub reports : reported ≡ record { draw = Some (record { mark = mark; bounds = box_of extent; edges = edges; nib = mark_nib mark old old.surface }); extent = extent }

-- making a drawing failed: the points of its extent don't all land, or else its nib is too wide; nothing has changed
pub record HasNotMarked (mark : Mark) (extent : Option Rect) (old new : MachineState) (fault : Fault) : Type 0 where
  pub rejected :
      (points : List Point) → IsExtent extent points
      → option_map Record (option_or (off_plane_fault points old.surface) (wide_fault (mark_nib mark old old.surface))) ≡ Some fault
  pub kept : IsUnchanged old new

-- the drawing of a mark was made, or that failed
abbrev pub Marks : Mark → Option Rect → ℕ → MachineState → Result Outcome Fault → MachineState → Type 0
Marks mark extent edges old (Ok reported) new = HasMarked mark extent edges old new reported
Marks mark extent edges old (Err fault) new = HasNotMarked mark extent old new fault
