-- Where worked values start: a surface of 4 by 4 that shows a frame of its size, and operations played on it.
use Rattle.std.proofs.Common.{ℤ, pos, List, [], ◌∷◌, Option}
use Rattle.draw_ops.specs.Operation.{Operation}
use Rattle.draw_ops.specs.RuleSets.{core_rules}
use Rattle.draw_ops.specs.declared.record_fault.RecordFault.{RecordFault}
use Rattle.mapping.specs.PageMap.{unscaled_map}
use Rattle.mapping.specs.Surface.{Surface}
use Rattle.mapping.specs.declared.geometry.Point.{Point}
use Rattle.mapping.specs.declared.geometry.Rect.{Rect}
use Rattle.object_tables.specs.Table.{by_lowest_free}
use Rattle.dc_stack.specs.Next.{next}
use Rattle.dc_stack.specs.OperationFault.{fault_of}
use Rattle.dc_stack.specs.State.{State, start_state}

-- a point
abbrev pub at : ℤ → ℤ → Point
at x y = record { x = x; y = y }

-- a box
abbrev pub box : ℤ → ℤ → ℤ → ℤ → Rect
box l t r b = record { l = l; t = t; r = r; b = b }

-- a surface of 4 by 4 that shows a frame of as many units
abbrev pub four : Surface
four = record { width = 4; height = 4; frame_width = 4; frame_height = 4 }

-- a surface of 2 by 2 that shows the same frame
abbrev pub half : Surface
half = record { width = 2; height = 2; frame_width = 4; frame_height = 4 }

-- the start of a file whose map scales nothing
abbrev pub start : State
start = start_state core_rules (unscaled_map (at (pos 0) (pos 0))) by_lowest_free

-- the state after these operations, none of which is looked at for its fault
abbrev pub played : List Operation → State → State
played [] state = state
played (operation ∷ rest) state = played rest (next operation state)

-- the fault of an operation behind others, from the start, on the surface of 4 by 4
abbrev pub fault_after : List Operation → Operation → Option RecordFault
fault_after before operation = fault_of operation (played before start) four
