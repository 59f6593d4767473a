-- A machine as callers see it.
use Rattle.std.specs.Prelude.{◌≡◌, ◌⊎◌, ℕ, ◌^◌, ◌<◌, ◌≤◌, Bool, true, false, List, [], length, map, Option, Some, None, IfSome, Result, Ok, Err}
use Rattle.std.specs.Option.{option_map}
use Rattle.mapping.specs.Nibs.{IsNib}
use Rattle.mapping.specs.declared.nib.Nib.{Nib}
use Rattle.mapping.specs.Surface.{Surface}
use Rattle.mapping.specs.declared.geometry.Rect.{Rect}
use Rattle.draw_ops.specs.Objects.{ObjectValue}
use Rattle.draw_ops.specs.Operation.{Operation, create, fill_path, save, stroke_and_fill_path, stroke_path}
use Rattle.draw_ops.specs.declared.fault.Fault.{Fault}
use Rattle.draw_ops.specs.declared.fault.Fault.TheVariants.{OutOfMemory, Record}
use Rattle.object_tables.specs.Table.{created_index, index_bound}
use Rattle.dc_stack.specs.Deleting.{counted, dc_without}
use Rattle.dc_stack.specs.Drawing.{Drawing, drawing_nib, drawing_of, tools_of}
use Rattle.dc_stack.specs.Draws.{IsPlacedDraw, mark_of, paints_path}
use Rattle.dc_stack.specs.Extents.{IsExtent}
use Rattle.dc_stack.specs.Needs.{greater_needs, needs_of}
use Rattle.dc_stack.specs.Next.{next}
use Rattle.dc_stack.specs.OperationFault.{fault_of, plane_points}
use Rattle.dc_stack.specs.Figures.{all_figures}
use Rattle.dc_stack.specs.Path.{Path, figures_to_paint, piece_count}
use Rattle.dc_stack.specs.Pieces.{figures_of}
use Rattle.dc_stack.specs.SavedStates.{depth_limit}
use Rattle.dc_stack.specs.State.{State}
use Rattle.dc_stack.specs.declared.draw.Draw.{Draw}
use Rattle.dc_stack.specs.declared.draw.Painting.{Painting}
use Rattle.dc_stack.specs.declared.draw.Painting.TheVariants.{Fill, Stroke, StrokeAndFill}
use Rattle.dc_stack.specs.declared.needs.Needs.{Needs}
use Rattle.dc_stack.specs.declared.piece.Piece.{Piece}

-- the capacity for saved states, for objects by their indexes, and for pieces of a path
pub record Capacity : Type 0 where
  pub depth : ℕ
  pub slots : ℕ
  pub pieces : ℕ

-- the capacity is less than this, for saved states, objects or pieces
abbrev pub LacksCapacity : Capacity → ℕ → ℕ → ℕ → Type 0
LacksCapacity capacity depth slots pieces = capacity.depth < depth ⊎ (capacity.slots < slots ⊎ capacity.pieces < pieces)

-- The playing state, the pieces of the path that the last accepted step painted, the extent of what it placed on the
-- plane, the surface, the greatest needs so far, and the capacity.
pub record MachineState : Type 0 where
  pub state : State
  pub painted : List Piece
  pub plane_extent : Option Rect
  pub surface : Surface
  pub needs : Needs
  pub capacity : Capacity

-- the surface and the kind of table are the same, and the capacity hasn't decreased
pub record GoesOn (old new : MachineState) : Type 0 where
  pub kind : new.state.table_kind ≡ old.state.table_kind
  pub surface : new.surface ≡ old.surface
  pub depth : old.capacity.depth ≤ new.capacity.depth
  pub slots : old.capacity.slots ≤ new.capacity.slots
  pub pieces : old.capacity.pieces ≤ new.capacity.pieces

-- the state, the pieces of a painted path, the extent of the last step and the needs are unchanged
pub record IsUnchanged (old new : MachineState) : Type 0 where
  pub state : new.state ≡ old.state
  pub painted : new.painted ≡ old.painted
  pub plane_extent : new.plane_extent ≡ old.plane_extent
  pub needs : new.needs ≡ old.needs

-- the current state and all saved ones have let go of an index, and that is counted; everything else is the same
pub record IsLetGo (index : ℕ) (old new : MachineState) : Type 0 where
  pub dc : new.state.dc ≡ dc_without index old.state.dc
  pub saved : new.state.saved ≡ map (dc_without index) old.state.saved
  pub counted : new.state.held_deletions ≡ counted old.state.held_deletions
  pub slots : new.state.slots ≡ old.state.slots
  pub table_kind : new.state.table_kind ≡ old.state.table_kind
  pub path : new.state.path ≡ old.state.path
  pub rules : new.state.rules ≡ old.state.rules
  pub painted : new.painted ≡ old.painted
  pub plane_extent : new.plane_extent ≡ old.plane_extent
  pub surface : new.surface ≡ old.surface
  pub needs : new.needs ≡ old.needs
  pub capacity : new.capacity ≡ old.capacity

-- an operation was played: it has no fault, and the state is the next one
pub record HasStepped (operation : Operation) (old new : MachineState) : Type 0 where
  pub no_fault : fault_of operation old.state old.surface ≡ None
  pub state : new.state ≡ next operation old.state
  pub needs : new.needs ≡ greater_needs old.needs (needs_of operation old.state)

-- the drawing of a draw, with the current tools
abbrev pub drawing_with : MachineState → Draw → Drawing
drawing_with m draw = record { mark = mark_of m.painted draw; tools = tools_of m.state.dc }

-- a nib is that of a drawing on a surface, and within the limits of nibs
pub record IsNibOf (drawing : Drawing) (s : Surface) (nib : Nib) : Type 0 where
  pub is : nib ≡ drawing_nib drawing s
  pub allowed : IsNib nib

-- the nib of a draw is that of its drawing
abbrev pub HasNib : Surface → MachineState → Draw → Type 0
HasNib s m draw = IsNibOf (drawing_with m draw) s draw.nib

-- what is drawn is the operation's drawing, with the pieces to be painted and the tools of the new state
abbrev pub IsDrawingOf : Operation → MachineState → MachineState → Option Draw → Type 0
IsDrawingOf operation old new draw = option_map (drawing_with new) draw ≡ drawing_of operation old.state

-- the pieces to be painted define the figures of the painted path; there are none for any other drawing
abbrev pub BorrowsFor : Bool → Path → List Piece → Type 0
BorrowsFor true path pieces = figures_to_paint path ≡ Some (all_figures (figures_of pieces))
BorrowsFor false path pieces = pieces ≡ []

abbrev pub BorrowsPainted : MachineState → Option Draw → MachineState → Type 0
BorrowsPainted old draw new = BorrowsFor (paints_path draw) old.state.path new.painted

-- the operation is a save, and the capacity is too small for one more state
pub record LacksDepth (operation : Operation) (m : MachineState) : Type 0 where
  pub saves : operation ≡ save
  pub full : m.capacity.depth ≤ length m.state.saved

-- the operation creates an object, and the capacity is too small for its index
pub record LacksSlot (operation : Operation) (m : MachineState) : Type 0 where
  pub at : Option ℕ
  pub object : ObjectValue
  pub creates : operation ≡ create at object
  pub full : m.capacity.slots ≤ created_index m.state.table_kind at m.state.slots

-- the operation adds to a path, and the capacity is too small for its pieces
pub record LacksPieces (operation : Operation) (m : MachineState) : Type 0 where
  pub adds : piece_count m.state.path < piece_count (next operation m.state).path
  pub full : m.capacity.pieces < piece_count (next operation m.state).path

-- an allocation failed: the operation has no fault, but the capacity wasn't enough for it
pub record WantsCapacity (operation : Operation) (m : MachineState) (fault : Fault) : Type 0 where
  pub no_fault : fault_of operation m.state m.surface ≡ None
  pub memory : fault ≡ OutOfMemory
  pub lacks : LacksDepth operation m ⊎ (LacksSlot operation m ⊎ LacksPieces operation m)

-- the capacity is enough for the most saved states, for each index, and for the most pieces
pub record HasFullCapacity (m : MachineState) : Type 0 where
  pub depth : depth_limit ≤ m.capacity.depth
  pub slots : index_bound m.state.table_kind ≤ m.capacity.slots
  pub pieces : 2 ^ 16 ≤ m.capacity.pieces

-- an operation fails: by its fault, or because an allocation failed
abbrev pub RejectsStep : Operation → MachineState → Fault → Type 0
RejectsStep operation m fault = option_map Record (fault_of operation m.state m.surface) ≡ Some fault ⊎ WantsCapacity operation m fault

-- the box is the extent of what an operation places on the plane
abbrev pub IsExtentOf : Operation → MachineState → Option Rect → Type 0
IsExtentOf operation m extent = IsExtent extent (plane_points operation m.state)

-- the results of a step: its drawing, if it draws, and the extent of what it places on the plane
pub record Outcome : Type 0 where
  pub draw : Option Draw
  pub extent : Option Rect

-- an operation was played: the state is the next one, and its drawing and its extent are returned
pub record HasPlayed (operation : Operation) (old new : MachineState) (reported : Outcome) : Type 0 where
  pub stepped : HasStepped operation old new
  pub drawn : IsDrawingOf operation old new reported.draw
  pub placed : IfSome reported.draw (IsPlacedDraw old.surface new.painted)
  pub nib : IfSome reported.draw (HasNib old.surface new)
  pub extent : IsExtentOf operation old reported.extent
  pub figures : paints_path reported.draw ≡ true → BorrowsFor true old.state.path new.painted

-- an operation failed, and nothing has changed
pub record HasRejected (operation : Operation) (old new : MachineState) (fault : Fault) : Type 0 where
  pub rejected : RejectsStep operation old fault
  pub kept : IsUnchanged old new

-- an operation was played, or it failed
abbrev pub Plays : Operation → MachineState → Result Outcome Fault → MachineState → Type 0
Plays operation old (Ok reported) new = HasPlayed operation old new reported
Plays operation old (Err fault) new = HasRejected operation old new fault

-- the results of a step that returns the extent and writes the drawing to a variable
abbrev pub outcome : Result (Option Rect) Fault → Option Draw → Result Outcome Fault
outcome (Ok extent) draw = Ok (record { draw = draw; extent = extent })
outcome (Err fault) draw = Err fault

-- the results of a step that returns the extent and draws nothing
abbrev pub undrawn : Result (Option Rect) Fault → Result Outcome Fault
undrawn result = outcome result None

-- a step returned this extent, and drew nothing
abbrev pub ReportsUndrawn : Result (Option Rect) Fault → Result (Option Rect) Fault → Option Draw → Type 0
ReportsUndrawn answer result draw =
    (operation : Operation) (old new : MachineState) → Plays operation old (undrawn answer) new → Plays operation old (outcome result draw) new

-- the operation that paints a path in this way
abbrev pub painting_operation : Painting → Operation
painting_operation Fill = fill_path
painting_operation Stroke = stroke_path
painting_operation StrokeAndFill = stroke_and_fill_path
