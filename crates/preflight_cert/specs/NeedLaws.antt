-- Capacity for needs.
use Rattle.std.specs.Prelude.{◌≡◌, ◌≤◌, List, None}
use Rattle.mapping.specs.Surface.{Surface}
use Rattle.draw_ops.specs.Content.{Content, StepValue}
use Rattle.draw_ops.specs.Operation.{Operation}
use Rattle.draw_ops.specs.declared.fault.Fault.{Fault}
use Rattle.meta_headers.specs.Headers.{OpenedValue}
use Rattle.object_tables.specs.Table.{TableKind, index_bound, table_kind_of}
use Rattle.dc_stack.specs.Drawing.{drawing_edges, drawing_of, edge_limit}
use Rattle.dc_stack.specs.MachineState.{HasFullCapacity, MachineState, WantsCapacity}
use Rattle.dc_stack.specs.Needs.{needs_of}
use Rattle.dc_stack.specs.Path.{piece_limit}
use Rattle.dc_stack.specs.SavedStates.{depth_limit}
use Rattle.dc_stack.specs.State.{State, start_of}
use Rattle.dc_stack.specs.declared.needs.Needs.{Needs}
use Rattle.preflight_cert.specs.After.{file_needs, needs_after}
use Rattle.preflight_cert.specs.Stop.{stop_of}

-- needs are at most these
pub record AreWithin (needs others : Needs) : Type 0 where
  pub depth : needs.depth ≤ others.depth
  pub slots : needs.slots ≤ others.slots
  pub edges : needs.edges ≤ others.edges
  pub pieces : needs.pieces ≤ others.pieces

-- a machine has the capacity for needs
pub record HasCapacityFor (needs : Needs) (m : MachineState) : Type 0 where
  pub depth : needs.depth ≤ m.capacity.depth
  pub slots : needs.slots ≤ m.capacity.slots
  pub pieces : needs.pieces ≤ m.capacity.pieces

-- the greatest needs of a file with a table of this kind
abbrev pub most_needs : TableKind → Needs
most_needs kind = record { depth = depth_limit; slots = index_bound kind; edges = edge_limit; pieces = piece_limit }

-- An operation within the capacity for its needs allocates no memory, and full capacity is enough for any operation. An
-- operation needs as many points as its drawing has. Earlier needs are within the needs of all steps, and the needs of
-- records without a fault are within those that any file can have.
pub record NeedLaws : Type 0 where
  pub enough :
      (operation : Operation) (m : MachineState) (fault : Fault)
      → HasCapacityFor (needs_of operation m.state) m → WantsCapacity operation m fault → ⊥
  pub full : (operation : Operation) (m : MachineState) (fault : Fault) → HasFullCapacity m → WantsCapacity operation m fault → ⊥
  pub edges : (operation : Operation) (state : State) → drawing_edges (drawing_of operation state) ≡ (needs_of operation state).edges
  pub before : (steps : List StepValue) (state : State) (needs : Needs) → AreWithin needs (needs_after steps state needs)
  pub limited :
      (content : Content) (o : OpenedValue) (s : Surface) → stop_of content (start_of o) s ≡ None
      → AreWithin (file_needs content o) (most_needs (table_kind_of o.handles))
