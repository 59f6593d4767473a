-- Deletions of objects that are selected, and of others.
use Rattle.std.specs.Prelude.{◌≡◌, ◌≢◌, ◌<◌, ◌+◌, ◌-◌, ◌^◌, ℕ, true, false, map, Some, None}
use Rattle.draw_ops.specs.Operation.{delete}
use Rattle.draw_ops.specs.RuleSets.{allows_held_deletion}
use Rattle.draw_ops.specs.declared.record_fault.RecordFault.TheVariants.{HeldObject}
use Rattle.mapping.specs.Surface.{Surface}
use Rattle.object_tables.specs.Slots.{is_taken, without_object}
use Rattle.dc_stack.specs.Next.{next}
use Rattle.dc_stack.specs.OperationFault.{fault_of}
use Rattle.dc_stack.specs.Selecting.{is_in_use}
use Rattle.dc_stack.specs.State.{DcValue, State, with_slots}

-- what drawings depend on, without the indexes of the selected objects
abbrev pub values_of : DcValue → DcValue
values_of dc = record {
  selected = record {
    pen = record { object = dc.selected.pen.object; index = None };
    brush = record { object = dc.selected.brush.object; index = None };
    font = None;
    palette = None;
  };
  modes = dc.modes;
  map = dc.map;
  position = dc.position;
  clip = dc.clip;
}

-- An object that is selected, now or in a saved state, can be deleted exactly if the rules allow that. Afterwards nothing
-- has its index selected, what was selected keeps its values, now and in each saved state, and the deletion is counted.
-- Other indexes stay selected. An object that isn't selected is only taken from the table.
pub record DeletionLaws : Type 0 where
  pub held :
      (index : ℕ) (state : State) (s : Surface) → allows_held_deletion state.rules ≡ false → is_taken index state.slots ≡ true
      → is_in_use index state ≡ true → fault_of (delete index) state s ≡ Some HeldObject
  pub allowed :
      (index : ℕ) (state : State) (s : Surface) → allows_held_deletion state.rules ≡ true → is_taken index state.slots ≡ true
      → fault_of (delete index) state s ≡ None
  pub let_go : (index : ℕ) (state : State) → is_in_use index (next (delete index) state) ≡ false
  pub others_stay :
      (index other : ℕ) (state : State) → other ≢ index → is_in_use other (next (delete index) state) ≡ is_in_use other state
  pub keeps_values : (index : ℕ) (state : State) → values_of (next (delete index) state).dc ≡ values_of state.dc
  pub keeps_saved : (index : ℕ) (state : State) → map values_of (next (delete index) state).saved ≡ map values_of state.saved
  pub removed : (index : ℕ) (state : State) → (next (delete index) state).slots ≡ without_object index state.slots
  pub counted :
      (index : ℕ) (state : State) → is_in_use index state ≡ true → state.held_deletions < 2 ^ 32 - 1
      → (next (delete index) state).held_deletions ≡ state.held_deletions + 1
  pub others :
      (index : ℕ) (state : State) → is_in_use index state ≡ false → next (delete index) state ≡ with_slots (without_object index state.slots) state
