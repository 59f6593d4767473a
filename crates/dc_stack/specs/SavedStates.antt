-- Saving the state and restoring a saved one ([MS-WMF] 2.3.5.10 and 2.3.5.11, [MS-EMF] 2.3.11).
use Rattle.std.specs.Prelude.{ℕ, zero, suc, ◌-◌, ℤ, pos, negsuc, if◌then◌else◌, nat_lt, [], ◌∷◌, ◌++◌, length, take, Option, Some, None, slice_index_or}
use Rattle.draw_ops.specs.declared.record_fault.RecordFault.{RecordFault}
use Rattle.draw_ops.specs.declared.record_fault.RecordFault.TheVariants.{DepthLimit, NoSavedState}
use Rattle.dc_stack.specs.State.{State}

-- the most saved states at a time
abbrev pub depth_limit : ℕ
depth_limit = 256

-- the fault of saving if there are as many saved states as allowed
abbrev pub save_fault : State → Option RecordFault
save_fault state = if nat_lt (length state.saved) depth_limit then None else Some DepthLimit

-- the state with one more saved state, a copy of what drawings depend on, as the newest
abbrev pub after_saving : State → State
after_saving state = record {
  dc = state.dc;
  slots = state.slots;
  table_kind = state.table_kind;
  saved = state.saved ++ state.dc ∷ [];
  path = state.path;
  rules = state.rules;
  held_deletions = state.held_deletions;
}

-- The position, among some saved states, that a number names. A positive number counts from the oldest, which is 1, and
-- a negative one from the newest, which is -1.
abbrev pub saved_place : ℤ → ℕ → Option ℕ
saved_place (pos zero) count = None
saved_place (pos (suc n)) count = if nat_lt n count then Some n else None
saved_place (negsuc n) count = if nat_lt n count then Some (count - suc n) else None

-- the fault of restoring if no saved state has the position
abbrev pub restore_fault : Option ℕ → Option RecordFault
restore_fault None = Some NoSavedState
restore_fault (Some place) = None

-- the state after the saved state at a position is restored; it and all newer ones are removed, and objects and path
-- are unchanged
abbrev pub after_restoring : Option ℕ → State → State
after_restoring None state = state
after_restoring (Some place) state = record {
  dc = slice_index_or state.saved place state.dc;
  slots = state.slots;
  table_kind = state.table_kind;
  saved = take place state.saved;
  path = state.path;
  rules = state.rules;
  held_deletions = state.held_deletions;
}
