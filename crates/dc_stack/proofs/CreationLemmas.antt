-- A step that creates no object is rejected as its table says.
use Rattle.std.proofs.Common.{◌≡◌, ℕ, Option, Some, None, inl, inr, refl, ap, ◌∙◌}
use Rattle.std.specs.Option.{option_map, option_or}
use Rattle.draw_ops.specs.Objects.{ObjectValue}
use Rattle.draw_ops.specs.Operation.{create}
use Rattle.draw_ops.specs.declared.fault.Fault.{Fault}
use Rattle.draw_ops.specs.declared.fault.Fault.TheVariants.{Record}
use Rattle.draw_ops.specs.declared.record_fault.RecordFault.{RecordFault}
use Rattle.object_tables.specs.Table.{RejectsCreate, TableState, create_fault}
use Rattle.dc_stack.specs.MachineState.{MachineState, RejectsStep}

-- a creation has no fault by the surface
or_none : (fault : Option RecordFault) → option_or fault None ≡ fault
or_none None = refl
or_none (Some fault) = refl

-- the table of a machine
abbrev table_of : MachineState → TableState
table_of m = record { kind = m.state.table_kind; slots = m.state.slots; capacity = m.capacity.slots }

pub rejects_create : (at : Option ℕ) (object : ObjectValue) (m : MachineState) (fault : Fault) → RejectsCreate at (table_of m) fault → RejectsStep (create at object) m fault
rejects_create at object m fault h = elim h [
  | inl e ↦ inl (ap (option_map Record) (or_none (create_fault m.state.table_kind at m.state.slots)) ∙ e)
  | inr w ↦ inr (record {
    no_fault = or_none (create_fault m.state.table_kind at m.state.slots) ∙ w.no_fault;
    memory = w.memory;
    lacks = inr (inl (record { at = at; object = object; creates = refl; full = w.no_capacity }));
  })
]
