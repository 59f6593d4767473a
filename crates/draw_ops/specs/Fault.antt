-- How a fault is shown besides its row in the table.
use Rattle.std.specs.Prelude.{ℕ, List, [], ◌++◌, Option, Some, None, decimal, codes}
use Rattle.draw_ops.specs.FaultTable.{fault_row}
use Rattle.draw_ops.specs.declared.fault.Fault.{Fault}
use Rattle.draw_ops.specs.declared.fault.Fault.TheVariants.{Record}
use Rattle.draw_ops.specs.declared.record_fault.RecordFault.TheVariants.{UnknownRecord, Unsupported}

-- the kind of record, a function or a type, that a fault refers to, if any
abbrev pub record_kind_of : Fault → Option ℕ
record_kind_of (Record (UnknownRecord kind)) = Some kind
record_kind_of (Record (Unsupported kind)) = Some kind
record_kind_of _ = None

-- a space and the kind, if there is one
abbrev record_kind_text : Option ℕ → List ℕ
record_kind_text None = []
record_kind_text (Some kind) = codes " " ++ decimal kind

-- a fault's text: its name, followed by the record's kind, if any
abbrev pub text_of : Fault → List ℕ
text_of fault = (fault_row fault).name ++ record_kind_text (record_kind_of fault)

-- the fault lies in a record, so a rejection says in which one
abbrev pub IsInRecord : Fault → Type 0
IsInRecord (Record fault) = Unit {0}
IsInRecord _ = ⊥
