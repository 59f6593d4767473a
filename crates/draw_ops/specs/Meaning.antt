-- What a record means: an operation with notes, or a fault.
use Rattle.std.specs.Prelude.{ℕ, Bool, true, false, ◌==◌, List, [], ◌∷◌, Result}
use Rattle.draw_ops.specs.Content.{StepValue}
use Rattle.draw_ops.specs.NoteCounts.{no_notes}
use Rattle.draw_ops.specs.NoteKinds.{noted}
use Rattle.draw_ops.specs.Operation.{Operation}
use Rattle.draw_ops.specs.Records.{Framing, Record}
use Rattle.draw_ops.specs.Results.{result_map}
use Rattle.draw_ops.specs.declared.record_fault.RecordFault.{RecordFault}
use Rattle.draw_ops.specs.declared.note.Note.{Note}
use Rattle.draw_ops.specs.declared.note.Note.TheVariants.{AfterEnd}

-- an operation, and its notes: for each kind 1 or 0
pub record DecodedValue : Type 0 where
  pub operation : Operation
  pub notes : List ℕ

-- what the record with a number in the file means
abbrev pub Meaning : Type 0
Meaning = ℕ → Record → Result DecodedValue RecordFault

-- the notes of a record; for the end record they include whether bytes follow it
abbrev pub end_notes : Bool → List ℕ → List ℕ → List ℕ
end_notes false after notes = notes
end_notes true [] notes = notes
end_notes true (byte ∷ bytes) notes = noted notes AfterEnd

-- the step of the record with this number
abbrev pub step_decoded : Bool → List ℕ → ℕ → DecodedValue → StepValue
step_decoded is_last after number decoded = record { number = number; operation = decoded.operation; notes = end_notes is_last after decoded.notes }

-- the step of a record, or its fault; these bytes follow the end record
abbrev pub step_of : Framing → Meaning → List ℕ → ℕ → Record → Result StepValue RecordFault
step_of f meaning after number r = result_map (step_decoded (r.kind == f.end_kind) after number) (meaning number r)

-- an operation with one note
abbrev pub noting : Note → Operation → DecodedValue
noting note operation = record { operation = operation; notes = noted no_notes note }

-- an operation without notes
abbrev pub unnoted : Operation → DecodedValue
unnoted operation = record { operation = operation; notes = no_notes }

-- an operation without notes, made from a value that may be a fault
abbrev pub plain : {T : Type 0} → (T → Operation) → Result T RecordFault → Result DecodedValue RecordFault
plain make value = result_map (λ x. unnoted (make x)) value
