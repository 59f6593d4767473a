-- The line of a record.
use Rattle.std.specs.Prelude.{ℕ, ◌||◌, if◌then◌else◌, List, ◌++◌, length, codes, decimal, Option, Some, None, Result, Ok, Err}
use Rattle.draw_ops.specs.Content.{StepValue}
use Rattle.draw_ops.specs.FaultTable.{fault_row}
use Rattle.draw_ops.specs.NoteKinds.{is_noted}
use Rattle.draw_ops.specs.Records.{Record}
use Rattle.draw_ops.specs.declared.fault.Fault.{Fault}
use Rattle.draw_ops.specs.declared.fault.Fault.TheVariants.{Record as InRecord}
use Rattle.draw_ops.specs.declared.record_fault.RecordFault.{RecordFault}
use Rattle.draw_ops.specs.declared.note.Note.TheVariants.{EmfPlus, Skipped}
use Rattle.meta_headers.specs.declared.opened.FileFormat.{FileFormat}
use Rattle.meta_headers.specs.declared.opened.FileFormat.TheVariants.{Placeable, Plain, Emf}
use Rattle.listing.specs.Asked.{asked_text}
use Rattle.listing.specs.NoteTexts.{notes_text}
use Rattle.listing.specs.Parts.{four_digits}
use Rattle.listing.specs.RecordNames.{record_name}

-- a kind in its format's base: a function of WMF in four hexadecimal digits, a type of EMF in decimal
abbrev pub kind_text : FileFormat → ℕ → List ℕ
kind_text Placeable kind = codes "0x" ++ four_digits kind
kind_text Plain kind = codes "0x" ++ four_digits kind
kind_text Emf kind = decimal kind

-- a name, or a hyphen
abbrev pub text_or_hyphen : Option (List ℕ) → List ℕ
text_or_hyphen None = codes "-"
text_or_hyphen (Some name) = name

-- the standard's name of a kind, or a hyphen if it has none
abbrev pub kind_name : FileFormat → ℕ → List ℕ
kind_name format kind = text_or_hyphen (record_name format kind)

-- what the player does with a record that has no fault: `noted` if it is skipped or an EMF+ comment, otherwise `played`
abbrev pub action_text : List ℕ → List ℕ
action_text notes = if is_noted notes Skipped || is_noted notes EmfPlus then codes "noted" else codes "played"

-- the last two fields of a line for a rejected record: `rejected`, and the name of its fault
abbrev pub rejected_text : Fault → List ℕ
rejected_text fault = codes "refused\t" ++ (fault_row fault).name

-- the last two fields of a line for a step: the fault that runs have in the record, or else what is done with it, its
-- operation and its notes
abbrev pub step_text : Option RecordFault → StepValue → List ℕ
step_text (Some fault) step = rejected_text (InRecord fault)
step_text None step = action_text step.notes ++ codes "\t" ++ asked_text step.operation ++ notes_text step.notes

-- the last two fields of a line for a decoded record, or the fault of its meaning
abbrev pub decoded_text : Option RecordFault → Result StepValue RecordFault → List ℕ
decoded_text run (Err fault) = rejected_text (InRecord fault)
decoded_text run (Ok step) = step_text run step

-- The fields of a record that isn't decoded, each followed by a tab: its number, its offset in the file, its size in
-- bytes, its kind, and the standard's name.
abbrev pub head_of : FileFormat → ℕ → ℕ → Record → List ℕ
head_of format number place r =
    decimal number ++ codes "\t" ++ decimal place ++ codes "\t" ++ decimal (length r.bytes) ++ codes "\t" ++ kind_text format r.kind ++ codes "\t"
    ++ kind_name format r.kind ++ codes "\t"

-- The line of a record with this step, or fault of its meaning, and this fault in runs: its first fields, what is done
-- with it, and its operation or the name of its fault.
abbrev pub line_of : FileFormat → Option RecordFault → ℕ → ℕ → Record → Result StepValue RecordFault → List ℕ
line_of format run number place r decoded = head_of format number place r ++ decoded_text run decoded ++ codes "\n"

-- the line that says where the records break, and by which fault
abbrev pub fault_line : ℕ → ℕ → RecordFault → List ℕ
fault_line number place fault = decimal number ++ codes "\t" ++ decimal place ++ codes "\t-\t-\t-\t" ++ rejected_text (InRecord fault) ++ codes "\n"
