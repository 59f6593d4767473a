-- What is counted over the records of a file.
use Rattle.std.specs.Prelude.{ℕ, suc, Bool, List, [], ◌∷◌, ◌++◌, Option, Some, None, Result, Ok, Err}
use Rattle.draw_ops.specs.Content.{StepValue}
use Rattle.draw_ops.specs.NoteCounts.{added_notes, no_notes}
use Rattle.draw_ops.specs.Records.{Framed, Record as RawRecord}
use Rattle.draw_ops.specs.declared.fault.Fault.{Fault}
use Rattle.draw_ops.specs.declared.fault.Fault.TheVariants.{Record}
use Rattle.draw_ops.specs.declared.record_fault.RecordFault.{RecordFault}
use Rattle.draw_ops.specs.declared.rules.Rules.{Rules}
use Rattle.meta_headers.specs.Formats.{format_of}
use Rattle.meta_headers.specs.Headers.{OpenedValue}
use Rattle.meta_headers.specs.Opening.{opened}
use Rattle.meta_headers.specs.declared.opened.FileFormat.{FileFormat}
use Rattle.listing.specs.DryRunState.{DryRunState, after_record, dry_run_state_of, fault_in_runs}
use Rattle.listing.specs.Listing.{framed_records, is_end, step_in}

-- the number of records, the number of notes of each kind, and the faults in order
pub record TotalsValue : Type 0 where
  pub records : ℕ
  pub notes : List ℕ
  pub faults : List Fault

-- the fault that is found in a record: that of its meaning, or else the one that runs have in it
abbrev pub found_fault : Result StepValue RecordFault → Option RecordFault → Option RecordFault
found_fault (Err fault) run = Some fault
found_fault (Ok step) run = run

-- the counts of notes, with those of a record
abbrev pub with_notes : List ℕ → Result StepValue RecordFault → List ℕ
with_notes counts (Err fault) = counts
with_notes counts (Ok step) = added_notes counts step.notes

-- the faults, and one more of a record if there is one
abbrev pub with_fault : List Fault → Option RecordFault → List Fault
with_fault faults None = faults
with_fault faults (Some fault) = faults ++ Record fault ∷ []

-- the totals with one more record, which is the end record or not
abbrev pub with_record : Bool → Option DryRunState → Result StepValue RecordFault → TotalsValue → TotalsValue
with_record is_end state decoded totals = record {
  records = suc totals.records;
  notes = with_notes totals.notes decoded;
  faults = with_fault totals.faults (found_fault decoded (fault_in_runs is_end state decoded));
}

-- the totals with the fault by which the records break, if they break
abbrev pub with_break : Option RecordFault → TotalsValue → TotalsValue
with_break fault totals = record totals { faults = with_fault totals.faults fault }

-- The totals after these records, and after the fault by which they break. What was counted before is given, and so is
-- what determines the faults of the first record.
abbrev pub totals_after : FileFormat → Option DryRunState → List ℕ → List RawRecord → Option RecordFault → TotalsValue → TotalsValue
totals_after format state after [] fault totals = with_break fault totals
totals_after format state after (r ∷ rs) fault totals =
    totals_after format (after_record state (step_in format after totals.records r)) after rs fault (with_record (is_end format r) state (step_in format after totals.records r) totals)

-- the totals after framed records
abbrev pub totals_after_framed : FileFormat → Option DryRunState → Framed → TotalsValue → TotalsValue
totals_after_framed format state framed totals = totals_after format state framed.after framed.records framed.fault totals

-- before the first record: the notes of the headers, or their fault
abbrev pub start_totals : Result OpenedValue Fault → TotalsValue
start_totals (Err fault) = record { records = 0; notes = no_notes; faults = fault ∷ [] }
start_totals (Ok o) = record { records = 0; notes = o.notes; faults = [] }

-- the totals of a file of some format, under rules
abbrev pub totals_in : FileFormat → Rules → List ℕ → TotalsValue
totals_in format rules file = totals_after_framed format (dry_run_state_of rules file) (framed_records format file) (start_totals (opened file))

-- the totals of a file of this format; a file without one has no records
abbrev pub totals_if : Option FileFormat → Rules → List ℕ → TotalsValue
totals_if None rules file = start_totals (opened file)
totals_if (Some format) rules file = totals_in format rules file

-- The totals of a file under rules.
abbrev pub totals_of : Rules → List ℕ → TotalsValue
totals_of rules file = totals_if (format_of file) rules file
