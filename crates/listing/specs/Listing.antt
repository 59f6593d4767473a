-- The listing of a file's records.
use Rattle.std.specs.Prelude.{ℕ, suc, ◌+◌, Bool, ◌==◌, List, [], ◌∷◌, ◌++◌, length, codes, Option, Some, None, Result}
use Rattle.draw_ops.specs.Content.{StepValue}
use Rattle.draw_ops.specs.Framed.{framed_of}
use Rattle.draw_ops.specs.Meaning.{step_of}
use Rattle.draw_ops.specs.Records.{Framed, Record}
use Rattle.draw_ops.specs.declared.fault.Fault.TheVariants.{NotMetafile}
use Rattle.draw_ops.specs.declared.record_fault.RecordFault.{RecordFault}
use Rattle.draw_ops.specs.declared.rules.Rules.{Rules}
use Rattle.meta_headers.specs.Formats.{format_of}
use Rattle.listing.specs.Formats.{first_place}
use Rattle.meta_headers.specs.Opening.{framing_of, meaning_of, record_bytes}
use Rattle.meta_headers.specs.declared.opened.FileFormat.{FileFormat}
use Rattle.listing.specs.DryRunState.{DryRunState, after_record, fault_in_runs, dry_run_state_of}
use Rattle.listing.specs.Line.{fault_line, line_of, rejected_text}
use Rattle.listing.specs.declared.listing_end.ListingEnd.{ListingEnd}
use Rattle.listing.specs.declared.listing_end.ListingEnd.TheVariants.{Ended, Broken}

-- the last line, if the records break
abbrev pub last_line : ℕ → ℕ → Option RecordFault → List ℕ
last_line number place None = []
last_line number place (Some fault) = fault_line number place fault

-- the step of a record of a format, or the fault of its meaning; these bytes follow the end record
abbrev pub step_in : FileFormat → List ℕ → ℕ → Record → Result StepValue RecordFault
step_in format after number r = step_of (framing_of format) (meaning_of format) after number r

-- the record is the end record of its format
abbrev pub is_end : FileFormat → Record → Bool
is_end format r = r.kind == (framing_of format).end_kind

-- The lines of these records, and the last line after them. The first record has this number and this offset, and its
-- fault is determined by this.
abbrev pub lines_of : FileFormat → Option DryRunState → ℕ → ℕ → List ℕ → List Record → Option RecordFault → List ℕ
lines_of format dry_run_state number place after [] fault = last_line number place fault
lines_of format dry_run_state number place after (r ∷ rs) fault =
    line_of format (fault_in_runs (is_end format r) dry_run_state (step_in format after number r)) number place r (step_in format after number r)
    ++ lines_of format (after_record dry_run_state (step_in format after number r)) (suc number) (place + length r.bytes) after rs fault

-- the lines of framed records
abbrev pub lines_of_framed : FileFormat → Option DryRunState → ℕ → ℕ → Framed → List ℕ
lines_of_framed format dry_run_state number place framed = lines_of format dry_run_state number place framed.after framed.records framed.fault

-- the framed records of a file of some format
abbrev pub framed_records : FileFormat → List ℕ → Framed
framed_records format file = framed_of (framing_of format) (record_bytes format file)

-- the lines of a file of some format: one for each of its records
abbrev pub listing_in : FileFormat → Option DryRunState → List ℕ → List ℕ
listing_in format dry_run_state file = lines_of_framed format dry_run_state 0 (first_place format) (framed_records format file)

-- the line that says that a file doesn't begin like any metafile
abbrev pub no_format_line : List ℕ
no_format_line = codes "-\t-\t-\t-\t-\t" ++ rejected_text NotMetafile ++ codes "\n"

-- the lines of a file of this format, or the line that says that it has none
abbrev pub listing_if : Option FileFormat → Option DryRunState → List ℕ → List ℕ
listing_if None dry_run_state file = no_format_line
listing_if (Some format) dry_run_state file = listing_in format dry_run_state file

-- the listing of a file, by what determines the fault of its first record
abbrev pub listing_with : Option DryRunState → List ℕ → List ℕ
listing_with dry_run_state file = listing_if (format_of file) dry_run_state file

-- The listing of a file under rules.
abbrev pub listing_of : Rules → List ℕ → List ℕ
listing_of rules file = listing_with (dry_run_state_of rules file) file

-- the records end with an end record, or with a framing fault
abbrev pub listed_as : Option RecordFault → ListingEnd
listed_as None = Ended
listed_as (Some fault) = Broken

-- how framed records end
abbrev pub listed_by : Framed → ListingEnd
listed_by framed = listed_as framed.fault

-- how the records of a file of this format end; a file without a format has no end record
abbrev pub listed_if : Option FileFormat → List ℕ → ListingEnd
listed_if None file = Broken
listed_if (Some format) file = listed_by (framed_records format file)

-- how the records of a file end
abbrev pub listed_of : List ℕ → ListingEnd
listed_of file = listed_if (format_of file) file
