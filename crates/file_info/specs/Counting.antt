-- What was counted of a file's records, up to some record.
use Rattle.std.specs.Prelude.{◌≡◌, ◌<◌, ◌≤◌, ℕ, suc, Bool, true, false, List, length, Option, Some, None, Result}
use Rattle.draw_ops.specs.Content.{StepValue}
use Rattle.draw_ops.specs.Records.{record_limit}
use Rattle.draw_ops.specs.declared.fault.Fault.{Fault}
use Rattle.draw_ops.specs.declared.fault.Fault.TheVariants.{Record}
use Rattle.draw_ops.specs.declared.record_fault.RecordFault.{RecordFault}
use Rattle.listing.specs.DryRunState.{DryRunState}
use Rattle.listing.specs.WalkState.{Walk}
use Rattle.meta_headers.specs.declared.opened.FileFormat.{FileFormat}
use Rattle.file_info.specs.FaultCounts.{CountsFaults, CountsOneMore}
use Rattle.file_info.specs.Totals.{TotalsValue, found_fault, totals_after_framed, with_notes}
use Rattle.file_info.specs.declared.fault_count.FaultCount.{FaultCount}
use Rattle.file_info.specs.declared.totals.Totals.{Totals}

-- these are the totals, with the faults counted
pub record HasTotals (totals : Totals) (value : TotalsValue) : Type 0 where
  pub records : totals.records ≡ value.records
  pub notes : totals.notes.counts ≡ value.notes
  pub faults : CountsFaults value.faults totals.faults

-- the progress of a count: the records that remain, what determines the fault of the next one, and what was counted
pub record Counted : Type 0 where
  pub state : Option DryRunState
  pub walk : Walk
  pub totals : Totals

abbrev pub tally : Option DryRunState → Walk → Totals → Counted
tally state walk totals = record { state = state; walk = walk; totals = totals }

-- the totals in the end are these, for the faults so far
pub record Leads (format : FileFormat) (here : Counted) (total : TotalsValue) : Type 0 where
  pub faults : List Fault
  pub number : here.totals.records ≡ here.walk.number
  pub within : here.walk.number ≤ record_limit
  pub few : length faults ≤ suc here.walk.number
  pub counts : CountsFaults faults here.totals.faults
  pub left :
      totals_after_framed format here.state here.walk.framed
      (record { records = here.totals.records; notes = here.totals.notes.counts; faults = faults })
      ≡ total

-- a record was counted, and what remains leads to the same totals
pub record CountsRecord (format : FileFormat) (old new : Counted) : Type 0 where
  pub fewer : length new.walk.framed.records < length old.walk.framed.records
  pub leads : (total : TotalsValue) → Leads format old total → Leads format new total

-- a record was counted, or nothing remains
abbrev pub CountsNext : FileFormat → Counted → Counted → Bool → Type 0
CountsNext format old new true = CountsRecord format old new
CountsNext format old new false = (total : TotalsValue) → Leads format old total → HasTotals new.totals total

-- the counts become those with one more fault, if there is one
abbrev pub CountsIfAny : List (ℕ × FaultCount) → Option RecordFault → List (ℕ × FaultCount) → Type 0
CountsIfAny old None new = new ≡ old
CountsIfAny old (Some fault) new = CountsOneMore old (Record fault) new

-- the notes of a record were counted, and the fault that is found in it, given the one that runs have
pub record AddsRecord (old : Totals) (decoded : Result StepValue RecordFault) (run : Option RecordFault) (new : Totals) : Type 0 where
  pub records : new.records ≡ old.records
  pub notes : new.notes.counts ≡ with_notes old.notes.counts decoded
  pub faults : CountsIfAny old.faults (found_fault decoded run) new.faults
