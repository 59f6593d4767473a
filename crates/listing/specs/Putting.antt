-- What is written for the next record of a walk.
use Rattle.std.specs.Prelude.{◌≡◌, ◌<◌, ℕ, List, ◌++◌, length, Option, Some, None, Result}
use Rattle.draw_ops.specs.Content.{StepValue}
use Rattle.draw_ops.specs.RecordOf.{record_of}
use Rattle.draw_ops.specs.declared.record_fault.RecordFault.{RecordFault}
use Rattle.listing.specs.WalkState.{Walk}
use Rattle.meta_headers.specs.declared.opened.FileFormat.{FileFormat}
use Rattle.listing.specs.DryRunState.{DryRunState}
use Rattle.listing.specs.Line.{line_of}
use Rattle.listing.specs.Listing.{lines_of_framed, listed_by, step_in}
use Rattle.listing.specs.declared.listing_end.ListingEnd.{ListingEnd}
use Rattle.listing.specs.declared.record_walk.PlacedRecord.{PlacedRecord}

-- the step of a record from a walk, or the fault of its meaning
abbrev pub placed_step_in : FileFormat → PlacedRecord → Result StepValue RecordFault
placed_step_in format given = step_in format given.after.now given.number (record_of given.record)

-- the line of a record from a walk
abbrev pub placed_line : FileFormat → Option RecordFault → PlacedRecord → Result StepValue RecordFault → List ℕ
placed_line format run given decoded = line_of format run given.number given.place (record_of given.record) decoded

-- the progress of a listing: the records that remain in a walk, and what determines the fault of the next one
pub record Coming : Type 0 where
  pub walk : Walk
  pub dry_run_state : Option DryRunState

abbrev pub coming : Walk → Option DryRunState → Coming
coming walk dry_run_state = record { walk = walk; dry_run_state = dry_run_state }

-- the lines of the remaining records
abbrev pub listing_left : FileFormat → Coming → List ℕ
listing_left format coming = lines_of_framed format coming.dry_run_state coming.walk.number coming.walk.place coming.walk.framed

-- a line was written, the others remain, and the records end as before
pub record PutsLine (format : FileFormat) (old : List ℕ) (before : Coming) (new : List ℕ) (after : Coming) : Type 0 where
  pub put : old ++ listing_left format before ≡ new ++ listing_left format after
  pub fewer : length after.walk.framed.records < length before.walk.framed.records
  pub end : listed_by after.walk.framed ≡ listed_by before.walk.framed

-- everything that remained was written, and the records end in this way
pub record PutsRest (format : FileFormat) (old : List ℕ) (before : Coming) (listed : ListingEnd) (new : List ℕ) : Type 0 where
  pub put : new ≡ old ++ listing_left format before
  pub end : listed ≡ listed_by before.walk.framed

-- a line was written, or everything that remained
abbrev pub PutsNext : FileFormat → List ℕ → Coming → Option ListingEnd → List ℕ → Coming → Type 0
PutsNext format old before None new after = PutsLine format old before new after
PutsNext format old before (Some listed) new after = PutsRest format old before listed new
