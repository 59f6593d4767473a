-- A walk over the records of a file, each with its offset.
use Rattle.std.specs.Prelude.{◌≡◌, suc, ◌+◌, [], length, Option, Some, None, Result, Ok, Err}
use Rattle.draw_ops.specs.Content.{StepValue}
use Rattle.draw_ops.specs.Framed.{broken, ahead}
use Rattle.draw_ops.specs.Meaning.{Meaning, step_of}
use Rattle.draw_ops.specs.RecordOf.{record_of}
use Rattle.draw_ops.specs.Records.{Framing}
use Rattle.listing.specs.WalkState.{Walk}
use Rattle.draw_ops.specs.declared.record_fault.RecordFault.{RecordFault}
use Rattle.listing.specs.declared.record_walk.PlacedRecord.{PlacedRecord}

-- the step of a record, or the fault of its meaning
abbrev pub placed_step : Framing → Meaning → PlacedRecord → Result StepValue RecordFault
placed_step f meaning placed = step_of f meaning placed.after.now placed.number (record_of placed.record)

-- the next record is returned with its number and its offset, and the walk continues after it
pub record GivesRecord (f : Framing) (old : Walk) (given : PlacedRecord) (new : Walk) : Type 0 where
  pub number : given.number ≡ old.number
  pub place : given.place ≡ old.place
  pub leading : old.framed ≡ ahead (record_of given.record) new.framed
  pub after_the_end : given.record.kind ≡ f.end_kind → given.after.now ≡ old.framed.after
  pub next_number : new.number ≡ suc old.number
  pub next_place : new.place ≡ old.place + length given.record.bytes.now

-- no record and no fault remains, and the walk doesn't change
pub record GivesNoRecord (old new : Walk) : Type 0 where
  pub records : old.framed.records ≡ []
  pub fault : old.framed.fault ≡ None
  pub stays : new ≡ old

-- the records break here by this fault, and the walk doesn't change
pub record GivesFault (old : Walk) (fault : RecordFault) (new : Walk) : Type 0 where
  pub broken_here : old.framed ≡ broken fault
  pub stays : new ≡ old

-- the result of a call of a walk
abbrev pub GivesNext : Framing → Walk → Result (Option PlacedRecord) RecordFault → Walk → Type 0
GivesNext f old (Ok (Some given)) new = GivesRecord f old given new
GivesNext f old (Ok None) new = GivesNoRecord old new
GivesNext f old (Err fault) new = GivesFault old fault new
