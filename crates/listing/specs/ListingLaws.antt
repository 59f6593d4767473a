-- What a listing says about the records in which runs of the file stop.
use Rattle.std.specs.Prelude.{◌≡◌, ◌≢◌, ◌⊎◌, ℕ, Bool, List, ◌++◌, length, codes, true, Option, Some, None}
use Rattle.std.specs.List.{All, flat_map}
use Rattle.mapping.specs.Image.{Image}
use Rattle.mapping.specs.Limits.{IsSurfaceSide}
use Rattle.mapping.specs.Surface.{Surface}
use Rattle.draw_ops.specs.Content.{StepValue}
use Rattle.draw_ops.specs.Operation.{Operation}
use Rattle.draw_ops.specs.Records.{Record}
use Rattle.draw_ops.specs.declared.fault.Fault.TheVariants.{Record as InRecord}
use Rattle.draw_ops.specs.declared.record_fault.RecordFault.{RecordFault}
use Rattle.draw_ops.specs.declared.rules.Rules.{Rules}
use Rattle.draw_ops.specs.declared.record_fault.RecordFault.TheVariants.{BoxTooSmall, NibTooSmall, NibTooWide, OffPlane, WrongEntry}
use Rattle.meta_headers.specs.Headers.{OpenedValue}
use Rattle.meta_headers.specs.declared.opened.FileFormat.{FileFormat}
use Rattle.dc_stack.specs.Next.{next}
use Rattle.dc_stack.specs.OperationFault.{fault_of}
use Rattle.dc_stack.specs.State.{State, start_of}
use Rattle.preflight_cert.specs.Answer.{IsAnswer, rejects}
use Rattle.preflight_cert.specs.CertificateReading.{rules_in}
use Rattle.preflight_cert.specs.Run.{Run, rejected}
use Rattle.preflight_cert.specs.TextLaws.{AreBytes}
use Rattle.listing.specs.FileRecords.{BreaksAt, HasRecord}
use Rattle.listing.specs.DryRunState.{DryRunState, PathLands, fault_met, is_painting, run_fault}
use Rattle.listing.specs.Line.{fault_line, head_of, rejected_text}
use Rattle.listing.specs.Listing.{listing_of}

-- lines, each with its line feed
abbrev pub text_of_lines : List (List ℕ) → List ℕ
text_of_lines lines = flat_map (λ (line : List ℕ). line ++ codes "\n") lines

-- the bytes contain no line feed
abbrev pub IsOneLine : List ℕ → Type 0
IsOneLine bytes = All (λ byte. byte ≢ 10) bytes

-- after this many lines, none of which contains a line feed, a text has this line, which is given with its line feed
pub record HasLine (text : List ℕ) (number : ℕ) (line : List ℕ) : Type 0 where
  pub before : List (List ℕ)
  pub count : length before ≡ number
  pub plain : All IsOneLine before
  pub after : List ℕ
  pub here : text ≡ text_of_lines before ++ line ++ after

-- the line of a record that is rejected with this fault
abbrev pub rejected_line : FileFormat → ℕ → ℕ → Record → RecordFault → List ℕ
rejected_line format number place r fault = head_of format number place r ++ rejected_text (InRecord fault) ++ codes "\n"

-- the line with this number says that the file's record with this number is rejected with this fault, and where it
-- begins
pub record ReportsRejected (rules : Rules) (file : List ℕ) (number : ℕ) (fault : RecordFault) : Type 0 where
  pub format : FileFormat
  pub place : ℕ
  pub r : Record
  pub its_own : HasRecord file format number place r
  pub line : HasLine (listing_of rules file) number (rejected_line format number place r fault)

-- the line with this number says that the file's records break there by this fault
pub record ReportsBreak (rules : Rules) (file : List ℕ) (number : ℕ) (fault : RecordFault) : Type 0 where
  pub format : FileFormat
  pub place : ℕ
  pub its_own : BreaksAt file format number place fault
  pub line : HasLine (listing_of rules file) number (fault_line number place fault)

-- the listing says that the record is rejected with this fault, or that the records break there by it
abbrev pub ReportsFault : Rules → List ℕ → ℕ → RecordFault → Type 0
ReportsFault rules file number fault = ReportsRejected rules file number fault ⊎ ReportsBreak rules file number fault

-- a run's nib is too wide in the record with this number, and its line says that it is off the plane, as it is on a
-- larger surface
pub record ReportsOffPlane (rules : Rules) (file : List ℕ) (number : ℕ) (fault : RecordFault) : Type 0 where
  pub too_wide : fault ≡ NibTooWide
  pub off : ReportsRejected rules file number OffPlane

-- the listing has a run's fault, or says that the record is off the plane instead of having a nib that is too wide
abbrev pub ReportsStop : Rules → List ℕ → ℕ → RecordFault → Type 0
ReportsStop rules file number fault = ReportsFault rules file number fault ⊎ ReportsOffPlane rules file number fault

-- Wherever a run of the file under rules stops in a record, on a surface of a valid size, the record's line under these
-- rules has the same fault; or the fault is a nib that is too wide, and the line says that the record is off the plane.
abbrev pub ReportsEachStop : List ℕ → Type 0
ReportsEachStop file =
    (rules : Rules) (width height : ℕ) (image : Image) (number : ℕ) (fault : RecordFault) → IsSurfaceSide width → IsSurfaceSide height
    → Run rules file width height image (rejected (Some number) (InRecord fault)) → ReportsStop rules file number fault

-- Wherever a certificate is rejected in a record of the file, the record's line under the certificate's rules has the
-- same fault, unless it is that of the certificate's own entry.
abbrev pub ReportsEachRefusal : List ℕ → Type 0
ReportsEachRefusal file =
    (certificate : List ℕ) (number : ℕ) (fault : RecordFault) → AreBytes certificate → fault ≢ WrongEntry → fault ≢ BoxTooSmall → fault ≢ NibTooSmall
    → IsAnswer file certificate (rejects (Some number) (InRecord fault)) → ReportsStop (rules_in certificate) file number fault

-- on a surface, the fault in runs is the operation's: the path's points land there at the start, and after each
-- operation without a fault
pub record MeetsFaults : Type 0 where
  pub at_start : (o : OpenedValue) (s : Surface) → PathLands (start_of o).path s
  pub onward :
      (operation : Operation) (state : State) (s : Surface) → PathLands state.path s → fault_of operation state s ≡ None
      → PathLands (next operation state).path s
  pub met : (operation : Operation) (state : State) (s : Surface) → PathLands state.path s → fault_met operation state s ≡ fault_of operation state s

-- no line says that the painting of a path is off the plane
abbrev pub NoPaintingIsOffPlane : Type 0
NoPaintingIsOffPlane =
    (is_end : Bool) (dry_run_state : Option DryRunState) (step : StepValue) → is_painting step.operation ≡ true
    → run_fault is_end dry_run_state step ≢ Some OffPlane

-- for each file the statements above hold, so that its listing has the faults of its runs
pub record ListingLaws : Type 0 where
  pub stops : (file : List ℕ) → ReportsEachStop file
  pub refusals : (file : List ℕ) → ReportsEachRefusal file
  pub runs : MeetsFaults
  pub paintings : NoPaintingIsOffPlane
