-- The answer of a check, and what an accepted certificate promises.
use Rattle.std.specs.Prelude.{◌≡◌, ◌≤◌, ◌↔◌, ℕ, Bool, ◌&&◌, nat_le, if◌then◌else◌, List, length, Option, Some, None, Result, Ok, Err}
use Rattle.mapping.specs.Image.{Image}
use Rattle.mapping.specs.Surface.{Surface}
use Rattle.draw_ops.specs.Content.{Content}
use Rattle.draw_ops.specs.ExactlyOne.{ExactlyOne}
use Rattle.draw_ops.specs.declared.fault.Fault.{Fault}
use Rattle.draw_ops.specs.declared.fault.Fault.TheVariants.{BudgetTooSmall, NeedTooSmall, Record}
use Rattle.draw_ops.specs.declared.rules.Rules.{Rules}
use Rattle.meta_headers.specs.Headers.{OpenedValue}
use Rattle.meta_headers.specs.Opening.{HasContentOf, record_bytes, surface_for}
use Rattle.meta_headers.specs.OpeningRules.{opened_by}
use Rattle.dc_stack.specs.State.{start_of}
use Rattle.dc_stack.specs.declared.needs.Needs.{Needs}
use Rattle.preflight_cert.specs.After.{file_needs, file_notes, file_uses}
use Rattle.preflight_cert.specs.CertificateReading.{CertificateValue, read_certificate, rules_in}
use Rattle.preflight_cert.specs.Checked.{check_of}
use Rattle.preflight_cert.specs.Drawings.{drawings_of}
use Rattle.preflight_cert.specs.Entries.{AreCovered, budget_of}
use Rattle.preflight_cert.specs.NeedLaws.{AreWithin}
use Rattle.preflight_cert.specs.Run.{Run, RunWrites, rejected, shown}
use Rattle.preflight_cert.specs.Stop.{Stop, stop_of}
use Rattle.preflight_cert.specs.declared.refusal.Refusal.{Refusal}
use Rattle.preflight_cert.specs.declared.uses.Uses.{Uses}

-- the surface of a certificate's bound, with a file's frame
abbrev pub bound_of : OpenedValue → CertificateValue → Surface
bound_of o c = surface_for o c.max_width c.max_height

-- the most pixels that the drawings of a file's records write, by a certificate's entries at its bound
abbrev pub file_budget : Content → OpenedValue → CertificateValue → ℕ
file_budget content o c = budget_of (drawings_of content.steps (start_of o)) c.entries (bound_of o c)

-- A certificate fits a file's records: they have no fault at the bound, its entries cover their drawings one by one,
-- and its needs and writes are at least theirs.
pub record Fits (c : CertificateValue) (o : OpenedValue) (content : Content) : Type 0 where
  pub unstopped : stop_of content (start_of o) (bound_of o c) ≡ None
  pub covered : AreCovered (drawings_of content.steps (start_of o)) c.entries (bound_of o c)
  pub needs : AreWithin (file_needs content o) c.needs
  pub budget : file_budget content o c ≤ c.writes

-- an answer: accepted, or rejected by a fault, in a record or in none
pub data Answer : Type 0 where
  accepted : Answer
  rejects : Option ℕ → Fault → Answer

-- whether needs are at most others
abbrev pub are_within : Needs → Needs → Bool
are_within needs others =
    nat_le needs.depth others.depth && nat_le needs.slots others.slots && nat_le needs.edges others.edges && nat_le needs.pieces others.pieces

-- the fault of a certificate's totals: a need, or else the writes
abbrev pub total_fault : Needs → ℕ → CertificateValue → Option Fault
total_fault needs budget c =
    if are_within needs c.needs then (if nat_le budget c.writes then None else Some BudgetTooSmall) else Some NeedTooSmall

-- the answer from where the steps and entries stop, or else from the fault of the totals
abbrev pub answer_from : Option Stop → Option Fault → Answer
answer_from (Some stop) total = rejects (Some stop.number) (Record stop.fault)
answer_from None (Some fault) = rejects None fault
answer_from None None = accepted

-- the answer to a certificate for a file's records
abbrev pub answer_to : Content → OpenedValue → CertificateValue → Answer
answer_to content o c =
    answer_from (check_of content (start_of o) (bound_of o c) c.entries)
    (total_fault (file_needs content o) (file_budget content o c) c)

-- the records of an opened file have a content with this answer
pub record RecordsAnswer (o : OpenedValue) (records : List ℕ) (c : CertificateValue) (answer : Answer) : Type 0 where
  pub content : Content
  pub of_records : HasContentOf o.format records content
  pub answers : answer ≡ answer_to content o c

-- the answer to the bytes of a certificate: its own fault comes first
abbrev pub AnswersRead : Result CertificateValue Fault → OpenedValue → List ℕ → Answer → Type 0
AnswersRead (Err fault) o records answer = answer ≡ rejects None fault
AnswersRead (Ok c) o records answer = RecordsAnswer o records c answer

-- the answer to a file and the bytes of a certificate: a fault of opening comes first
abbrev pub AnswersOpened : Result OpenedValue Fault → List ℕ → List ℕ → Answer → Type 0
AnswersOpened (Err fault) file certificate answer = answer ≡ rejects None fault
AnswersOpened (Ok o) file certificate answer = AnswersRead (read_certificate certificate) o (record_bytes o.format file) answer

-- this is the answer to a file and a certificate, under the rules in that certificate
abbrev pub IsAnswer : List ℕ → List ℕ → Answer → Type 0
IsAnswer file certificate answer = AnswersOpened (opened_by (rules_in certificate) file) file certificate answer

-- the answer to a file and a certificate is this rejection
abbrev pub IsRejectedWith : List ℕ → List ℕ → Refusal → Type 0
IsRejectedWith file certificate r = IsAnswer file certificate (rejects r.number r.fault)

-- the certificate is accepted for any content that the records of an opened file have
abbrev pub IsCleared : OpenedValue → List ℕ → CertificateValue → Type 0
IsCleared o records c = (content : Content) → HasContentOf o.format records content → accepted ≡ answer_to content o c

-- for any content that the records of an opened file have, these are the number of records, the number of notes of each
-- kind, and how often what the rules allow is used
pub record CountsRecords (o : OpenedValue) (records : List ℕ) (count : ℕ) (noted : List ℕ) (used : Uses) : Type 0 where
  pub all : (content : Content) → HasContentOf o.format records content → count ≡ length content.steps
  pub notes : (content : Content) → HasContentOf o.format records content → noted ≡ file_notes content o
  pub uses : (content : Content) → HasContentOf o.format records content → used ≡ file_uses content o

-- a run shows some image
pub record Shows (rules : Rules) (file : List ℕ) (width height : ℕ) (image : Image) : Type 0 where
  pub after : Image
  pub ends : Run rules file width height image (shown after)

-- On each surface of at most this size, and over each image, the run of a file under rules has no fault, and it writes at
-- most this number of pixels.
pub record Sound (rules : Rules) (file : List ℕ) (max_width max_height most : ℕ) : Type 0 where
  pub shows : (width height : ℕ) (image : Image) → width ≤ max_width → height ≤ max_height → Shows rules file width height image
  pub faultless :
      (width height : ℕ) (image : Image) (number : Option ℕ) (fault : Fault) → width ≤ max_width → height ≤ max_height
      → Run rules file width height image (rejected number fault) → ⊥
  pub few : (width height writes : ℕ) → width ≤ max_width → height ≤ max_height → RunWrites rules file width height writes → writes ≤ most

-- There is exactly one answer. Records are accepted exactly if the certificate fits them, and then the file is sound
-- within its bound and writes.
pub record AnswerLaws : Type 0 where
  pub one : (file certificate : List ℕ) → ExactlyOne (IsAnswer file certificate)
  pub fits : (content : Content) (o : OpenedValue) (c : CertificateValue) → (accepted ≡ answer_to content o c) ↔ Fits c o content
  pub sound :
      (file bytes : List ℕ) (o : OpenedValue) (c : CertificateValue) → opened_by (rules_in bytes) file ≡ Ok o
      → read_certificate bytes ≡ Ok c → IsAnswer file bytes accepted → Sound (rules_in bytes) file c.max_width c.max_height c.writes
