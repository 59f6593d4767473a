-- All numbers of a report are integers, and it has as many drawings as there are entries.
use Rattle.std.proofs.Common.{◌≡◌, ◌∙◌, ◌⊎◌, inl, inr, ap, subst, sym, Result, Ok, true, false, ℕ, List, [], ◌∷◌, length, Option, codes, refl}
use Rattle.serde_json.specs.Data.{boolean, no_members, object, put, string}
use Rattle.serde_json.specs.Written.{members_have_float}
use Rattle.mapping.specs.Surface.{Surface}
use Rattle.draw_ops.specs.declared.rules.Rules.{Rules}
use Rattle.draw_ops.specs.declared.fault.Fault.{Fault}
use Rattle.draw_ops.specs.declared.fault.Fault.TheVariants.{OutOfMemory}
use Rattle.dc_stack.specs.State.{start_of}
use Rattle.meta_headers.specs.File.{IsOpenedFrom}
use Rattle.meta_headers.specs.Headers.{OpenedValue}
use Rattle.meta_headers.specs.OpenedOf.{opened_of}
use Rattle.meta_headers.specs.Opening.{HasContentOf, record_bytes}
use Rattle.meta_headers.specs.OpeningRules.{opened_by}
use Rattle.preflight_cert.specs.After.{file_notes, file_uses}
use Rattle.preflight_cert.specs.Answer.{AnswerLaws, AnswersOpened, AnswersRead, CountsRecords, Fits, IsAnswer, RecordsAnswer, accepted, rejects}
use Rattle.preflight_cert.specs.CertificateOf.{certificate_of}
use Rattle.preflight_cert.specs.CertificateReading.{CertificateValue, read_certificate, rules_in}
use Rattle.preflight_cert.specs.Refusal.{IsWantOfMemory}
use Rattle.preflight_cert.specs.EntriesOf.{entries_of}
use Rattle.preflight_cert.specs.Drawings.{NumberedDrawing, drawings_of}
use Rattle.preflight_cert.specs.Entries.{AreCovered}
use Rattle.preflight_cert.specs.declared.certificate_entry.Entry.{Entry}
use Rattle.draw_ops.specs.Content.{Content}
use Rattle.draw_ops.specs.Fault.{record_kind_of}
use Rattle.draw_ops.specs.FaultTable.{fault_row}
use Rattle.preflight_cert.specs.declared.cleared.Cleared.{Cleared}
use Rattle.preflight_cert.specs.declared.refusal.Refusal.{Refusal}
use Rattle.preflight_cert.specs.declared.uses.Uses.{Uses}
use Rattle.meta_headers.specs.Formats.{format_name}
use Rattle.report_parts.specs.Parts.{notes_data, pair, report_text, whole, whole_if}
use Rattle.report_parts.specs.Profile.{uses_data, with_profile}
use Rattle.report_parts.specs.Whole.{allowed_whole, if_whole, notes_whole, profile_whole, put_whole, uses_whole}
use Rattle.commands.specs.CheckReport.{AcceptsWith, ReportsAccepted, ReportsRejected, accepted_members, needs_data, rejected_members}
use Rattle.commands.specs.ClearedFiles.{members_of}

accepted_whole : (o : OpenedValue) (c : CertificateValue) (records drawings : ℕ) (notes : List ℕ) (uses : Uses) → members_have_float (accepted_members o c records drawings notes uses) ≡ false
accepted_whole o c records drawings notes uses =
    let m0 = put (codes "writes") (whole c.writes) no_members in
    let e0 : members_have_float m0 ≡ false = put_whole (codes "writes") (whole c.writes) no_members refl refl in
    let m1 = put (codes "records") (whole records) m0 in
    let e1 : members_have_float m1 ≡ false = put_whole (codes "records") (whole records) m0 refl e0 in
    let m2 = put (codes "notes") (notes_data notes) m1 in
    let e2 : members_have_float m2 ≡ false = put_whole (codes "notes") (notes_data notes) m1 (notes_whole notes) e1 in
    let m3 = put (codes "needs") (needs_data c.needs) m2 in
    let e3 : members_have_float m3 ≡ false = put_whole (codes "needs") (needs_data c.needs) m2 refl e2 in
    let m4 = put (codes "max") (pair c.max_width c.max_height) m3 in
    let e4 : members_have_float m4 ≡ false = put_whole (codes "max") (pair c.max_width c.max_height) m3 refl e3 in
    let m5 = put (codes "frame") (pair o.frame_width o.frame_height) m4 in
    let e5 : members_have_float m5 ≡ false = put_whole (codes "frame") (pair o.frame_width o.frame_height) m4 refl e4 in
    let m6 = put (codes "format") (string (format_name o.format)) m5 in
    let e6 : members_have_float m6 ≡ false = put_whole (codes "format") (string (format_name o.format)) m5 refl e5 in
    let m7 = put (codes "drawings") (whole drawings) m6 in
    let e7 : members_have_float m7 ≡ false = put_whole (codes "drawings") (whole drawings) m6 refl e6 in
    let m8 = put (codes "accepted") (boolean true) m7 in
    let e8 : members_have_float m8 ≡ false = put_whole (codes "accepted") (boolean true) m7 refl e7 in
    let m9 = with_profile o.rules m8 in
    let e9 : members_have_float m9 ≡ false = profile_whole o.rules m8 e8 in
    allowed_whole o.rules (uses_data uses.held_deletion uses.emf_plus) m9 (uses_whole uses.held_deletion uses.emf_plus) e9

pub members_whole : (cleared : Cleared) → members_have_float (members_of cleared) ≡ false
members_whole cleared =
    accepted_whole (opened_of cleared.opened) (certificate_of cleared.certificate) cleared.records (length (entries_of cleared.certificate.entries)) cleared.notes.counts
    cleared.uses

pub rejected_whole : (number : Option ℕ) (fault : Fault) → members_have_float (rejected_members number fault) ≡ false
rejected_whole number fault =
    let m0 = put (codes "record") (whole_if number) no_members in
    let e0 : members_have_float m0 ≡ false = put_whole (codes "record") (whole_if number) no_members (if_whole number) refl in
    let m1 = put (codes "number") (whole_if (record_kind_of fault)) m0 in
    let e1 : members_have_float m1 ≡ false = put_whole (codes "number") (whole_if (record_kind_of fault)) m0 (if_whole (record_kind_of fault)) e0 in
    let m2 = put (codes "fault") (string (fault_row fault).name) m1 in
    let e2 : members_have_float m2 ≡ false = put_whole (codes "fault") (string (fault_row fault).name) m1 refl e1 in
    let m3 = put (codes "code") (whole (fault_row fault).code) m2 in
    let e3 : members_have_float m3 ≡ false = put_whole (codes "code") (whole (fault_row fault).code) m2 refl e2 in
    let m4 = put (codes "accepted") (boolean false) m3 in
    let e4 : members_have_float m4 ≡ false = put_whole (codes "accepted") (boolean false) m3 refl e3 in
    e4

-- there is an entry for each drawing
pub as_many : (s : Surface) (drawings : List NumberedDrawing) (entries : List Entry) → AreCovered drawings entries s → length entries ≡ length drawings
as_many s [] [] covered = refl
as_many s [] (entry ∷ entries) covered = absurd covered
as_many s (one ∷ later) [] covered = absurd covered
as_many s (one ∷ later) (entry ∷ entries) covered = let e = as_many s later entries covered.1 in rw e refl

-- the answer of a check is one of the possible answers
answered : (file bytes : List ℕ) (cleared : Cleared) → cleared.opened.rules ≡ rules_in bytes → IsAnswer file bytes accepted → IsOpenedFrom file cleared.opened
    → read_certificate bytes ≡ Ok (certificate_of cleared.certificate)
    → RecordsAnswer (opened_of cleared.opened) (record_bytes cleared.opened.format file) (certificate_of cleared.certificate) accepted
answered file bytes cleared rules accepts from read =
    let opens : AnswersRead (read_certificate bytes) (opened_of cleared.opened) (record_bytes cleared.opened.format file) accepted =
    subst (λ (r : Result OpenedValue Fault). AnswersOpened r file bytes accepted)
    (ap (λ (r : Rules). opened_by r file) (sym rules) ∙ from.opens) accepts in
    subst (λ (r : Result CertificateValue Fault). AnswersRead r (opened_of cleared.opened) (record_bytes cleared.opened.format file) accepted) read opens

same_members : (cleared : Cleared) (content : Content) → HasContentOf cleared.opened.format cleared.opened.records.now content
    → CountsRecords (opened_of cleared.opened) cleared.opened.records.now cleared.records cleared.notes.counts cleared.uses
    → Fits (certificate_of cleared.certificate) (opened_of cleared.opened) content
    → members_of cleared
    ≡ accepted_members (opened_of cleared.opened) (certificate_of cleared.certificate) (length content.steps)
    (length (drawings_of content.steps (start_of (opened_of cleared.opened)))) (file_notes content (opened_of cleared.opened)) (file_uses content (opened_of cleared.opened))
same_members cleared content has counts fits =
    let records = counts.all content has in
    let drawings = as_many _ _ _ fits.covered in
    let notes = counts.notes content has in
    let uses = counts.uses content has in
    rw (records, drawings, notes, uses) refl

-- what was accepted, and the members of its report, in terms of the file and the certificate
pub accepts_with : (file bytes : List ℕ) (cleared : Cleared) → AnswerLaws → cleared.opened.rules ≡ rules_in bytes → IsAnswer file bytes accepted → IsOpenedFrom file cleared.opened
    → read_certificate bytes ≡ Ok (certificate_of cleared.certificate)
    → CountsRecords (opened_of cleared.opened) cleared.opened.records.now cleared.records cleared.notes.counts cleared.uses
    → AcceptsWith file bytes (members_of cleared)
accepts_with file bytes cleared laws rules accepts from read counts =
    let answer = answered file bytes cleared rules accepts from read in
    let has : HasContentOf cleared.opened.format cleared.opened.records.now answer.content =
    subst (λ (records : List ℕ). HasContentOf cleared.opened.format records answer.content) (sym from.records) answer.of_records in
    let fits : Fits (certificate_of cleared.certificate) (opened_of cleared.opened) answer.content =
    (laws.fits answer.content (opened_of cleared.opened) (certificate_of cleared.certificate)).0 answer.answers in
    record {
      accepted = accepts;
      headers = opened_of cleared.opened;
      content = answer.content;
      of_file = record { opens = ap (λ (r : Rules). opened_by r file) (sym rules) ∙ from.opens; records = answer.of_records };
      value = certificate_of cleared.certificate;
      read = read;
      are = same_members cleared answer.content has counts fits;
    }

-- the same for the text of the report
pub reports : (file bytes : List ℕ) (cleared : Cleared) (text : List ℕ) → AnswerLaws → cleared.opened.rules ≡ rules_in bytes → IsAnswer file bytes accepted → IsOpenedFrom file cleared.opened
    → read_certificate bytes ≡ Ok (certificate_of cleared.certificate)
    → CountsRecords (opened_of cleared.opened) cleared.opened.records.now cleared.records cleared.notes.counts cleared.uses
    → text ≡ report_text (object (members_of cleared)) → ReportsAccepted file bytes text
reports file bytes cleared text laws rules accepts from read counts is =
    record { members = members_of cleared; accepts = accepts_with file bytes cleared laws rules accepts from read counts; is_text = is }

-- a rejection that isn't a failed allocation
pub refusal_reports : (file bytes : List ℕ) (r : Refusal) (text : List ℕ) → (IsAnswer file bytes (rejects r.number r.fault) ⊎ IsWantOfMemory r)
    → (r.fault ≡ OutOfMemory → ⊥) → text ≡ report_text (object (rejected_members r.number r.fault)) → ReportsRejected file bytes text
refusal_reports file bytes r text (inl rejected) other is = record { in_record = r.number; fault = r.fault; rejected = rejected; is_text = is }
refusal_reports file bytes r text (inr want) other is = absurd (other want.fault)
