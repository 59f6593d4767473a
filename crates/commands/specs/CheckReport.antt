-- The report of a check, as JSON.
use Rattle.std.specs.Prelude.{◌≡◌, ℕ, List, length, Option, Ok, codes, true, false}
use Rattle.serde_json.specs.Data.{Data, Members, boolean, member, no_members, object, put, string}
use Rattle.draw_ops.specs.Content.{Content}
use Rattle.draw_ops.specs.Fault.{record_kind_of}
use Rattle.draw_ops.specs.FaultTable.{fault_row}
use Rattle.draw_ops.specs.declared.fault.Fault.{Fault}
use Rattle.draw_ops.specs.declared.rules.Rules.{Rules}
use Rattle.dc_stack.specs.State.{start_of}
use Rattle.dc_stack.specs.declared.needs.Needs.{Needs}
use Rattle.meta_headers.specs.File.{IsFile}
use Rattle.meta_headers.specs.Formats.{format_name}
use Rattle.meta_headers.specs.Headers.{OpenedValue}
use Rattle.preflight_cert.specs.After.{file_notes, file_uses}
use Rattle.preflight_cert.specs.Answer.{IsAnswer, accepted, rejects}
use Rattle.preflight_cert.specs.CertificateReading.{CertificateValue, read_certificate, rules_in}
use Rattle.preflight_cert.specs.Drawings.{drawings_of}
use Rattle.preflight_cert.specs.declared.uses.Uses.{Uses}
use Rattle.report_parts.specs.Parts.{notes_data, pair, report_text, whole, whole_if}
use Rattle.report_parts.specs.Profile.{uses_data, with_allowed, with_profile}

-- the needs, by name
abbrev pub needs_data : Needs → Data
needs_data needs =
    object (member (codes "depth") (whole needs.depth) (member (codes "edges") (whole needs.edges)
    (member (codes "pieces") (whole needs.pieces) (member (codes "slots") (whole needs.slots) no_members))))

-- under the print profile two members more: the profile, and what a file uses of what the rules allow
abbrev pub with_used : Rules → Uses → Members → Members
with_used rules uses members = with_allowed rules (uses_data uses.held_deletion uses.emf_plus) (with_profile rules members)

-- the members of the report for a certificate that is accepted for a file, with the file's number of records and
-- drawings, its notes, and what it uses, by name
abbrev pub accepted_members : OpenedValue → CertificateValue → ℕ → ℕ → List ℕ → Uses → Members
accepted_members o c records drawings notes uses =
    with_used o.rules uses
    (put (codes "accepted") (boolean true)
    (put (codes "drawings") (whole drawings)
    (put (codes "format") (string (format_name o.format))
    (put (codes "frame") (pair o.frame_width o.frame_height)
    (put (codes "max") (pair c.max_width c.max_height)
    (put (codes "needs") (needs_data c.needs)
    (put (codes "notes") (notes_data notes)
    (put (codes "records") (whole records)
    (put (codes "writes") (whole c.writes) no_members)))))))))

-- the members of the report for a rejection: the code and name of the fault, the kind of record that it refers to, and
-- the number of the record that it is in
abbrev pub rejected_members : Option ℕ → Fault → Members
rejected_members record_number fault =
    put (codes "accepted") (boolean false)
    (put (codes "code") (whole (fault_row fault).code)
    (put (codes "fault") (string (fault_row fault).name)
    (put (codes "number") (whole_if (record_kind_of fault))
    (put (codes "record") (whole_if record_number) no_members))))

-- the certificate is accepted for the file, and these are the members of the report of that
pub record AcceptsWith (file certificate : List ℕ) (members : Members) : Type 0 where
  pub accepted : IsAnswer file certificate accepted
  pub headers : OpenedValue
  pub content : Content
  pub of_file : IsFile (rules_in certificate) file headers content
  pub value : CertificateValue
  pub read : read_certificate certificate ≡ Ok value
  pub are :
      members
      ≡ accepted_members headers value (length content.steps) (length (drawings_of content.steps (start_of headers))) (file_notes content headers)
      (file_uses content headers)

-- the certificate is accepted for the file, and the text is the report of that
pub record ReportsAccepted (file certificate text : List ℕ) : Type 0 where
  pub members : Members
  pub accepts : AcceptsWith file certificate members
  pub is_text : text ≡ report_text (object members)

-- the pair of file and certificate is rejected, and the text is the report of that
pub record ReportsRejected (file certificate text : List ℕ) : Type 0 where
  pub in_record : Option ℕ
  pub fault : Fault
  pub rejected : IsAnswer file certificate (rejects in_record fault)
  pub is_text : text ≡ report_text (object (rejected_members in_record fault))
