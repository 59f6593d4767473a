-- Lines of `certify`: all their numbers are integers, and they say what is so.
use Rattle.std.proofs.Common.{◌≡◌, ◌∙◌, ◌⊎◌, ap, inl, inr, refl, codes, ℕ, List, Option, Some, None, Bor, false}
use Rattle.serde_json.specs.Data.{Members, object, put, string}
use Rattle.serde_json.specs.Written.{members_have_float}
use Rattle.draw_ops.specs.Fault.{record_kind_of}
use Rattle.draw_ops.specs.declared.fault.Fault.{Fault}
use Rattle.draw_ops.specs.declared.fault.Fault.TheVariants.{OutOfMemory}
use Rattle.file_info.specs.InfoReport.{name_if}
use Rattle.meta_headers.specs.Formats.{format_of}
use Rattle.preflight_cert.specs.Refusal.{IsWantOfMemory}
use Rattle.preflight_cert.specs.Run.{Rejected}
use Rattle.preflight_cert.specs.declared.refusal.Refusal.{Refusal}
use Rattle.report_parts.specs.Parts.{report_text, text_if}
use Rattle.report_parts.specs.Putting.{text_in}
use Rattle.report_parts.specs.Whole.{put_whole, text_whole}
use Rattle.commands.proofs.ReportLemmas.{rejected_whole}
use Rattle.commands.specs.CertifyLines.{Certificates, IsCertifyLine, IsRejectedLine, IsUnstoredLine, certificate_path, digest_text, failed_line, named_members, with_files}
use Rattle.commands.specs.CertifyReport.{with_line_files}
use Rattle.commands.specs.CheckReport.{rejected_members}
use Rattle.commands.specs.PlainFiles.{plain_end, plain_text}
use Rattle.commands.specs.Storing.{store_text}
use Rattle.commands.specs.declared.certify_report.LineFiles.{LineFiles}
use Rattle.commands.specs.declared.plain_file.PlainFault.{PlainFault}
use Rattle.commands.specs.declared.plain_file.PlainFault.TheVariants as plain
use Rattle.commands.specs.declared.storing.StoreFault.{StoreFault}
use Rattle.commands.specs.declared.storing.StoreFault.TheVariants as store

-- what a line says of files are texts
pub files_whole : (name : List ℕ) (path certificate_digest file_digest error : Option (List ℕ)) (members : Members) → members_have_float members ≡ false
    → members_have_float (with_files name path certificate_digest file_digest error members) ≡ false
files_whole name path certificate_digest file_digest error members whole =
    let m0 = put (codes "file_sha256") (text_if file_digest) members in
    let e0 : members_have_float m0 ≡ false = put_whole (codes "file_sha256") (text_if file_digest) members (text_whole file_digest) whole in
    let m1 = put (codes "file") (string name) m0 in
    let e1 : members_have_float m1 ≡ false = put_whole (codes "file") (string name) m0 refl e0 in
    let m2 = put (codes "error") (text_if error) m1 in
    let e2 : members_have_float m2 ≡ false = put_whole (codes "error") (text_if error) m1 (text_whole error) e1 in
    let m3 = put (codes "certificate_sha256") (text_if certificate_digest) m2 in
    let e3 : members_have_float m3 ≡ false = put_whole (codes "certificate_sha256") (text_if certificate_digest) m2 (text_whole certificate_digest) e2 in
    put_whole (codes "certificate") (text_if path) m3 (text_whole path) e3

-- the same for the files of a line
pub line_files_whole : (files : LineFiles) (error : Option (Bor (List ℕ))) (members : Members) → members_have_float members ≡ false → members_have_float (with_line_files files error members) ≡ false
line_files_whole files error members whole =
    files_whole files.name.now (text_in files.path) (text_in files.certificate_digest) (text_in files.file_digest) (text_in error) members whole

-- and so is the name of a record
pub named_whole : (bytes : List ℕ) (number : Option ℕ) (fault : Fault) → members_have_float (named_members bytes number fault) ≡ false
named_whole bytes number fault =
    put_whole (codes "record_name") (text_if (name_if (format_of bytes) (record_kind_of fault))) (rejected_members number fault) (text_whole (name_if (format_of bytes) (record_kind_of fault))) (rejected_whole number fault)

-- a line with other digests that are the same
pub same_digests : (name : List ℕ) (path : Option (List ℕ)) (made certificate given file : List ℕ) (members : Members) (text : List ℕ)
    → text ≡ report_text (object (with_files name path (Some made) (Some given) None members)) → made ≡ certificate → given ≡ file
    → text ≡ report_text (object (with_files name path (Some certificate) (Some file) None members))
same_digests name path made certificate given file members text is made_is given_is =
    is
    ∙ (ap (λ digest. report_text (object (with_files name path (Some digest) (Some given) None members))) made_is
    ∙ ap (λ digest. report_text (object (with_files name path (Some certificate) (Some digest) None members))) given_is)

-- the line about a file that can't be prepared
pub rejected_is : (asked : Certificates) (name bytes text given : List ℕ) (r : Refusal) → (Rejected asked.rules bytes asked.width asked.height r.number r.fault ⊎ IsWantOfMemory r) → (r.fault ≡ OutOfMemory → ⊥)
    → text ≡ report_text (object (with_files name None None (Some given) None (named_members bytes r.number r.fault))) → given ≡ digest_text bytes → IsRejectedLine asked name text
rejected_is asked name bytes text given r (inl rejected) other is given_is = record {
  bytes = bytes;
  number = r.number;
  fault = r.fault;
  rejected = rejected;
  is_text = is ∙ ap (λ digest. report_text (object (with_files name None None (Some digest) None (named_members bytes r.number r.fault)))) given_is;
}
rejected_is asked name bytes text given r (inr want) other is given_is = absurd (other want.fault)

-- the line about a file whose certificate isn't stored
pub unstored_is : (asked : Certificates) (name bytes path text given : List ℕ) (fault : StoreFault) → (fault ≡ store.OutOfMemory → ⊥) → certificate_path asked.folder name ≡ Some path
    → text ≡ failed_line name (Some path) (Some given) (store_text fault) → given ≡ digest_text bytes → IsUnstoredLine asked name text
unstored_is asked name bytes path text given store.CannotWrite other named is given_is =
    record { bytes = bytes; path = path; reason = _; why = inl refl; named = named; is_text = is ∙ ap (λ digest. failed_line name (Some path) (Some digest) (codes "cannot write")) given_is }
unstored_is asked name bytes path text given store.Taken other named is given_is =
    record { bytes = bytes; path = path; reason = _; why = inr refl; named = named; is_text = is ∙ ap (λ digest. failed_line name (Some path) (Some digest) (codes "the certificate's name is taken")) given_is }
unstored_is asked name bytes path text given store.OutOfMemory other named is given_is = absurd (other refl)

-- the line about a file that isn't read
pub unread_is : (asked : Certificates) (name text : List ℕ) (fault : PlainFault) → text ≡ failed_line name None None (plain_text fault) → IsCertifyLine (plain_end fault) asked name text
unread_is asked name text plain.CannotRead is = record { reason = codes "cannot read"; why = inl refl; is_text = is }
unread_is asked name text plain.NotPlain is = record { reason = codes "not a plain file"; why = inr refl; is_text = is }
unread_is asked name text plain.OutOfMemory is = is
