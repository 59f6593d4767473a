-- What a line of `certify` is made of.
use Rattle.std.specs.Prelude.{◌≡◌, ℕ, List, Option, None, String}
use Rattle.std.specs.Borrow.{Bor}
use Rattle.std.specs.declared.alloc.Global.{Global}
use Rattle.serde_json.specs.Data.{Members, object}
use Rattle.serde_json.specs.View.{members_view}
use Rattle.serde_json.specs.declared.value.Value.{Value}
use Rattle.preflight_cert.specs.declared.refusal.Refusal.{Refusal}
use Rattle.report_parts.specs.Parts.{report_text}
use Rattle.report_parts.specs.Putting.{text_in}
use Rattle.commands.specs.CertifyLines.{failed_line, named_members, with_files}
use Rattle.commands.specs.declared.certify_report.LineFiles.{LineFiles}

-- the members with what a line says of files, and an error
abbrev pub with_line_files : LineFiles → Option (Bor (List ℕ)) → Members → Members
with_line_files files error members =
    with_files files.name.now (text_in files.path) (text_in files.certificate_digest) (text_in files.file_digest) (text_in error) members

-- the line with these members, and with what it says of files
abbrev pub text_of_members : LineFiles → Members → List ℕ
text_of_members files members = report_text (object (with_line_files files None members))

-- the line about a rejected file with these bytes
abbrev pub text_of_refusal : LineFiles → List ℕ → Refusal → List ℕ
text_of_refusal files bytes refusal = text_of_members files (named_members bytes refusal.number refusal.fault)

-- the line about a file with neither a certificate nor a rejection
abbrev pub text_of_failure : List ℕ → Option (Bor (List ℕ)) → Option (Bor (List ℕ)) → List ℕ → List ℕ
text_of_failure name path file_digest error = failed_line name (text_in path) (text_in file_digest) error

-- the new map is the old one with what a line says of files
abbrev pub PutsFiles : LineFiles → Option (Bor (List ℕ)) → List (String Global × Value) → List (String Global × Value) → Type 0
PutsFiles files error old new = members_view new ≡ with_line_files files error (members_view old)
