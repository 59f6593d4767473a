-- The line of `certify` about a file, as JSON.
use Rattle.std.specs.Prelude.{◌≡◌, ◌⊎◌, ◌++◌, ℕ, List, Option, Some, None, codes, option_map}
use Rattle.std.specs.Path.{path_file_name, path_join}
use Rattle.hex.specs.Hex.{encode_lower}
use Rattle.serde_json.specs.Data.{Members, no_members, null, object, put, string}
use Rattle.sha2.specs.Sha256.{sha256}
use Rattle.draw_ops.specs.Fault.{record_kind_of}
use Rattle.draw_ops.specs.RuleSets.{in_force}
use Rattle.draw_ops.specs.declared.fault.Fault.{Fault}
use Rattle.draw_ops.specs.declared.rules.Rules.{Rules}
use Rattle.file_info.specs.InfoReport.{name_if}
use Rattle.meta_headers.specs.Formats.{format_of}
use Rattle.preflight_cert.specs.CertificateReading.{rules_in}
use Rattle.preflight_cert.specs.Preparation.{IsForBound}
use Rattle.preflight_cert.specs.Run.{Rejected}
use Rattle.report_parts.specs.Parts.{report_text, text_if}
use Rattle.commands.specs.CheckReport.{AcceptsWith, rejected_members}
use Rattle.commands.specs.declared.command_end.CommandEnd.{CommandEnd}
use Rattle.commands.specs.declared.command_end.CommandEnd.TheVariants as end

-- what the certificates are for: rules, surfaces of at most some size, and a folder
pub record Certificates : Type 0 where
  pub rules : Rules
  pub width : ℕ
  pub height : ℕ
  pub folder : List ℕ

-- the path of a file's certificate in a folder: the last part of the file's name, and `.mpc`
abbrev pub certificate_path : List ℕ → List ℕ → Option (List ℕ)
certificate_path folder name = option_map (λ last. path_join folder (last ++ codes ".mpc")) (path_file_name name)

-- the SHA-256 of bytes in hexadecimal digits
abbrev pub digest_text : List ℕ → List ℕ
digest_text bytes = encode_lower (sha256 bytes)

-- five members more: the file's name, the path of its certificate, their digests, and why there is no verdict
abbrev pub with_files : List ℕ → Option (List ℕ) → Option (List ℕ) → Option (List ℕ) → Option (List ℕ) → Members → Members
with_files name path certificate_digest file_digest error members =
    put (codes "certificate") (text_if path)
    (put (codes "certificate_sha256") (text_if certificate_digest)
    (put (codes "error") (text_if error)
    (put (codes "file") (string name)
    (put (codes "file_sha256") (text_if file_digest) members))))

-- The line about a file with a certificate that is accepted for it, under the rules and for the bound that were asked
-- for.
pub record IsCertifiedLine (asked : Certificates) (name text : List ℕ) : Type 0 where
  pub bytes : List ℕ
  pub certificate : List ℕ
  pub path : List ℕ
  pub members : Members
  pub named : certificate_path asked.folder name ≡ Some path
  pub accepts : AcceptsWith bytes certificate members
  pub under : rules_in certificate ≡ in_force asked.rules
  pub bound : IsForBound asked.width asked.height certificate
  pub is_text :
      text
      ≡ report_text (object (with_files name (Some path) (Some (digest_text certificate)) (Some (digest_text bytes)) None members))

-- the members of the line about a rejected file: the standard's name of the record's kind, and those of the report
abbrev pub named_members : List ℕ → Option ℕ → Fault → Members
named_members bytes number fault =
    put (codes "record_name") (text_if (name_if (format_of bytes) (record_kind_of fault))) (rejected_members number fault)

-- The line about a rejected file. It has the report that `check` gives of the file's first fault.
pub record IsRejectedLine (asked : Certificates) (name text : List ℕ) : Type 0 where
  pub bytes : List ℕ
  pub number : Option ℕ
  pub fault : Fault
  pub rejected : Rejected asked.rules bytes asked.width asked.height number fault
  pub is_text :
      text ≡ report_text (object (with_files name None None (Some (digest_text bytes)) None (named_members bytes number fault)))

-- the line about a file with neither a certificate nor a rejection, and the reason
abbrev pub failed_line : List ℕ → Option (List ℕ) → Option (List ℕ) → List ℕ → List ℕ
failed_line name path file_digest error =
    report_text (object (with_files name path None file_digest (Some error) (put (codes "accepted") null no_members)))

-- why a file isn't read
abbrev pub IsUnreadReason : List ℕ → Type 0
IsUnreadReason reason = (reason ≡ codes "cannot read") ⊎ (reason ≡ codes "not a plain file")

-- why a certificate isn't stored
abbrev pub IsUnstoredReason : List ℕ → Type 0
IsUnstoredReason reason = (reason ≡ codes "cannot write") ⊎ (reason ≡ codes "the certificate's name is taken")

-- the line about a file that wasn't read
pub record IsUnreadFileLine (name text : List ℕ) : Type 0 where
  pub reason : List ℕ
  pub why : IsUnreadReason reason
  pub is_text : text ≡ failed_line name None None reason

-- the line about a file that was read, and whose certificate isn't at its path
pub record IsUnstoredLine (asked : Certificates) (name text : List ℕ) : Type 0 where
  pub bytes : List ℕ
  pub path : List ℕ
  pub reason : List ℕ
  pub why : IsUnstoredReason reason
  pub named : certificate_path asked.folder name ≡ Some path
  pub is_text : text ≡ failed_line name (Some path) (Some (digest_text bytes)) reason

-- The line about a file, by how the work on it ends.
abbrev pub IsCertifyLine : CommandEnd → Certificates → List ℕ → List ℕ → Type 0
IsCertifyLine end.Done asked name text = IsCertifiedLine asked name text
IsCertifyLine end.Rejected asked name text = IsRejectedLine asked name text
IsCertifyLine end.CannotRead asked name text = IsUnreadFileLine name text
IsCertifyLine end.CannotStore asked name text = IsUnstoredLine asked name text
IsCertifyLine end.OutOfMemory asked name text = text ≡ failed_line name None None (codes "OutOfMemory")
IsCertifyLine ending asked name text = ⊥
