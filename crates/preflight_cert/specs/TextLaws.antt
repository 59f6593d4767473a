-- The law of a certificate's text: writing and reading are inverse to each other.
use Rattle.std.specs.Prelude.{FitsSigned, ◌≡◌, ◌<◌, ◌≤◌, ◌^◌, ℕ, true, List, length, Ok}
use Rattle.std.specs.Int.{w32}
use Rattle.std.specs.List.{All}
use Rattle.mapping.specs.Limits.{IsSurfaceSide}
use Rattle.mapping.specs.Nibs.{IsNib}
use Rattle.mapping.specs.declared.nib.Nib.{Nib}
use Rattle.draw_ops.specs.RuleSets.{in_force, is_print}
use Rattle.draw_ops.specs.declared.rules.Rules.{Rules}
use Rattle.dc_stack.specs.Drawing.{edge_limit}
use Rattle.dc_stack.specs.Path.{piece_limit}
use Rattle.dc_stack.specs.SavedStates.{depth_limit}
use Rattle.preflight_cert.specs.CertificateReading.{CertificateValue, entry_limit, read_certificate, rules_in, slot_limit}
use Rattle.preflight_cert.specs.CertificateText.{certificate_text}
use Rattle.span_fill.specs.WideStrokes.{one_pixel}
use Rattle.preflight_cert.specs.declared.certificate_entry.Entry.{Entry}
use Rattle.preflight_cert.specs.declared.version.Version.{Version}
use Rattle.preflight_cert.specs.declared.version.Version.TheVariants.{Mpc1, Mpc2}

-- the numbers are bytes
abbrev pub AreBytes : List ℕ → Type 0
AreBytes bytes = All (λ byte. byte < 2 ^ 8) bytes

-- an entry of a version has this nib: one pixel if it doesn't contain one
abbrev pub HasNibOf : Version → Nib → Type 0
HasNibOf Mpc1 nib = nib ≡ one_pixel
HasNibOf Mpc2 nib = IsNib nib

-- an entry's numbers are of 32 bits, and its nib is within its limits
pub record IsEntry (version : Version) (entry : Entry) : Type 0 where
  pub number : entry.number < 2 ^ 32
  pub left : FitsSigned w32 entry.bounds.l
  pub top : FitsSigned w32 entry.bounds.t
  pub right : FitsSigned w32 entry.bounds.r
  pub bottom : FitsSigned w32 entry.bounds.b
  pub nib : HasNibOf version entry.nib

-- a certificate's numbers are within their limits
pub record IsCertificate (c : CertificateValue) : Type 0 where
  pub wide : IsSurfaceSide c.max_width
  pub high : IsSurfaceSide c.max_height
  pub writes : c.writes < 2 ^ 64
  pub depth : c.needs.depth ≤ depth_limit
  pub slots : c.needs.slots ≤ slot_limit
  pub edges : c.needs.edges ≤ edge_limit
  pub pieces : c.needs.pieces ≤ piece_limit
  pub few : length c.entries ≤ entry_limit
  pub entries : All (IsEntry c.version) c.entries

-- the same under rules: under the print profile each entry has a nib
pub record IsCertificateUnder (rules : Rules) (c : CertificateValue) : Type 0 where
  pub within : IsCertificate c
  pub version : is_print rules ≡ true → c.version ≡ Mpc2

-- What is written is read back unchanged, and so are the rules in force. Bytes that are read are the text of what they
-- describe, and that is a certificate.
pub record TextLaws : Type 0 where
  pub reads_back :
      (rules : Rules) (c : CertificateValue) → IsCertificateUnder rules c → read_certificate (certificate_text rules c) ≡ Ok c
  pub rules_back : (rules : Rules) (c : CertificateValue) → rules_in (certificate_text rules c) ≡ in_force rules
  pub is_text :
      (bytes : List ℕ) (c : CertificateValue) → AreBytes bytes → read_certificate bytes ≡ Ok c → bytes ≡ certificate_text (rules_in bytes) c
  pub is_certificate :
      (bytes : List ℕ) (c : CertificateValue) → AreBytes bytes → read_certificate bytes ≡ Ok c → IsCertificateUnder (rules_in bytes) c
