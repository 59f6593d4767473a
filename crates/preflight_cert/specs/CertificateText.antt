-- The bytes of a certificate.
use Rattle.std.specs.Prelude.{ℕ, if◌then◌else◌, List, [], ◌++◌, length, codes}
use Rattle.std.specs.Int.{w16, w32, w64, cast_unsigned, to_le_bytes}
use Rattle.std.specs.List.{flat_map}
use Rattle.mapping.specs.declared.geometry.Rect.{Rect}
use Rattle.mapping.specs.declared.nib.Nib.{Nib}
use Rattle.draw_ops.specs.RuleSets.{allowance_bits, is_print}
use Rattle.draw_ops.specs.declared.rules.Rules.{Rules}
use Rattle.dc_stack.specs.declared.needs.Needs.{Needs}
use Rattle.preflight_cert.specs.CertificateReading.{CertificateValue}
use Rattle.preflight_cert.specs.declared.certificate_entry.Entry.{Entry}
use Rattle.preflight_cert.specs.declared.version.Version.{Version}
use Rattle.preflight_cert.specs.declared.version.Version.TheVariants.{Mpc1, Mpc2}

-- a number in four bytes, little-endian
abbrev pub number_text : ℕ → List ℕ
number_text n = to_le_bytes w32 n

-- a box: its left, top, right and bottom, as signed numbers
abbrev pub box_text : Rect → List ℕ
box_text box =
    number_text (cast_unsigned w32 box.l) ++ (number_text (cast_unsigned w32 box.t)
    ++ (number_text (cast_unsigned w32 box.r) ++ number_text (cast_unsigned w32 box.b)))

-- a nib: its columns and its rows, in two bytes each, if entries have one
abbrev pub nib_text : Version → Nib → List ℕ
nib_text Mpc1 nib = []
nib_text Mpc2 nib = to_le_bytes w16 nib.x ++ to_le_bytes w16 nib.y

-- an entry: the number of its record, its box, and its nib
abbrev pub entry_text : Version → Entry → List ℕ
entry_text version entry = number_text entry.number ++ (box_text entry.bounds ++ nib_text version entry.nib)

-- the signature of a version
abbrev pub version_signature : Version → List ℕ
version_signature Mpc1 = codes "MPC1"
version_signature Mpc2 = codes "MPC2"

-- the numbers of needs, followed by other bytes
abbrev pub needs_text : Needs → List ℕ → List ℕ
needs_text needs after =
    number_text needs.depth ++ (number_text needs.slots
    ++ (number_text needs.edges ++ (number_text needs.pieces ++ after)))

-- the numbers of a certificate, without its version and its entries
pub record HeadValue : Type 0 where
  pub max_width : ℕ
  pub max_height : ℕ
  pub writes : ℕ
  pub needs : Needs

-- the size, the most pixels written, the needs and the number of entries, followed by the entries' bytes
abbrev pub numbers_with : HeadValue → ℕ → List ℕ → List ℕ
numbers_with head count entries =
    number_text head.max_width ++ (number_text head.max_height
    ++ (to_le_bytes w64 head.writes ++ needs_text head.needs (number_text count ++ entries)))

-- what stands before those numbers: the signature, and under the print profile what is allowed
abbrev pub signature_text : Rules → Version → List ℕ
signature_text rules version =
    if is_print rules then codes "MPC3" ++ number_text (allowance_bits rules.allowed) else version_signature version

-- the bytes of a certificate with these numbers and the bytes of its entries
abbrev pub text_with : Rules → Version → HeadValue → ℕ → List ℕ → List ℕ
text_with rules version head count entries = signature_text rules version ++ numbers_with head count entries

-- the numbers of a certificate
abbrev pub head_of : CertificateValue → HeadValue
head_of c = record { max_width = c.max_width; max_height = c.max_height; writes = c.writes; needs = c.needs }

-- the bytes of a certificate under rules
abbrev pub certificate_text : Rules → CertificateValue → List ℕ
certificate_text rules c = text_with rules c.version (head_of c) (length c.entries) (flat_map (entry_text c.version) c.entries)
