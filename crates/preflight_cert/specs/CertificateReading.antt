-- The bytes of a certificate, and their meaning.
use Rattle.std.specs.Prelude.{ℕ, zero, suc, ◌+◌, ◌*◌, Bool, ◌&&◌, ◌==◌, not, nat_le, nat_lt, if◌then◌else◌, List, [], ◌∷◌, length, drop, codes, Option, Some, None, Result, Ok, Err}
use Rattle.std.specs.List.{list_all}
use Rattle.mapping.specs.Limits.{is_surface_side}
use Rattle.mapping.specs.Nibs.{is_nib}
use Rattle.mapping.specs.declared.nib.Nib.{Nib}
use Rattle.point_views.specs.Numbers.{i32_at, number_at}
use Rattle.draw_ops.specs.RuleSets.{allowances_in, allowances_of, core_rules, print_rules}
use Rattle.draw_ops.specs.declared.fault.Fault.{Fault}
use Rattle.draw_ops.specs.declared.fault.Fault.TheVariants.{BadBound, NotCertificate, ShortCertificate, TrailingBytes}
use Rattle.draw_ops.specs.declared.rules.Allowances.{Allowances}
use Rattle.draw_ops.specs.declared.rules.Rules.{Rules}
use Rattle.dc_stack.specs.Drawing.{edge_limit}
use Rattle.dc_stack.specs.Path.{piece_limit}
use Rattle.dc_stack.specs.SavedStates.{depth_limit}
use Rattle.dc_stack.specs.declared.needs.Needs.{Needs}
use Rattle.span_fill.specs.WideStrokes.{one_pixel}
use Rattle.preflight_cert.specs.declared.certificate_entry.Entry.{Entry}
use Rattle.preflight_cert.specs.declared.version.Version.{Version}
use Rattle.preflight_cert.specs.declared.version.Version.TheVariants.{Mpc1, Mpc2}

-- a certificate: its version, the greatest width and height of a surface, the most pixels written, the needs, and an
-- entry for each drawing
pub record CertificateValue : Type 0 where
  pub version : Version
  pub max_width : ℕ
  pub max_height : ℕ
  pub writes : ℕ
  pub needs : Needs
  pub entries : List Entry

-- the signature of a version: the first four bytes, as a number
unfoldable pub signature_of : Version → ℕ
signature_of Mpc1 = number_at (codes "MPC1") 0 4
signature_of Mpc2 = number_at (codes "MPC2") 0 4

-- the version with a signature
abbrev pub version_of : ℕ → Option Version
version_of n = if n == signature_of Mpc1 then Some Mpc1 else (if n == signature_of Mpc2 then Some Mpc2 else None)

-- the signature of a certificate of the print profile, as a number
unfoldable pub print_signature : ℕ
print_signature = number_at (codes "MPC3") 0 4

-- a certificate is of the print profile
abbrev pub is_by_print : List ℕ → Bool
is_by_print bytes = number_at bytes 0 4 == print_signature

-- the rules under which a certificate was made; under the print profile what is allowed follows the
-- signature
abbrev pub rules_in : List ℕ → Rules
rules_in bytes = if is_by_print bytes then print_rules (allowances_in (number_at bytes 4 4)) else core_rules

-- the most slots of objects in a certificate
abbrev pub slot_limit : ℕ
slot_limit = 65535

-- the most entries of a certificate
unfoldable pub entry_limit : ℕ
entry_limit = 1048576

-- the number of bytes before the entries
abbrev pub head_size : ℕ
head_size = 40

-- the same under the print profile
abbrev pub print_head_size : ℕ
print_head_size = 44

-- the number of bytes in an entry: a number and a box, and in the later version a nib
abbrev pub entry_size : Version → ℕ
entry_size Mpc1 = 20
entry_size Mpc2 = 24

-- the number of entries that the head gives
abbrev pub count_in : List ℕ → ℕ
count_in bytes = number_at bytes 36 4

-- the needs
abbrev pub needs_in : List ℕ → Needs
needs_in bytes = record {
  depth = number_at bytes 20 4;
  slots = number_at bytes 24 4;
  edges = number_at bytes 28 4;
  pieces = number_at bytes 32 4;
}

-- the nib in an entry's bytes; one pixel if they have none
abbrev pub nib_in : Version → List ℕ → Nib
nib_in Mpc1 bytes = one_pixel
nib_in Mpc2 bytes = record { x = number_at bytes 20 2; y = number_at bytes 22 2 }

-- the entry in the first bytes: a record's number, a box, and a nib
abbrev pub first_entry : Version → List ℕ → Entry
first_entry version bytes = record {
  number = number_at bytes 0 4;
  bounds = record { l = i32_at bytes 4; t = i32_at bytes 8; r = i32_at bytes 12; b = i32_at bytes 16 };
  nib = nib_in version bytes;
}

-- consecutive entries
abbrev pub entries_in : Version → ℕ → List ℕ → List Entry
entries_in version zero bytes = []
entries_in version (suc n) bytes = first_entry version bytes ∷ entries_in version n (drop (entry_size version) bytes)

-- the nib of each entry is within the limits of nibs
abbrev pub have_nibs : List Entry → Bool
have_nibs entries = list_all (λ (entry : Entry). is_nib entry.nib) entries

-- needs are within their limits
abbrev pub are_bounded_needs : Needs → Bool
are_bounded_needs needs =
    nat_le needs.depth depth_limit && nat_le needs.slots slot_limit
    && nat_le needs.edges edge_limit && nat_le needs.pieces piece_limit

-- the size, the needs and the number of entries are within their limits
abbrev pub is_bounded : List ℕ → Bool
is_bounded bytes =
    is_surface_side (number_at bytes 4 4) && is_surface_side (number_at bytes 8 4) && are_bounded_needs (needs_in bytes)
    && nat_le (count_in bytes) entry_limit

-- the contents of a complete certificate
abbrev pub value_in : Version → List ℕ → CertificateValue
value_in version bytes = record {
  version = version;
  max_width = number_at bytes 4 4;
  max_height = number_at bytes 8 4;
  writes = number_at bytes 12 8;
  needs = needs_in bytes;
  entries = entries_in version (count_in bytes) (drop head_size bytes);
}

-- the number of bytes of a certificate with the entries that its head gives
abbrev pub whole_size : Version → List ℕ → ℕ
whole_size version bytes = head_size + entry_size version * count_in bytes

-- the contents of a certificate, if the nibs of its entries are within their limits
abbrev pub with_nibs : CertificateValue → Result CertificateValue Fault
with_nibs c = if have_nibs c.entries then Ok c else Err BadBound

-- the contents of the bytes, if they end where the entries do
abbrev pub read_whole : Version → List ℕ → Result CertificateValue Fault
read_whole version bytes =
    if nat_lt (length bytes) (whole_size version bytes) then Err ShortCertificate
    else (if nat_lt (whole_size version bytes) (length bytes) then Err TrailingBytes else with_nibs (value_in version bytes))

-- the first fault of the bytes after the version, or their contents
abbrev pub read_version : Option Version → List ℕ → Result CertificateValue Fault
read_version None bytes = Err NotCertificate
read_version (Some version) bytes =
    if nat_lt (length bytes) head_size then Err ShortCertificate
    else (if not (is_bounded bytes) then Err BadBound else read_whole version bytes)

-- the same after what is allowed under the print profile: from there on the bytes are as in the later version after its
-- signature
abbrev pub read_allowed : Option Allowances → List ℕ → Result CertificateValue Fault
read_allowed None bytes = Err BadBound
read_allowed (Some allowed) bytes = read_version (Some Mpc2) (drop 4 bytes)

-- the same for a certificate of the print profile
abbrev pub read_print : List ℕ → Result CertificateValue Fault
read_print bytes =
    if nat_lt (length bytes) print_head_size then Err ShortCertificate
    else read_allowed (allowances_of (number_at bytes 4 4)) bytes

-- the first fault of a certificate's bytes, or their contents
abbrev pub read_certificate : List ℕ → Result CertificateValue Fault
read_certificate bytes =
    if nat_lt (length bytes) 4 then Err NotCertificate
    else (if is_by_print bytes then read_print bytes else read_version (version_of (number_at bytes 0 4)) bytes)
