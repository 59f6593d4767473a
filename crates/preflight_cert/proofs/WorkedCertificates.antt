-- The certificate of one triangle, byte by byte, and what bytes next to it are refused by; and one of a wide line, with its nib.
use Rattle.std.proofs.Common.{◌≡◌, ℕ, pos, Bool, true, false, List, [], ◌∷◌, ◌++◌, take, Ok, Err, refl}
use Rattle.std.specs.Prelude.{codes}
use Rattle.mapping.specs.declared.nib.Nib.{Nib}
use Rattle.draw_ops.specs.declared.fault.Fault.TheVariants.{BadBound, NotCertificate, ShortCertificate, TrailingBytes}
use Rattle.draw_ops.specs.RuleSets.{core_rules, print_rules}
use Rattle.draw_ops.specs.declared.rules.Profile.TheVariants.{Print}
use Rattle.draw_ops.specs.declared.rules.Rules.{Rules}
use Rattle.dc_stack.specs.Drawing.{edge_limit}
use Rattle.dc_stack.specs.Path.{piece_limit}
use Rattle.span_fill.specs.WideStrokes.{one_pixel}
use Rattle.preflight_cert.specs.CertificateReading.{CertificateValue, entry_limit, signature_of, print_signature, read_certificate, rules_in}
use Rattle.preflight_cert.specs.CertificateText.{certificate_text}
use Rattle.preflight_cert.specs.declared.version.Version.{Version}
use Rattle.preflight_cert.specs.declared.version.Version.TheVariants.{Mpc1, Mpc2}

-- surfaces of at most 4 by 4, at most 32 pixels, a drawing of 3 points, and one entry: the box of record 0
abbrev triangle : CertificateValue
triangle = record {
  version = Mpc1;
  max_width = 4;
  max_height = 4;
  writes = 32;
  needs = record { depth = 0; slots = 0; edges = 3; pieces = 0 };
  entries = record { number = 0; bounds = record { l = pos 0; t = pos 0; r = pos 4; b = pos 4 }; nib = one_pixel } ∷ [];
}

-- a number in four bytes, where the lowest is enough
abbrev small : ℕ → List ℕ
small n = n ∷ 0 ∷ 0 ∷ 0 ∷ []

-- the writes, needs, count and entry
abbrev after_dimensions : List ℕ
after_dimensions =
    32 ∷ 0 ∷ 0 ∷ 0 ∷ 0 ∷ 0 ∷ 0 ∷ 0 ∷ small 0 ++ small 0 ++ small 3 ++ small 0 ++ small 1
    ++ small 0 ++ small 0 ++ small 0 ++ small 4 ++ small 4

-- the whole, with this signature and this height
abbrev bytes_with : List ℕ → ℕ → List ℕ
bytes_with marked height = marked ++ small 4 ++ small height ++ after_dimensions

abbrev bytes : List ℕ
bytes = bytes_with (0x4d ∷ 0x50 ∷ 0x43 ∷ 0x31 ∷ []) 4

-- it is written so, and read back
triangle_text : certificate_text core_rules triangle ≡ bytes
triangle_text = refl

triangle_read : read_certificate bytes ≡ Ok triangle
unfolding signature_of print_signature edge_limit piece_limit entry_limit
triangle_read = refl

-- one byte less, and one more
short_text : read_certificate (take 59 bytes) ≡ Err ShortCertificate
unfolding signature_of print_signature edge_limit piece_limit entry_limit
short_text = refl

short_head : read_certificate (take 39 bytes) ≡ Err ShortCertificate
unfolding signature_of print_signature
short_head = refl

trailing_byte : read_certificate (bytes ++ 0 ∷ []) ≡ Err TrailingBytes
unfolding signature_of print_signature edge_limit piece_limit entry_limit
trailing_byte = refl

-- a side of 0, the later version's signature, whose entry takes four bytes more, and another signature
no_height : read_certificate (bytes_with (codes "MPC1") 0) ≡ Err BadBound
unfolding signature_of print_signature
no_height = refl

later_signature : read_certificate (bytes_with (codes "MPC2") 4) ≡ Err ShortCertificate
unfolding signature_of print_signature edge_limit piece_limit entry_limit
later_signature = refl

other_signature : read_certificate (bytes_with (codes "MPC4") 4) ≡ Err NotCertificate
unfolding signature_of print_signature
other_signature = refl

-- surfaces of at most 8 by 8, at most 21 pixels, one object, a drawing of 2 points, and one entry: the box of record 3, and a nib
abbrev line_with : Version → Nib → CertificateValue
line_with version nib = record {
  version = version;
  max_width = 8;
  max_height = 8;
  writes = 21;
  needs = record { depth = 0; slots = 1; edges = 2; pieces = 0 };
  entries = record { number = 3; bounds = record { l = pos 2; t = pos 4; r = pos 6; b = pos 4 }; nib = nib } ∷ [];
}

-- its bytes, with this signature, and with these of a nib
abbrev line_bytes : List ℕ → List ℕ → List ℕ
line_bytes marked nib =
    marked ++ small 8 ++ small 8 ++ 21 ∷ 0 ∷ 0 ∷ 0 ∷ 0 ∷ 0 ∷ 0 ∷ 0 ∷ small 0 ++ small 1 ++ small 2 ++ small 0 ++ small 1
    ++ small 3 ++ small 2 ++ small 4 ++ small 6 ++ small 4 ++ nib

abbrev wide_line : CertificateValue
wide_line = line_with Mpc2 (record { x = 3; y = 3 })

abbrev wide_bytes : List ℕ
wide_bytes = line_bytes (0x4d ∷ 0x50 ∷ 0x43 ∷ 0x32 ∷ []) (3 ∷ 0 ∷ 3 ∷ 0 ∷ [])

-- a nib of three columns and three rows is written so, and read back
wide_text : certificate_text core_rules wide_line ≡ wide_bytes
wide_text = refl

wide_read : read_certificate wide_bytes ≡ Ok wide_line
unfolding signature_of print_signature edge_limit piece_limit entry_limit
wide_read = refl

-- one without a column is refused
no_column : read_certificate (line_bytes (codes "MPC2") (0 ∷ 0 ∷ 3 ∷ 0 ∷ [])) ≡ Err BadBound
unfolding signature_of print_signature edge_limit piece_limit entry_limit
no_column = refl

-- in the earlier version the line has no nib of its own
thin_read : read_certificate (line_bytes (codes "MPC1") []) ≡ Ok (line_with Mpc1 one_pixel)
unfolding signature_of print_signature edge_limit piece_limit entry_limit
thin_read = refl

thin_text : certificate_text core_rules (line_with Mpc1 one_pixel) ≡ line_bytes (codes "MPC1") []
thin_text = refl

-- the same under the print profile, with what is allowed, and the rules that are read
abbrev fine_bytes : ℕ → List ℕ
fine_bytes allowed =
    0x4d ∷ 0x50 ∷ 0x43 ∷ 0x33 ∷ [] ++ small allowed ++ small 4 ++ small 4 ++ 32 ∷ 0 ∷ 0 ∷ 0 ∷ 0 ∷ 0 ∷ 0 ∷ 0 ∷ small 0 ++ small 0 ++ small 3 ++ small 0 ++ small 1
    ++ small 0 ++ small 0 ++ small 0 ++ 0 ∷ 64 ∷ 0 ∷ 0 ∷ 0 ∷ 64 ∷ 0 ∷ 0 ∷ 1 ∷ 0 ∷ 1 ∷ 0 ∷ []

abbrev fine_triangle : CertificateValue
fine_triangle = record {
  version = Mpc2;
  max_width = 4;
  max_height = 4;
  writes = 32;
  needs = record { depth = 0; slots = 0; edges = 3; pieces = 0 };
  entries = record { number = 0; bounds = record { l = pos 0; t = pos 0; r = pos 16384; b = pos 16384 }; nib = one_pixel } ∷ [];
}

abbrev allowing : Bool → Bool → Rules
allowing held emf = print_rules (record { held_deletion = held; emf_plus = emf })

fine_read : read_certificate (fine_bytes 0) ≡ Ok fine_triangle
unfolding signature_of print_signature edge_limit piece_limit entry_limit
fine_read = refl

fine_text : certificate_text (allowing true true) fine_triangle ≡ fine_bytes 3
fine_text = refl

all_allowed : rules_in (fine_bytes 3) ≡ allowing true true
unfolding print_signature
all_allowed = refl

held_allowed : rules_in (fine_bytes 1) ≡ allowing true false
unfolding print_signature
held_allowed = refl

core_rules_read : rules_in bytes ≡ core_rules
unfolding print_signature
core_rules_read = refl

-- what no number allows, and a head that is cut short
too_much_allowed : read_certificate (fine_bytes 4) ≡ Err BadBound
unfolding signature_of print_signature
too_much_allowed = refl

short_fine_head : read_certificate (take 43 (fine_bytes 0)) ≡ Err ShortCertificate
unfolding signature_of print_signature
short_fine_head = refl
