-- A certificate's bytes, in the parts in which they are written.
use Rattle.std.specs.Prelude.{ℕ, if◌then◌else◌, List, [], ◌++◌}
use Rattle.std.specs.Int.{w64, to_le_bytes}
use Rattle.draw_ops.specs.RuleSets.{allowance_bits, is_print}
use Rattle.draw_ops.specs.declared.rules.Rules.{Rules}
use Rattle.dc_stack.specs.declared.needs.Needs.{Needs}
use Rattle.preflight_cert.specs.CertificateReading.{signature_of, print_signature}
use Rattle.preflight_cert.specs.CertificateText.{HeadValue, needs_text, number_text}
use Rattle.preflight_cert.specs.declared.version.Version.{Version}
use Rattle.preflight_cert.specs.declared.writing.Head.{Head}

-- the numbers of the signature and of what is allowed
abbrev pub signature_numbers : Rules → Version → List ℕ
signature_numbers rules version =
    if is_print rules then number_text print_signature ++ number_text (allowance_bits rules.allowed) else number_text (signature_of version)

-- the signature and the size
abbrev pub bound_text : Rules → Version → ℕ → ℕ → List ℕ
bound_text rules version max_width max_height = signature_numbers rules version ++ (number_text max_width ++ number_text max_height)

-- the most pixels written, the needs, and the number of entries
abbrev pub totals_text : ℕ → Needs → ℕ → List ℕ
totals_text writes needs count = to_le_bytes w64 writes ++ (needs_text needs [] ++ number_text count)

-- the numbers of a head
abbrev pub head_value : Head → HeadValue
head_value head = record { max_width = head.max_width; max_height = head.max_height; writes = head.writes; needs = head.needs }

-- all bytes before the entries
abbrev pub head_text : Rules → Version → HeadValue → ℕ → List ℕ
head_text rules version head count = bound_text rules version head.max_width head.max_height ++ totals_text head.writes head.needs count
