-- What a certificate says of every play.
use Rattle.std.specs.Prelude.{ℕ, List, Result}
use Rattle.draw_ops.specs.Results.{result_map}
use Rattle.draw_ops.specs.declared.fault.Fault.{Fault}
use Rattle.preflight_cert.specs.CertificateReading.{CertificateValue, read_certificate}
use Rattle.buffer_calls.specs.declared.terms.Terms.{Terms}

-- the bound of a certificate, and the most pixels that a play writes
abbrev pub terms_in : CertificateValue → Terms
terms_in value = record { max_width = value.max_width; max_height = value.max_height; writes = value.writes }

-- the same of a certificate's bytes, or their first fault
abbrev pub terms_result : List ℕ → Result Terms Fault
terms_result bytes = result_map terms_in (read_certificate bytes)
