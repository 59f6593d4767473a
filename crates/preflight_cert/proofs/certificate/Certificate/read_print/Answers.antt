-- After what is allowed the bytes are as in the later version after its signature.
use Rattle.std.proofs.Common.{◌≡◌, ◌<◌, ℕ, List, Bool, false, Option, Some, Err, cond, drop, length, ap, refl, sym, ◌∙◌, arith}
use Rattle.std.specs.Prelude.{nat_lt}
use Rattle.std.proofs.lemmas.Bool.{le-ltb}
use Rattle.draw_ops.specs.RuleSets.{allowances_of}
use Rattle.draw_ops.specs.declared.fault.Fault.TheVariants.{ShortCertificate}
use Rattle.draw_ops.specs.declared.rules.Allowances.{Allowances}
use Rattle.point_views.specs.Numbers.{number_at}
use Rattle.preflight_cert.specs.CertificateReading.{read_allowed, read_version}
use Rattle.preflight_cert.specs.declared.version.Version.TheVariants.{Mpc2}
use Rattle.preflight_cert.proofs.certificate.Certificate.read_print.Goals as goal

passes : (short : Bool) (found : Option Allowances) (allowed : Allowances) (bytes : List ℕ) → short ≡ false → found ≡ Some allowed
    → cond short (Err ShortCertificate) (read_allowed found bytes) ≡ read_version (Some Mpc2) (drop 4 bytes)
passes short found allowed bytes a b = rw (a, b) refl

pub returns-clause-value : goal.returns-clause-value
returns-clause-value c =
    let bytes = c.args.bytes.now in
    let long = c.if-bytes-lt-PRINT_HEAD_SIZE.false in
    let short : nat_lt (length bytes) 44 ≡ false = le-ltb (length bytes) 44 (omega (arith, long)) in
    let found : allowances_of (number_at bytes 4 4) ≡ Some c.in-Some.allowed = ap allowances_of (sym c.u32_at.ensures) ∙ sym c.from_bits.ensures ∙ c.in-Some.is in
    passes _ _ c.in-Some.allowed bytes short found
    ∙ ap (read_version (Some Mpc2)) (sym c.split_at.ensures.back) ∙ c.read_version.ensures.value
