-- Without the mark of the print profile the rules are the core rules.
use Rattle.std.proofs.Common.{◌≡◌, ◌<◌, Bool, true, false, Option, Some, Result, Ok, Err, ℕ, List, cond, length, rules, ap, refl, sym, subst, ◌∙◌, arith}
use Rattle.std.specs.Prelude.{IfOk, nat_lt}
use Rattle.std.proofs.lemmas.Bool.{le-ltb}
use Rattle.draw_ops.specs.RuleSets.{core_rules}
use Rattle.draw_ops.specs.declared.fault.Fault.{Fault}
use Rattle.draw_ops.specs.declared.fault.Fault.TheVariants.{NotCertificate}
use Rattle.point_views.specs.Numbers.{number_at}
use Rattle.draw_ops.specs.declared.rules.Rules.{Rules}
use Rattle.preflight_cert.specs.CertificateReading.{CertificateValue, is_by_print, print_signature, read_print, read_version, rules_in, version_of}
use Rattle.preflight_cert.specs.declared.certificate.Certificate.{Certificate}
use Rattle.preflight_cert.proofs.certificate.Certificate.read.Goals as goal

pub returns-in-Some-clause-rules : goal.returns-in-Some-clause-rules
unfolding print_signature
returns-in-Some-clause-rules c =
    let core : is_by_print c.args.bytes.now ≡ false = search rules in
    rw core c.read_version.ensures.rules

passes : (few print : Bool) (fine rest : Result CertificateValue Fault) → few ≡ false → print ≡ false → cond few (Err NotCertificate) (cond print fine rest) ≡ rest
passes few print fine rest a b = rw (a, b) refl

pub returns-in-Some-clause-value : goal.returns-in-Some-clause-value
unfolding print_signature
returns-in-Some-clause-value c =
    let bytes = c.args.bytes.now in
    let some = c.if-bytes-lt4.false in
    let few : nat_lt (length bytes) 4 ≡ false = le-ltb (length bytes) 4 (omega (arith, some)) in
    let core : is_by_print bytes ≡ false = search rules in
    let found = ap version_of (sym c.u32_at-2.ensures) ∙ sym c.of_signature.ensures ∙ c.in-Some.is in
    passes _ _ (read_print bytes) _ few core ∙ ap (λ version. read_version version bytes) found ∙ c.read_version.ensures.value
