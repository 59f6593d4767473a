-- The older version tells no nibs.
use Rattle.std.proofs.Common.{◌≡◌, ◌/◌, true, length, sym, subst}
use Rattle.preflight_cert.specs.CertificateReading.{entries_in, entry_size, have_nibs}
use Rattle.preflight_cert.specs.declared.version.Version.{Version}
use Rattle.preflight_cert.proofs.EntryLemmas.{plain_nibs}
use Rattle.preflight_cert.proofs.certificate_reading.have_nibs.Goals as goal

pub returns-in-Mpc1 : goal.returns-in-Mpc1
returns-in-Mpc1 c =
    let bytes = c.args.entries.bytes.now in
    subst (λ (version : Version). true ≡ have_nibs (entries_in version (length bytes / entry_size version) bytes)) (sym c.in-Mpc1.is)
    (sym (plain_nibs (length bytes / 20) bytes))
