-- The first version has no nibs.
use Rattle.std.proofs.Common.{◌≡◌, ◌/◌, false, length, sym, subst}
use Rattle.preflight_cert.specs.CertificateReading.{entries_in, entry_size}
use Rattle.preflight_cert.specs.WideNibs.{have_wide_nib}
use Rattle.preflight_cert.specs.declared.version.Version.{Version}
use Rattle.preflight_cert.proofs.WideNibLemmas.{no_wide_nib}
use Rattle.preflight_cert.proofs.certificate_entry.Entries.have_wide_nib.Goals as goal

pub returns-in-Mpc1 : goal.returns-in-Mpc1
returns-in-Mpc1 c =
    let bytes = c.args.self.bytes.now in
    subst (λ (version : Version). false ≡ have_wide_nib (entries_in version (length bytes / entry_size version) bytes)) (sym c.in-Mpc1.is)
    (sym (no_wide_nib (length bytes / 20) bytes))
