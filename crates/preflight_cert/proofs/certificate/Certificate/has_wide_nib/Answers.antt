use Rattle.preflight_cert.specs.EntriesOf.{entries_of}
use Rattle.preflight_cert.proofs.WideNibLemmas.{wide_found}
use Rattle.preflight_cert.proofs.certificate.Certificate.has_wide_nib.Goals as goal

pub returns : goal.returns
returns c = wide_found c.have_wide_nib.result (entries_of c.args.self.entries) c.have_wide_nib.ensures
