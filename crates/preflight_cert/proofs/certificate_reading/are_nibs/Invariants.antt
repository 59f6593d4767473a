-- The nibs of the entries that are left pass where those of all do.
use Rattle.std.proofs.Common.{◌≡◌, length}
use Rattle.preflight_cert.specs.CertificateReading.{have_nibs}
use Rattle.preflight_cert.specs.EntriesOf.{entries_of}
use Rattle.preflight_cert.proofs.certificate_reading.are_nibs.Given as goal

abbrev pub invariant-loop-entry : goal.invariant-loop-entry
invariant-loop-entry l = have_nibs (entries_of l.fn.entries) ≡ have_nibs (entries_of l.left)

abbrev pub decreases-loop-entry : goal.decreases-loop-entry
decreases-loop-entry l = length (entries_of l.left)
