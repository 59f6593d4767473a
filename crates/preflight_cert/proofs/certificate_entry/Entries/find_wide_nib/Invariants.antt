-- One of the entries that are left has a wide nib exactly if one of all has.
use Rattle.std.proofs.Common.{◌≡◌, length}
use Rattle.preflight_cert.specs.EntriesOf.{entries_of}
use Rattle.preflight_cert.specs.WideNibs.{have_wide_nib}
use Rattle.preflight_cert.proofs.certificate_entry.Entries.find_wide_nib.Given as goal

abbrev pub invariant-loop-entry : goal.invariant-loop-entry
invariant-loop-entry l = have_wide_nib (entries_of l.fn.self) ≡ have_wide_nib (entries_of l.left)

abbrev pub decreases-loop-entry : goal.decreases-loop-entry
decreases-loop-entry l = length (entries_of l.left)
