-- The entries up to an index stand where they stood, and those behind it have been moved.
use Rattle.std.proofs.Common.{◌≡◌, ◌*◌, ◌≤◌, ◌++◌, true, ℕ, List, drop, length, take}
use Rattle.std.specs.List.{flat_map}
use Rattle.preflight_cert.specs.CertificateText.{entry_text}
use Rattle.preflight_cert.specs.Preparation.{have_single_pixels}
use Rattle.preflight_cert.specs.declared.certificate_entry.Entry.{Entry}
use Rattle.preflight_cert.specs.declared.version.Version.TheVariants.{Mpc1, Mpc2}
use Rattle.preflight_cert.proofs.widening.spread.Given as goal

abbrev pub invariant-loop-left : goal.invariant-loop-left
invariant-loop-left l = record {
  few : l.left ≤ l.count;
  len : length l.bytes ≡ length l.fn.bytes;
  prefix : take (20 * l.left) l.bytes ≡ take (20 * l.left) l.fn.bytes;
  moved : (entries : List Entry) (after : List ℕ) → length entries ≡ l.count → have_single_pixels entries ≡ true
      → l.fn.bytes ≡ flat_map (entry_text Mpc1) entries ++ after → drop (24 * l.left) l.bytes ≡ flat_map (entry_text Mpc2) (drop l.left entries);
}

abbrev pub decreases-loop-left : goal.decreases-loop-left
decreases-loop-left l = l.left
