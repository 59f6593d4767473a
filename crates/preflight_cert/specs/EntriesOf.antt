-- The entries of a view.
use Rattle.std.specs.Prelude.{◌/◌, List, length}
use Rattle.preflight_cert.specs.CertificateReading.{entries_in, entry_size}
use Rattle.preflight_cert.specs.declared.certificate_entry.Entries.{Entries}
use Rattle.preflight_cert.specs.declared.certificate_entry.Entry.{Entry}

-- the entries of a view: all that its bytes contain
abbrev pub entries_of : Entries → List Entry
entries_of entries = entries_in entries.version (length entries.bytes.now / entry_size entries.version) entries.bytes.now
