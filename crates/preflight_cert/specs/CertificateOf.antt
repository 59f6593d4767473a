-- The value of a certificate.
use Rattle.preflight_cert.specs.CertificateReading.{CertificateValue}
use Rattle.preflight_cert.specs.EntriesOf.{entries_of}
use Rattle.preflight_cert.specs.declared.certificate.Certificate.{Certificate}

-- the value of a certificate, part by part
abbrev pub certificate_of : Certificate → CertificateValue
certificate_of c = record {
  version = c.entries.version;
  max_width = c.max_width;
  max_height = c.max_height;
  writes = c.writes;
  needs = c.needs;
  entries = entries_of c.entries;
}
