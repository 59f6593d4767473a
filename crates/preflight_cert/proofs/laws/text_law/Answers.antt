-- The law, part by part.
use Rattle.preflight_cert.proofs.CertificateReadingLemmas.{is_certificate, is_text}
use Rattle.preflight_cert.proofs.CertificateTextLemmas.{reads_back, rules_back}
use Rattle.preflight_cert.proofs.laws.text_law.Goals as goal

pub returns : goal.returns
returns c = record {
  reads_back = reads_back;
  rules_back = rules_back;
  is_text = is_text;
  is_certificate = is_certificate;
}
