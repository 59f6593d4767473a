-- A file and a certificate that were checked: the file is sound.
use Rattle.std.proofs.Common.{ℕ, List, subst}
use Rattle.draw_ops.specs.RecordContent.{ContentIsOne}
use Rattle.meta_headers.specs.File.{FileIsOne}
use Rattle.meta_headers.specs.Headers.{OpenedValue}
use Rattle.meta_headers.specs.OpenedOf.{opened_of}
use Rattle.meta_headers.specs.Opening.{framing_of, meaning_of}
use Rattle.preflight_cert.specs.Answer.{IsCleared, RecordsAnswer, accepted}
use Rattle.preflight_cert.specs.CertificateOf.{certificate_of}
use Rattle.preflight_cert.specs.CertificateReading.{CertificateValue}
use Rattle.preflight_cert.specs.ClearedFacts.{ClearedIsSound}
use Rattle.meta_headers.specs.OpeningLaws.{OpeningLaws}
use Rattle.preflight_cert.specs.SizeLaws.{SizeLaws}
use Rattle.preflight_cert.proofs.AnswerLemmas.{sound_of}

-- what is cleared for each content is answered for the one that there is
answered : ContentIsOne → (o : OpenedValue) (records : List ℕ) (c : CertificateValue) → IsCleared o records c → RecordsAnswer o records c accepted
answered one o records c cleared =
    let content = one (framing_of o.format) (meaning_of o.format) records in
    record { content = content.value; of_records = content.holds; answers = cleared content.value content.holds }

pub cleared_is_sound : ContentIsOne → FileIsOne → OpeningLaws → SizeLaws → ClearedIsSound
cleared_is_sound one of_file opening laws c file from =
    let o = opened_of c.opened in
    let k = certificate_of c.certificate in
    sound_of of_file opening laws c.opened.rules file o k from.opens
    (subst (λ (records : List ℕ). RecordsAnswer o records k accepted) from.records (answered one o c.opened.records.now k c.checked))
