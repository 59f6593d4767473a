-- What holds for the records of an opened file.
use Rattle.std.specs.Prelude.{ℕ, List}
use Rattle.meta_headers.specs.OpenedOf.{opened_of}
use Rattle.meta_headers.specs.declared.opened.Opened.{Opened}
use Rattle.preflight_cert.specs.Answer.{Answer, AnswersRead, CountsRecords, RecordsAnswer, rejects}
use Rattle.preflight_cert.specs.CertificateOf.{certificate_of}
use Rattle.preflight_cert.specs.CertificateReading.{read_certificate}
use Rattle.preflight_cert.specs.Preparation.{PreparesRecords}
use Rattle.preflight_cert.specs.StoppedRecords.{StopsOpened}
use Rattle.preflight_cert.specs.declared.certificate.Certificate.{Certificate}
use Rattle.preflight_cert.specs.declared.refusal.Refusal.{Refusal}
use Rattle.preflight_cert.specs.declared.uses.Uses.{Uses}

-- these are the number of records, the number of notes of each kind of the file, and what it uses
abbrev pub CountsRecordsOf : Opened → ℕ → List ℕ → Uses → Type 0
CountsRecordsOf opened count noted used = CountsRecords (opened_of opened) opened.records.now count noted used

-- the answer to the records and a certificate
abbrev pub AnswersRecordsOf : Opened → Certificate → Answer → Type 0
AnswersRecordsOf opened certificate answer = RecordsAnswer (opened_of opened) opened.records.now (certificate_of certificate) answer

-- the records and a certificate are rejected in this way
abbrev pub RejectsRecordsOf : Opened → Certificate → Refusal → Type 0
RejectsRecordsOf opened certificate r = AnswersRecordsOf opened certificate (rejects r.number r.fault)

-- the answer to the records and the certificate with these bytes
abbrev pub AnswersBytesOf : Opened → List ℕ → Answer → Type 0
AnswersBytesOf opened bytes answer = AnswersRead (read_certificate bytes) (opened_of opened) opened.records.now answer

-- the bytes are the certificate that is prepared for the records at a bound
abbrev pub PreparesRecordsOf : Opened → ℕ → ℕ → List ℕ → Type 0
PreparesRecordsOf opened width height bytes = PreparesRecords (opened_of opened) opened.records.now width height bytes

-- the records stop on a surface of this size, and the error says where
abbrev pub StopsRecordsOf : Opened → ℕ → ℕ → Refusal → Type 0
StopsRecordsOf opened width height r = StopsOpened (opened_of opened) opened.records.now width height r
