-- What is accepted is sound, under the certificate's rules.
use Rattle.std.proofs.Common.{◌≡◌, ℕ, List, Ok, ap, sym, ◌∙◌}
use Rattle.draw_ops.specs.RuleSets.{in_force}
use Rattle.draw_ops.specs.declared.rules.Rules.{Rules}
use Rattle.meta_headers.specs.OpenedOf.{opened_of}
use Rattle.meta_headers.specs.Headers.{OpenedValue}
use Rattle.meta_headers.specs.Opening.{record_bytes}
use Rattle.meta_headers.specs.OpeningRules.{opened_by, reopened}
use Rattle.meta_headers.specs.declared.opened.Opened.{Opened}
use Rattle.preflight_cert.specs.Answer.{accepted, rejects}
use Rattle.preflight_cert.specs.CertificateOf.{certificate_of}
use Rattle.preflight_cert.specs.CertificateReading.{rules_in}
use Rattle.preflight_cert.proofs.ClearedLemmas.{file_answer, file_refusal}
use Rattle.preflight_cert.proofs.RulesLemmas.{opened_again, read_in_force}
use Rattle.preflight_cert.proofs.checking.check.Goals as goal

-- the records of a file that was opened again
by_records : (file old new : List ℕ) (o again : OpenedValue) (rules : Rules) → new ≡ old → again ≡ reopened rules o → old ≡ record_bytes o.format file
    → new ≡ record_bytes again.format file
by_records file old new o again rules same e records = same ∙ records ∙ ap (λ (it : OpenedValue). record_bytes it.format file) (sym e)

-- the rules of the file that is opened again are those that were read
pub check_opened-requires : goal.check_opened-requires
check_opened-requires c =
    let read = c.in-Ok-read.ensures.rules in
    record { ruled = read ∙ sym (ap (λ o. o.rules) c.by.ensures.value ∙ ap in_force read ∙ read_in_force c.args.certificate.now) }

pub returns-in-Ok-check_opened-clause-rules : goal.returns-in-Ok-check_opened-clause-rules
returns-in-Ok-check_opened-clause-rules c =
    let bytes = c.args.certificate.now in
    let k = c.in-Ok-read.certificate in
    ap (λ o. o.rules) c.in-Ok-check_opened.ensures.opened ∙ ap (λ o. o.rules) c.by.ensures.value
    ∙ ap in_force c.in-Ok-read.ensures.rules ∙ read_in_force bytes

pub returns-in-Ok-check_opened-clause-opened : goal.returns-in-Ok-check_opened-clause-opened
returns-in-Ok-check_opened-clause-opened c =
    let o = c.in-Ok-check_opened.cleared.opened in
    let bytes = c.args.certificate.now in
    let file = c.args.file.now in
    let same = c.in-Ok-check_opened.ensures.opened in
    let again = opened_again file bytes (opened_of c.in-Ok.opened) (opened_of c.by.result) c.in-Ok-read.certificate.rules c.in-Ok.ensures.opened c.in-Ok-read.ensures.rules c.by.ensures.value in
    let rules : o.rules ≡ rules_in bytes = returns-in-Ok-check_opened-clause-rules c in
    let opens : opened_by o.rules file ≡ Ok (opened_of o) =
    ap (λ (r : Rules). opened_by r file) rules ∙ again ∙ ap (λ (it : Opened). Ok (opened_of it)) (sym same) in
    let before : c.by.result.records.now ≡ record_bytes c.by.result.format file =
    by_records file c.in-Ok.opened.records.now c.by.result.records.now (opened_of c.in-Ok.opened) (opened_of c.by.result) c.in-Ok-read.certificate.rules c.by.ensures.records c.by.ensures.value c.in-Ok.ensures.records in
    let records : o.records.now ≡ record_bytes o.format file = rw same before in
    record { opens = opens; records = records }

pub returns-in-Ok-check_opened-clause-sound : goal.returns-in-Ok-check_opened-clause-sound
returns-in-Ok-check_opened-clause-sound c =
    let o = c.by.result in
    let k = c.in-Ok-read.certificate in
    let bytes = c.args.certificate.now in
    let file = c.args.file.now in
    let again = opened_again file bytes (opened_of c.in-Ok.opened) (opened_of o) k.rules c.in-Ok.ensures.opened c.in-Ok-read.ensures.rules c.by.ensures.value in
    let records : o.records.now ≡ record_bytes o.format file = by_records file c.in-Ok.opened.records.now c.by.result.records.now (opened_of c.in-Ok.opened) (opened_of c.by.result) c.in-Ok-read.certificate.rules c.by.ensures.records c.by.ensures.value c.in-Ok.ensures.records in
    let answer = file_answer file bytes o.records.now (opened_of o) (certificate_of k) accepted again c.in-Ok-read.ensures.value records c.in-Ok-check_opened.ensures.accepted in
    let sound = c.answer_law.ensures.sound file bytes (opened_of o) (certificate_of k) again c.in-Ok-read.ensures.value answer in
    let rules = returns-in-Ok-check_opened-clause-rules c in
    rw (c.in-Ok-check_opened.ensures.certificate, rules) sound

pub returns-in-Err-check_opened-clause-refusal : goal.returns-in-Err-check_opened-clause-refusal
returns-in-Err-check_opened-clause-refusal c =
    let o = c.by.result in
    let k = c.in-Ok-read.certificate in
    let bytes = c.args.certificate.now in
    let file = c.args.file.now in
    let again = opened_again file bytes (opened_of c.in-Ok.opened) (opened_of o) k.rules c.in-Ok.ensures.opened c.in-Ok-read.ensures.rules c.by.ensures.value in
    let records : o.records.now ≡ record_bytes o.format file = by_records file c.in-Ok.opened.records.now c.by.result.records.now (opened_of c.in-Ok.opened) (opened_of c.by.result) c.in-Ok-read.certificate.rules c.by.ensures.records c.by.ensures.value c.in-Ok.ensures.records in
    file_refusal file bytes o.records.now (opened_of o) (certificate_of k) (rejects c.in-Err-check_opened.refusal.number c.in-Err-check_opened.refusal.fault)
    again c.in-Ok-read.ensures.value records c.in-Err-check_opened.ensures.refusal
