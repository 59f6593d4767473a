-- What checking steps tells is the answer.
use Rattle.std.proofs.Common.{◌≡◌, ◌⊎◌, inl, inr, ℕ, Bool, true, false, List, length, Option, None, Result, Ok, Err, IsOk, refl, ap, sym, subst, ◌∙◌}
use Rattle.std.proofs.lemmas.Bool.{true≢false}
use Rattle.mapping.specs.Surface.{Surface}
use Rattle.draw_ops.specs.Content.{Content}
use Rattle.draw_ops.specs.RecordContent.{ContentIsOne}
use Rattle.draw_ops.specs.declared.fault.Fault.{Fault}
use Rattle.meta_headers.specs.Headers.{OpenedValue}
use Rattle.meta_headers.specs.Opening.{HasContentOf, framing_of, meaning_of, record_bytes}
use Rattle.meta_headers.specs.OpeningRules.{opened_by}
use Rattle.dc_stack.specs.MachineState.{MachineState}
use Rattle.dc_stack.specs.State.{State, start_of}
use Rattle.dc_stack.specs.declared.needs.Needs.{Needs}
use Rattle.preflight_cert.specs.After.{file_notes, file_uses, needs_after, notes_after}
use Rattle.preflight_cert.specs.Answer.{Answer, AnswersRead, CountsRecords, IsAnswer, IsCleared, RecordsAnswer, accepted, answer_from, answer_to, bound_of, rejects, total_fault}
use Rattle.preflight_cert.specs.CertificateReading.{CertificateValue, read_certificate, rules_in}
use Rattle.preflight_cert.specs.Checked.{check_of}
use Rattle.preflight_cert.specs.Checks.{Checks}
use Rattle.preflight_cert.specs.Drawings.{drawings_of}
use Rattle.preflight_cert.specs.Entries.{budget_of}
use Rattle.preflight_cert.specs.declared.entry_check.Totals.{Totals}
use Rattle.preflight_cert.proofs.StartLemmas.{IsAtStart}

-- the answer from a state on, on a surface, beside needs from before
abbrev answer_on : Content → State → Surface → Needs → CertificateValue → Answer
answer_on content state s needs c =
    answer_from (check_of content state s c.entries)
    (total_fault (needs_after content.steps state needs) (budget_of (drawings_of content.steps state) c.entries s) c)

module _ (content : Content) (c : CertificateValue) (noted : List ℕ) (m new : MachineState) (totals : Totals) (checks : Checks content m c.entries noted totals new) where
  total_on : (fault : Option Fault) → total_fault new.needs totals.writes c ≡ fault
      → total_fault (needs_after content.steps m.state m.needs) (budget_of (drawings_of content.steps m.state) c.entries m.surface) c ≡ fault
  total_on fault e = rw (checks.needs, checks.is_budget) at e

  accepted_on : total_fault new.needs totals.writes c ≡ None → accepted ≡ answer_on content m.state m.surface m.needs c
  accepted_on e = rw (checks.in_order, total_on None e) refl

same_answer : (content : Content) (o : OpenedValue) (c : CertificateValue) (m : MachineState) → IsAtStart o (bound_of o c) m → answer_on content m.state m.surface m.needs c ≡ answer_to content o c
same_answer content o c m at =
    ap (λ (state : State). answer_on content state m.surface m.needs c) at.state
    ∙ ap (λ (s : Surface). answer_on content (start_of o) s m.needs c) at.surface
    ∙ ap (λ (needs : Needs). answer_on content (start_of o) (bound_of o c) needs c) at.needs

module _ (content : Content) (o : OpenedValue) (records : List ℕ) (c : CertificateValue) (m : MachineState) (of_records : HasContentOf o.format records content) (at : IsAtStart o (bound_of o c) m) where
  pub records_accepted : (noted : List ℕ) (new : MachineState) (totals : Totals) → Checks content m c.entries noted totals new → total_fault new.needs totals.writes c ≡ None → RecordsAnswer o records c accepted
  records_accepted noted new totals checks none =
      record { content = content; of_records = of_records; answers = accepted_on content c noted m new totals checks none ∙ same_answer content o c m at }

-- what was counted of one content is counted of the records
pub records_counted :
    ContentIsOne → (content : Content) (o : OpenedValue) (records : List ℕ) → HasContentOf o.format records content → (noted : List ℕ) (totals : Totals) → noted ≡ o.notes
    → totals.records ≡ length content.steps → totals.notes.counts ≡ notes_after content.steps noted → totals.uses ≡ file_uses content o
    → CountsRecords o records totals.records totals.notes.counts totals.uses
records_counted one content o records of_records noted totals of_headers counted kept used =
    let the_one = one (framing_of o.format) (meaning_of o.format) records in
    let same : (other : Content) → HasContentOf o.format records other → content ≡ other =
    λ (other : Content) (h : HasContentOf o.format records other). the_one.only content of_records ∙ sym (the_one.only other h) in
    record {
      all = λ other h. counted ∙ ap (λ (k : Content). length k.steps) (same other h);
      notes = λ other h. kept ∙ ap (λ (counts : List ℕ). notes_after content.steps counts) of_headers ∙ ap (λ (k : Content). file_notes k o) (same other h);
      uses = λ other h. used ∙ ap (λ (k : Content). file_uses k o) (same other h);
    }

pub cleared : ContentIsOne → (o : OpenedValue) (records : List ℕ) (c : CertificateValue) → RecordsAnswer o records c accepted → IsCleared o records c
cleared one o records c answer content h =
    let the_one = one (framing_of o.format) (meaning_of o.format) records in
    answer.answers ∙ ap (λ (k : Content). answer_to k o c) (the_one.only answer.content answer.of_records ∙ sym (the_one.only content h))

-- a certificate that is read is cleared, where the answer to what is read accepts
pub cleared_if_read : ContentIsOne → (read : Result CertificateValue Fault) (o : OpenedValue) (records : List ℕ) → AnswersRead read o records accepted → (c : CertificateValue) → read ≡ Ok c → IsCleared o records c
cleared_if_read one read o records answer c e = cleared one o records c (subst (λ (r : Result CertificateValue Fault). AnswersRead r o records accepted) e answer)

-- an answer that accepts
is_accepted : Answer → Bool
is_accepted accepted = true
is_accepted (rejects number fault) = false

-- and read it is
pub accepted_reads : (read : Result CertificateValue Fault) (o : OpenedValue) (records : List ℕ) → AnswersRead read o records accepted → IsOk read
unfolding is_accepted
accepted_reads (Ok c) o records answer = refl
accepted_reads (Err fault) o records answer = absurd (true≢false (ap is_accepted answer))

-- the answer to records is that to the file
pub file_answer : (file bytes records : List ℕ) (o : OpenedValue) (c : CertificateValue) (answer : Answer) → opened_by (rules_in bytes) file ≡ Ok o → read_certificate bytes ≡ Ok c → records ≡ record_bytes o.format file
    → RecordsAnswer o records c answer → IsAnswer file bytes answer
file_answer file bytes records o c answer e f g h = rw (e, f, sym g) h

pub file_refusal : {W : Type 0} (file bytes records : List ℕ) (o : OpenedValue) (c : CertificateValue) (answer : Answer) → opened_by (rules_in bytes) file ≡ Ok o → read_certificate bytes ≡ Ok c → records ≡ record_bytes o.format file
    → RecordsAnswer o records c answer ⊎ W → IsAnswer file bytes answer ⊎ W
file_refusal file bytes records o c answer e f g (inl h) = inl (file_answer file bytes records o c answer e f g h)
file_refusal file bytes records o c answer e f g (inr w) = inr w

-- the answer to what is read for the records is that to the file
pub bytes_answer : (file bytes records : List ℕ) (o : OpenedValue) → opened_by (rules_in bytes) file ≡ Ok o → records ≡ record_bytes o.format file
    → AnswersRead (read_certificate bytes) o records accepted → IsAnswer file bytes accepted
bytes_answer file bytes records o opens g h = rw opens (rw g at h)
