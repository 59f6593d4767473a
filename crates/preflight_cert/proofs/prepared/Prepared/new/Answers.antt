use Rattle.std.proofs.Common.{◌≡◌, Ok, ap, sym, ◌∙◌}
use Rattle.draw_ops.specs.RuleSets.{in_force}
use Rattle.draw_ops.specs.declared.rules.Rules.{Rules}
use Rattle.meta_headers.specs.OpenedOf.{opened_of}
use Rattle.meta_headers.specs.OpeningRules.{opened_by}
use Rattle.preflight_cert.specs.CertificateReading.{rules_in}
use Rattle.preflight_cert.proofs.ClearedLemmas.{accepted_reads, cleared_if_read, bytes_answer}
use Rattle.preflight_cert.proofs.RulesLemmas.{in_force_twice}
use Rattle.preflight_cert.proofs.prepared.Prepared.new.Goals as goal

pub invariant_of-result : goal.invariant_of-result
invariant_of-result c =
    let opened = c.in-Ok.opened in
    let o = opened_of opened in
    let answer = c.in-Ok-prepare_opened.ensures.accepted in
    let rules = c.opening_law.ensures.in_force c.args.rules c.args.file.now o c.in-Ok.ensures.opened in
    record {
      ruled = c.in-Ok-prepare_opened.ensures.rules ∙ ap in_force rules ∙ in_force_twice c.args.rules ∙ sym rules;
      readable = accepted_reads _ o opened.records.now answer;
      cleared = cleared_if_read c.content_law.ensures _ o opened.records.now answer;
      counted = c.in-Ok-prepare_opened.ensures.counts;
    }

-- the rules in force are those of the opened file and of the certificate
pub returns-in-Ok-prepare_opened-clause-rules : goal.returns-in-Ok-prepare_opened-clause-rules
returns-in-Ok-prepare_opened-clause-rules c =
    c.opening_law.ensures.in_force c.args.rules c.args.file.now (opened_of c.in-Ok.opened) c.in-Ok.ensures.opened

pub returns-in-Ok-prepare_opened-clause-written : goal.returns-in-Ok-prepare_opened-clause-written
returns-in-Ok-prepare_opened-clause-written c =
    c.in-Ok-prepare_opened.ensures.rules ∙ ap in_force (returns-in-Ok-prepare_opened-clause-rules c) ∙ in_force_twice c.args.rules

pub returns-in-Ok-prepare_opened-clause-opened : goal.returns-in-Ok-prepare_opened-clause-opened
returns-in-Ok-prepare_opened-clause-opened c =
    let file = c.args.file.now in
    let rules = returns-in-Ok-prepare_opened-clause-rules c in
    record {
      opens = ap (λ (r : Rules). opened_by r file) rules ∙ c.opening_law.ensures.again c.args.rules file ∙ c.in-Ok.ensures.opened;
      records = c.in-Ok.ensures.records;
    }

pub returns-in-Ok-prepare_opened-clause-accepted : goal.returns-in-Ok-prepare_opened-clause-accepted
returns-in-Ok-prepare_opened-clause-accepted c =
    let file = c.args.file.now in
    let written = returns-in-Ok-prepare_opened-clause-written c in
    let opens = ap (λ (r : Rules). opened_by r file) written ∙ c.opening_law.ensures.again c.args.rules file ∙ c.in-Ok.ensures.opened in
    bytes_answer file c.in-Ok-prepare_opened.text.items c.in-Ok.opened.records.now (opened_of c.in-Ok.opened) opens c.in-Ok.ensures.records
    c.in-Ok-prepare_opened.ensures.accepted
