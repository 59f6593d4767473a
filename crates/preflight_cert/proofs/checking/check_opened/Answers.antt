-- The records are accepted.
use Rattle.std.proofs.Common.{ap, sym, ◌∙◌}
use Rattle.meta_headers.specs.OpenedOf.{opened_of}
use Rattle.meta_headers.specs.SourceContent.{source_content}
use Rattle.mapping.specs.PageMap.{map_numbers}
use Rattle.dc_stack.specs.State.{State, start_state}
use Rattle.dc_stack.specs.declared.needs.Needs.{Needs}
use Rattle.preflight_cert.specs.After.{uses_after}
use Rattle.preflight_cert.specs.Answer.{total_fault}
use Rattle.object_tables.specs.Table.{TableKind}
use Rattle.preflight_cert.specs.CertificateOf.{certificate_of}
use Rattle.preflight_cert.proofs.ClearedLemmas.{cleared, records_accepted, records_counted}
use Rattle.preflight_cert.proofs.checking.check_opened.Goals as goal

pub invariant_of-result : goal.invariant_of-result
invariant_of-result c =
    let o = opened_of c.args.opened in
    let state = c.new-machine.ensures.state ∙ ap (λ (kind : TableKind). start_state c.args.opened.rules (map_numbers c.args.opened.start_map) kind) c.new-table.ensures.kind in
    record {
      ruled = c.requires.ruled;
      checked = cleared c.content_law.ensures o c.args.opened.records.now (certificate_of c.args.certificate)
          (records_accepted (source_content c.source.result) o c.args.opened.records.now (certificate_of c.args.certificate) c.new-machine.result c.source.ensures.content
          (record { state = state; surface = c.new-machine.ensures.surface ∙ c.new-place.ensures.surface; needs = c.new-machine.ensures.needs })
          c.of.result.counts c.check_steps.new.machine c.in-Ok.totals c.in-Ok.ensures.checked
          (ap (λ (needs : Needs). total_fault needs c.in-Ok.totals.writes (certificate_of c.args.certificate)) (sym c.needs.ensures) ∙ sym c.total_fault.ensures.fault ∙ c.in-None.is));
      counted = records_counted c.content_law.ensures (source_content c.source.result) o c.args.opened.records.now c.source.ensures.content c.of.result.counts c.in-Ok.totals c.of.ensures
          c.in-Ok.ensures.checked.records c.in-Ok.ensures.checked.notes
          (c.in-Ok.ensures.checked.uses ∙ ap (λ (s : State). uses_after (source_content c.source.result).steps s) state);
    }

pub returns-in-None-clause-counts : goal.returns-in-None-clause-counts
returns-in-None-clause-counts c =
    let o = opened_of c.args.opened in
    let checks = c.in-Ok.ensures.checked in
    let state = c.new-machine.ensures.state ∙ ap (λ (kind : TableKind). start_state c.args.opened.rules (map_numbers c.args.opened.start_map) kind) c.new-table.ensures.kind in
    records_counted c.content_law.ensures (source_content c.source.result) o c.args.opened.records.now c.source.ensures.content c.of.result.counts c.in-Ok.totals c.of.ensures checks.records checks.notes
    (checks.uses ∙ ap (λ (s : State). uses_after (source_content c.source.result).steps s) state)
