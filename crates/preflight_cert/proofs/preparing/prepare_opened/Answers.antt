-- What was gathered is the text of the certificate, which is accepted.
use Rattle.std.proofs.Common.{◌≡◌, ◌<◌, ◌^◌, ap, ◌∙◌, rules}
use Rattle.std.specs.Prelude.{IfSome}
use Rattle.mapping.specs.PageMap.{map_numbers}
use Rattle.meta_headers.specs.OpenedOf.{opened_of}
use Rattle.meta_headers.specs.Opening.{surface_for}
use Rattle.meta_headers.specs.SourceContent.{source_content}
use Rattle.object_tables.specs.Table.{TableKind}
use Rattle.dc_stack.specs.State.{State, start_state}
use Rattle.preflight_cert.specs.After.{uses_after}
use Rattle.preflight_cert.specs.CertificateReading.{rules_in}
use Rattle.preflight_cert.proofs.ClearedLemmas.{records_counted}
use Rattle.preflight_cert.proofs.PreparedLemmas.{gathered_text, held, least_certificate, records_prepared, records_read, bound_back, capacity, short, text_back, text_is}
use Rattle.preflight_cert.proofs.StartLemmas.{IsAtStart}
use Rattle.preflight_cert.proofs.preparing.prepare_opened.Goals as goal

-- there is room for the head, and so few bytes that their entries can be counted
pub finish-requires : goal.finish-requires
finish-requires c =
    let opened = c.args.opened in
    let o = opened_of opened in
    let w = c.args.max_width in
    let h = c.args.max_height in
    let m = c.new-machine.result in
    let state = c.new-machine.ensures.state ∙ ap (λ (kind : TableKind). start_state opened.rules (map_numbers opened.start_map) kind) c.new-table.ensures.kind in
    let at : IsAtStart o (surface_for o w h) m = record { state = state; surface = c.new-machine.ensures.surface ∙ c.new-place.ensures.surface; needs = c.new-machine.ensures.needs } in
    let content = source_content c.source.result in
    let made = c.in-Ok-gather.ensures in
    record {
      capacity = capacity content o opened.records.now w h m c.source.ensures.content at c.of-noted.result.counts c.in-Ok-gather.totals c.gather.new.machine c.in-Ok.draft c.gather.new.draft c.in-Ok.ensures made.gathers;
      short = short content o opened.records.now w h m c.source.ensures.content at c.of-noted.result.counts c.in-Ok-gather.totals c.gather.new.machine c.in-Ok.draft c.gather.new.draft c.in-Ok.ensures made.gathers made.few;
    }

pub returns-in-Ok-finish : goal.returns-in-Ok-finish
returns-in-Ok-finish c =
    let handles : IfSome (opened_of c.args.opened).handles (λ n. n < 2 ^ 16) = c.handles_law.ensures in
    let opened = c.args.opened in
    let o = opened_of opened in
    let w = c.args.max_width in
    let h = c.args.max_height in
    let m = c.new-machine.result in
    let state = c.new-machine.ensures.state ∙ ap (λ (kind : TableKind). start_state opened.rules (map_numbers opened.start_map) kind) c.new-table.ensures.kind in
    let at : IsAtStart o (surface_for o w h) m = record { state = state; surface = c.new-machine.ensures.surface ∙ c.new-place.ensures.surface; needs = c.new-machine.ensures.needs } in
    let content = source_content c.source.result in
    let noted = c.of-noted.result.counts in
    let totals = c.in-Ok-gather.totals in
    let new = c.gather.new.machine in
    let before = c.in-Ok.draft in
    let after = c.gather.new.draft in
    let none = c.in-Ok.ensures in
    let gathers = c.in-Ok-gather.ensures.gathers in
    let few = c.in-Ok-gather.ensures.few in
    let text = c.in-Ok-finish.text.items in
    let entries = (least_certificate content o w h).entries in
    let holds = held content o opened.records.now w h m c.source.ensures.content at noted totals new before after none gathers in
    let written : text ≡ gathered_text o.rules w h totals.writes new.needs after.version entries = rw c.needs.ensures at (c.in-Ok-finish.ensures entries holds) in
    let fits : totals.writes < 2 ^ 64 = search rules in
    record {
      text = records_prepared content o opened.records.now w h m c.source.ensures.content at noted totals new before after none gathers text written c.box_law.ensures;
      accepted = records_read content o opened.records.now w h m c.source.ensures.content at noted totals new before after none gathers text written
          c.box_law.ensures c.need_law.ensures c.preparation_law.ensures c.text_law.ensures c.answer_law.ensures c.requires.wide c.requires.high handles fits few;
      sides = bound_back content o opened.records.now w h m c.source.ensures.content at noted totals new before after none gathers text
          (text_back content o opened.records.now w h m c.source.ensures.content at noted totals new before after none gathers text written
          c.need_law.ensures c.text_law.ensures c.requires.wide c.requires.high handles fits few);
      counts = records_counted c.content_law.ensures content o opened.records.now c.source.ensures.content noted totals c.of-noted.ensures gathers.records gathers.notes (gathers.uses ∙ ap (λ (s : State). uses_after content.steps s) state);
      rules = ap rules_in (text_is content o opened.records.now w h m c.source.ensures.content at noted totals new before after none gathers text written)
          ∙ c.text_law.ensures.rules_back opened.rules (least_certificate content o w h);
      refusal = tt;
      number_reported = tt;
    }
