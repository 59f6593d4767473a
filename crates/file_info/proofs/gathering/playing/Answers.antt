-- A file plays everywhere exactly if a certificate is prepared for it at the largest bound.
use Rattle.std.proofs.Common.{◌≡◌, ℕ, List, Ok, refl, rules, true, false, ap, subst, sym, ◌∙◌}
use Rattle.draw_ops.specs.declared.rules.Rules.{Rules}
use Rattle.meta_headers.specs.OpenedOf.{opened_of}
use Rattle.meta_headers.specs.Opening.{HasContentOf, framing_of, meaning_of}
use Rattle.meta_headers.specs.OpeningRules.{opened_by}
use Rattle.preflight_cert.specs.CertificateOf.{certificate_of}
use Rattle.file_info.proofs.PlayingLemmas.{plays_everywhere, plays_not_everywhere, rejects}
use Rattle.file_info.proofs.gathering.playing.Goals as goal

pub returns-in-Ok-clause-is : goal.returns-in-Ok-clause-is
returns-in-Ok-clause-is c =
    let file = c.args.file.now in
    let prepared = c.in-Ok.prepared in
    let o = opened_of prepared.opened in
    let from = c.in-Ok.ensures.opened in
    let one = c.content_law.ensures (framing_of o.format) (meaning_of o.format) prepared.opened.records.now in
    let opens : opened_by c.args.rules file ≡ Ok o =
    sym (c.opening_law.ensures.again c.args.rules file) ∙ ap (λ (r : Rules). opened_by r file) (sym c.in-Ok.ensures.rules) ∙ from.opens in
    record {
      bytes = _;
      certificate = certificate_of c.clear-cleared.result.certificate;
      prepared = c.in-Ok.ensures.text;
      read = c.clear-cleared.ensures.read;
      all = c.len.ensures;
      most = refl;
      headers = o;
      content = one.value;
      of_file = record { opens = opens; records = subst (λ (bytes : List ℕ). HasContentOf o.format bytes one.value) from.records one.holds };
      used = c.clear-cleared.ensures.uses ∙ c.in-Ok.ensures.counts.uses one.value one.holds;
    }

pub returns-in-Ok-clause-everywhere : goal.returns-in-Ok-clause-everywhere
returns-in-Ok-clause-everywhere c =
    (λ is. plays_everywhere c.size_law.ensures c.opening_law.ensures c.args.rules c.args.file.now _ c.in-Ok.ensures.text, λ plays. refl)

pub returns-else-eq-clause-everywhere : goal.returns-else-eq-clause-everywhere
returns-else-eq-clause-everywhere c = (
  (λ is. let bad : false ≡ true = is in cc),
  (λ plays. absurd (plays_not_everywhere c.run_law.ensures.end c.args.rules c.args.file.now c.in-Err.refusal.number c.in-Err.refusal.fault
      (rejects c.args.rules c.args.file.now c.in-Err.refusal c.in-Err.ensures.refusal (search rules)) plays)),
)
