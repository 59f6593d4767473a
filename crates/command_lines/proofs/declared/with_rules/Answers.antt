-- Two options, one after the other.
use Rattle.std.proofs.Common.{◌∙◌, ap, ap₂}
use Rattle.std.proofs.lemmas.Result.{IfOk-weaker}
use Rattle.clap.specs.Words.{app_of, with_rule}
use Rattle.command_lines.proofs.AppLemmas.{both_local}
use Rattle.command_lines.proofs.declared.with_rules.Goals as goal

pub returns : goal.returns
returns c =
    let first = c.in_ok-arg.ensures.shape c.profile.ensures.local ∙ ap (with_rule (app_of c.args.command)) c.profile.ensures.rule in
    IfOk-weaker c.arg-2.result _ _
    (λ r added. record {
      is = added.shape c.allow.ensures.local ∙ ap₂ with_rule first c.allow.ensures.rule;
      local = λ none. both_local _ _ _ added.globals (both_local _ _ _ c.in_ok-arg.ensures.globals none c.profile.ensures.local) c.allow.ensures.local;
    }) c.arg-2.ensures
