-- Two arguments, one after the other.
use Rattle.std.proofs.Common.{◌∙◌, ap, ap₂}
use Rattle.std.proofs.lemmas.Result.{IfOk-weaker}
use Rattle.clap.specs.Words.{app_of, with_rule}
use Rattle.command_lines.proofs.AppLemmas.{both_local}
use Rattle.command_lines.proofs.declared.with_dimensions.Goals as goal

pub returns : goal.returns
returns c =
    let first = c.in_ok-arg.ensures.shape c.side.ensures.local ∙ ap (with_rule (app_of c.args.command)) c.side.ensures.rule in
    IfOk-weaker c.arg-2.result _ _
    (λ r added. record {
      is = added.shape c.side-2.ensures.local ∙ ap₂ with_rule first c.side-2.ensures.rule;
      local = λ none. both_local _ _ _ added.globals (both_local _ _ _ c.in_ok-arg.ensures.globals none c.side.ensures.local) c.side-2.ensures.local;
    }) c.arg-2.ensures
