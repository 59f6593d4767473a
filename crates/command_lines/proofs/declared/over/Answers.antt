-- The certificate comes after the file, then the image.
use Rattle.std.proofs.Common.{◌∙◌, ap₂}
use Rattle.std.proofs.lemmas.Result.{IfOk-weaker}
use Rattle.clap.specs.Words.{with_rule}
use Rattle.command_lines.proofs.AppLemmas.{both_local}
use Rattle.command_lines.proofs.declared.over.Goals as goal

pub returns : goal.returns
returns c =
    let given = c.in_ok-command-2.ensures in
    let shape = given.shape c.name.ensures.local ∙ ap₂ with_rule c.in_ok-command.ensures.is c.name.ensures.rule in
    let local = both_local _ _ _ given.globals c.in_ok-command.ensures.local c.name.ensures.local in
    IfOk-weaker c.arg-2.result _ _
    (λ r added. record {
      is = added.shape c.name-2.ensures.local ∙ ap₂ with_rule shape c.name-2.ensures.rule;
      local = both_local _ _ _ added.globals local c.name-2.ensures.local;
    }) c.arg-2.ensures
