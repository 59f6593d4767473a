-- The certificate comes after the file, then the width and height, then the options.
use Rattle.std.proofs.Common.{◌∙◌, ap, ap₂}
use Rattle.std.proofs.lemmas.Result.{IfOk-weaker}
use Rattle.clap.specs.Words.{with_rule}
use Rattle.command_lines.specs.CommandLine.{with_dimensions}
use Rattle.command_lines.proofs.AppLemmas.{both_local}
use Rattle.command_lines.proofs.declared.play.Goals as goal

pub returns : goal.returns
returns c =
    let given = c.in_ok-command-2.ensures in
    let shape = given.shape c.name.ensures.local ∙ ap₂ with_rule c.in_ok-command.ensures.is c.name.ensures.rule in
    let local = both_local _ _ _ given.globals c.in_ok-command.ensures.local c.name.ensures.local in
    let dimensions = c.in_ok-command-3.ensures in
    let banded = c.in_ok-command-4.ensures in
    let shape_banded = banded.shape c.bands.ensures.local ∙ ap₂ with_rule (dimensions.is ∙ ap with_dimensions shape) c.bands.ensures.rule in
    let local_banded = both_local _ _ _ banded.globals (dimensions.local local) c.bands.ensures.local in
    IfOk-weaker c.arg-3.result _ _
    (λ r added. record {
      is = added.shape c.fit.ensures.local ∙ ap₂ with_rule shape_banded c.fit.ensures.rule;
      local = both_local _ _ _ added.globals local_banded c.fit.ensures.local;
    }) c.arg-3.ensures
