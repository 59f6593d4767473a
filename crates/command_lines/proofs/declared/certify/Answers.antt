-- The width and height come first, then the files, the options for the folder, and those for the rules.
use Rattle.std.proofs.Common.{◌≡◌, ◌∙◌, ap, ap₂, codes, false}
use Rattle.std.proofs.lemmas.Result.{IfOk-weaker}
use Rattle.clap.specs.Simple.{app_of_fields}
use Rattle.clap.specs.Words.{app_of, new_app, with_rule}
use Rattle.clap.specs.declared.builder.command.Command.TheViews.{out-Command}
use Rattle.command_lines.specs.CommandLine.{with_dimensions, with_rules}
use Rattle.command_lines.proofs.AppLemmas.{both_local}
use Rattle.command_lines.proofs.declared.certify.Goals as goal

pub returns : goal.returns
returns c =
    let named : app_of c.about-command.result ≡ new_app (codes "certify") = ap app_of_fields c.about-command.ensures ∙ c.new.ensures.app in
    let none : (out-Command c.about-command.result).has_globals ≡ false = ap (λ fields. fields.has_globals) c.about-command.ensures ∙ c.new.ensures.local in
    let sized = c.in_ok-command.ensures in
    let one = c.in_ok-arg.ensures in
    let two = c.in_ok-arg-2.ensures in
    let three = c.in_ok-command-2.ensures in
    let shape_one = one.shape c.files.ensures.local ∙ ap₂ with_rule (sized.is ∙ ap with_dimensions named) c.files.ensures.rule in
    let local_one = both_local _ _ _ one.globals (sized.local none) c.files.ensures.local in
    let shape_two = two.shape c.folder.ensures.local ∙ ap₂ with_rule shape_one c.folder.ensures.rule in
    let local_two = both_local _ _ _ two.globals local_one c.folder.ensures.local in
    let shape = three.shape c.replace.ensures.local ∙ ap₂ with_rule shape_two c.replace.ensures.rule in
    let local = both_local _ _ _ three.globals local_two c.replace.ensures.local in
    IfOk-weaker c.with_rules.result _ _ (λ r ruled. record { is = ruled.is ∙ ap with_rules shape; local = ruled.local local }) c.with_rules.ensures
