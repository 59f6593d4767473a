-- The command without its help texts, command by command.
use Rattle.std.proofs.Common.{◌≡◌, ◌∙◌, ap, ap₂, codes, true}
use Rattle.std.proofs.lemmas.Result.{IfOk-weaker}
use Rattle.clap.specs.Words.{App, app_of, new_app, with_subcommand}
use Rattle.clap.specs.Simple.{app_of_fields}
use Rattle.command_lines.specs.CommandLine.{bare_app, check_app, info_app, list_app, over_app, play_app, prepare_app, show_app}
use Rattle.command_lines.proofs.declared.metaplay.Goals as goal

pub returns : goal.returns
returns c =
    let named : app_of c.in_ok-bin_name.field-0 ≡ new_app (codes "metaplay") = ap app_of_fields c.in_ok-bin_name.ensures.0 ∙ c.new.ensures.app in
    let printed : app_of c.after_help.result ≡ new_app (codes "metaplay") = ap app_of_fields c.after_help.ensures ∙ (ap app_of_fields c.about.ensures ∙ named) in
    let bare : app_of c.subcommand_required.result ≡ bare_app =
    ap app_of_fields c.subcommand_required.ensures ∙ ap (λ (a : App). record a { top = record a.top { subcommand_required = true } }) printed in
    let one : app_of c.in_ok-subcommand.field-0 ≡ with_subcommand bare_app show_app.top =
    c.in_ok-subcommand.ensures.shape c.in_ok-show.ensures.local ∙ ap₂ with_subcommand bare (ap (λ (a : App). a.top) c.in_ok-show.ensures.is) in
    let two : app_of c.in_ok-subcommand-2.field-0 ≡ with_subcommand (with_subcommand bare_app show_app.top) prepare_app.top =
    c.in_ok-subcommand-2.ensures.shape c.in_ok-prepare.ensures.local ∙ ap₂ with_subcommand one (ap (λ (a : App). a.top) c.in_ok-prepare.ensures.is) in
    let three : app_of c.in_ok-subcommand-3.field-0 ≡ with_subcommand (with_subcommand (with_subcommand bare_app show_app.top) prepare_app.top) check_app.top =
    c.in_ok-subcommand-3.ensures.shape c.in_ok-check.ensures.local ∙ ap₂ with_subcommand two (ap (λ (a : App). a.top) c.in_ok-check.ensures.is) in
    let four : app_of c.in_ok-subcommand-4.field-0 ≡ with_subcommand (with_subcommand (with_subcommand (with_subcommand bare_app show_app.top) prepare_app.top) check_app.top) play_app.top =
    c.in_ok-subcommand-4.ensures.shape c.in_ok-play.ensures.local ∙ ap₂ with_subcommand three (ap (λ (a : App). a.top) c.in_ok-play.ensures.is) in
    let five : app_of c.in_ok-subcommand-5.field-0 ≡
    with_subcommand (with_subcommand (with_subcommand (with_subcommand (with_subcommand bare_app show_app.top) prepare_app.top) check_app.top) play_app.top)
    over_app.top =
    c.in_ok-subcommand-5.ensures.shape c.in_ok-over.ensures.local ∙ ap₂ with_subcommand four (ap (λ (a : App). a.top) c.in_ok-over.ensures.is) in
    let six : app_of c.in_ok-subcommand-6.field-0 ≡
    with_subcommand
    (with_subcommand (with_subcommand (with_subcommand (with_subcommand (with_subcommand bare_app show_app.top) prepare_app.top) check_app.top) play_app.top)
    over_app.top)
    list_app.top =
    c.in_ok-subcommand-6.ensures.shape c.in_ok-list.ensures.local ∙ ap₂ with_subcommand five (ap (λ (a : App). a.top) c.in_ok-list.ensures.is) in
    let seven : app_of c.in_ok-subcommand-7.field-0 ≡
    with_subcommand
    (with_subcommand
    (with_subcommand (with_subcommand (with_subcommand (with_subcommand (with_subcommand bare_app show_app.top) prepare_app.top) check_app.top) play_app.top)
    over_app.top)
    list_app.top)
    info_app.top =
    c.in_ok-subcommand-7.ensures.shape c.in_ok-info.ensures.local ∙ ap₂ with_subcommand six (ap (λ (a : App). a.top) c.in_ok-info.ensures.is) in
    IfOk-weaker c.subcommand-8.result _ _ (λ r added. added.shape c.in_ok-certify.ensures.local ∙ ap₂ with_subcommand seven (ap (λ (a : App). a.top) c.in_ok-certify.ensures.is)) c.subcommand-8.ensures
