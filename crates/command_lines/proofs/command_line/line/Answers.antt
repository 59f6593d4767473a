-- What the words ask for follows from what clap finds in them.
use Rattle.std.proofs.Common.{◌≡◌, ◌∙◌, Bool, List, [], Option, Result, Ok, Err, IfErr, IfSome, IsSome, IsErrAnd, ap, false, inl, inr, subst, sym, true}
use Rattle.clap.specs.Faults.{fault_of, is_simple_and_free}
use Rattle.clap.specs.Words.{App, HasKind, IsAmong, Kinds, Row, Text, app_of, is_simple, kind_of, subcommand_of, subcommand_rows_of, takes}
use Rattle.clap.specs.declared.error.Error.{Error}
use Rattle.clap.specs.declared.error.kind.ErrorKind.TheVariants.{DisplayHelp, OutOfMemory}
use Rattle.command_lines.specs.Asked.{IsFound}
use Rattle.command_lines.specs.CommandLine.{IsRightCommand, metaplay_app, texts_of}
use Rattle.command_lines.specs.HelpWords.{AsksHelp}
use Rattle.command_lines.specs.BatchWords.{AreAccepted, AreCommandWords, AsksRightCertify, AsksRightInfo, IsNoBatch}
use Rattle.command_lines.specs.declared.asked.Asked.{Asked}
use Rattle.command_lines.proofs.CommandLemmas.{command_words_found, command_words_taken, few_texts}
use Rattle.command_lines.proofs.ProfileLemmas.{none_wrong}
use Rattle.command_lines.proofs.WordLemmas.{asked_for, plain_words}
use Rattle.command_lines.proofs.command_line.line.Goals as goal

-- the words don't ask for the version
no_version : {A : Type 0} (asks : Bool) → asks ≡ false → (asks ≡ true → A) × (A → asks ≡ true) → A → ⊥
no_version asks is ensures asked = let bad : asks ≡ true = ensures.1 asked in cc

pub returns-in-Some-clause-asked : goal.returns-in-Some-clause-asked
returns-in-Some-clause-asked c =
    let app : app_of c.in_ok-command.command ≡ metaplay_app = c.in_ok-command.ensures in
    let met : subcommand_rows_of c.in_ok-matches.matches ≡ subcommand_of metaplay_app (texts_of c.args.words.now) =
    (c.in_ok-matches.ensures.ok.2 (ap is_simple app)).1 ∙ ap (λ (a : App). subcommand_of a (texts_of c.args.words.now)) app in
    asked_for (texts_of c.args.words.now) c.in-Some.asked (subst (λ (rows : Option (Text × List Row)). IsFound rows c.in-Some.asked) met (subst (λ (found : Option Asked). IfSome found (IsFound (subcommand_rows_of c.in_ok-matches.matches))) c.in-Some.is c.in_ok-asked.ensures.asked))

pub returns-in-Some-clause-plain : goal.returns-in-Some-clause-plain
returns-in-Some-clause-plain c =
    let app : app_of c.in_ok-command.command ≡ metaplay_app = c.in_ok-command.ensures in
    let met : subcommand_rows_of c.in_ok-matches.matches ≡ subcommand_of metaplay_app (texts_of c.args.words.now) =
    (c.in_ok-matches.ensures.ok.2 (ap is_simple app)).1 ∙ ap (λ (a : App). subcommand_of a (texts_of c.args.words.now)) app in
    plain_words (texts_of c.args.words.now) c.in-Some.asked (asked_for (texts_of c.args.words.now) c.in-Some.asked (subst (λ (rows : Option (Text × List Row)). IsFound rows c.in-Some.asked) met (subst (λ (found : Option Asked). IfSome found (IsFound (subcommand_rows_of c.in_ok-matches.matches))) c.in-Some.is c.in_ok-asked.ensures.asked)))

-- `?` returns an error unchanged
passed_up : {T E : Type 0} (r : Result T E) (e : E) (P : E → Type 0) → IsErrAnd r (λ y. y ≡ e) → P e → IfErr r P
passed_up (Ok x) e P is p = tt
passed_up (Err y) e P is p = subst P (sym is) p

pub returns-in_err-matches-clause-taken : goal.returns-in_err-matches-clause-taken
returns-in_err-matches-clause-taken c =
    let app : app_of c.in_ok-command.command ≡ metaplay_app = c.in_ok-command.ensures in
    let memory : AreCommandWords (texts_of c.args.words.now) → kind_of c.in_err-matches.field-0.0 ≡ OutOfMemory = λ right.
    c.in_err-matches.ensures.passes (ap (λ (a : App). takes a (texts_of c.args.words.now)) app ∙ command_words_taken (texts_of c.args.words.now) (no_version c.asks_version.result c.if-asks_version.false c.asks_version.ensures) right (few_texts c.args.words.now c.count_law.ensures)) in
    passed_up c.from_residual-in_err-matches.result c.in_err-matches.field-0.0 (λ (error : Error). AreCommandWords (texts_of c.args.words.now) → kind_of error ≡ OutOfMemory) c.from_residual-in_err-matches.ensures.1 memory

pub returns-in_err-matches-clause-accepted : goal.returns-in_err-matches-clause-accepted
returns-in_err-matches-clause-accepted c =
    let app : app_of c.in_ok-command.command ≡ metaplay_app = c.in_ok-command.ensures in
    let memory : AreAccepted (texts_of c.args.words.now) → kind_of c.in_err-matches.field-0.0 ≡ OutOfMemory = λ accepted.
    c.in_err-matches.ensures.passes (ap (λ (a : App). takes a (texts_of c.args.words.now)) app ∙ accepted.taken) in
    passed_up c.from_residual-in_err-matches.result c.in_err-matches.field-0.0 (λ (error : Error). AreAccepted (texts_of c.args.words.now) → kind_of error ≡ OutOfMemory) c.from_residual-in_err-matches.ensures.1 memory

pub returns-clause-accepted : goal.returns-clause-accepted
returns-clause-accepted c = λ accepted.
    let app : app_of c.in_ok-command.command ≡ metaplay_app = c.in_ok-command.ensures in
    let met : subcommand_rows_of c.in_ok-matches.matches ≡ subcommand_of metaplay_app (texts_of c.args.words.now) =
    (c.in_ok-matches.ensures.ok.2 (ap is_simple app)).1 ∙ ap (λ (a : App). subcommand_of a (texts_of c.args.words.now)) app in
    let found : false ≡ true = elim accepted.right [
      | inl command ↦ subst IsSome c.in-None.is (c.in_ok-asked.ensures.command_taken (subst IsRightCommand (sym met) command.0) (subst IsNoBatch (sym met) command.1))
      | inr batch ↦ elim batch [
        | inl info ↦ subst IsSome c.in-None.is (c.in_ok-asked.ensures.info_taken (subst AsksRightInfo (sym met) info))
        | inr certify ↦ subst IsSome c.in-None.is (c.in_ok-asked.ensures.certify_taken (subst AsksRightCertify (sym met) certify))
      ]
    ] in
    cc

pub returns-clause-taken : goal.returns-clause-taken
returns-clause-taken c = λ right.
    let app : app_of c.in_ok-command.command ≡ metaplay_app = c.in_ok-command.ensures in
    let met : subcommand_rows_of c.in_ok-matches.matches ≡ subcommand_of metaplay_app (texts_of c.args.words.now) =
    (c.in_ok-matches.ensures.ok.2 (ap is_simple app)).1 ∙ ap (λ (a : App). subcommand_of a (texts_of c.args.words.now)) app in
    let bad : false ≡ true = command_words_found (texts_of c.args.words.now) _ false met (λ right other. subst IsSome c.in-None.is (c.in_ok-asked.ensures.command_taken right other)) (λ info. subst IsSome c.in-None.is (c.in_ok-asked.ensures.info_taken info))
    (λ certify. subst IsSome c.in-None.is (c.in_ok-asked.ensures.certify_taken certify)) (no_version c.asks_version.result c.if-asks_version.false c.asks_version.ensures) right in
    cc

pub returns-in-Some-clause-refused : goal.returns-in-Some-clause-refused
returns-in-Some-clause-refused c =
    let app : app_of c.in_ok-command.command ≡ metaplay_app = c.in_ok-command.ensures in
    let faultless : fault_of (app_of c.in_ok-command.command) (texts_of c.args.words.now) ≡ [] = c.in_ok-matches.ensures.kinds (ap is_simple_and_free app) in
    none_wrong (texts_of c.args.words.now) (subst (λ (a : App). fault_of a (texts_of c.args.words.now) ≡ []) app faultless)

-- an error that is help is among what clap may answer
is_asked : (kinds : Kinds) (e : Error) → HasKind kinds e → kind_of e ≡ DisplayHelp → IsAmong DisplayHelp kinds
is_asked kinds e (inl memory) help = cc
is_asked kinds e (inr among) help = rw help at among

pub returns-in_err-matches-clause-help : goal.returns-in_err-matches-clause-help
returns-in_err-matches-clause-help c =
    let app : app_of c.in_ok-command.command ≡ metaplay_app = c.in_ok-command.ensures in
    let among : kind_of c.in_err-matches.field-0.0 ≡ DisplayHelp → AsksHelp (texts_of c.args.words.now) = λ help.
    is_asked _ c.in_err-matches.field-0.0 (subst (λ (a : App). HasKind (fault_of a (texts_of c.args.words.now)) c.in_err-matches.field-0.0) app (c.in_err-matches.ensures.kinds (ap is_simple_and_free app))) help in
    passed_up c.from_residual-in_err-matches.result c.in_err-matches.field-0.0 (λ (error : Error). kind_of error ≡ DisplayHelp → AsksHelp (texts_of c.args.words.now)) c.from_residual-in_err-matches.ensures.1 among
