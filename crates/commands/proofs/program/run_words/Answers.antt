-- What a command that was parsed writes is what the words write.
use Rattle.std.proofs.Common.{◌≡◌, ◌⊎◌, List, inl, inr, subst, sym}
use Rattle.std.specs.Prelude.{◌↔◌}
use Rattle.command_lines.specs.Asked.{IsAskedFor, IsValid}
use Rattle.command_lines.specs.CommandLine.{IsAskedByWords, texts_of}
use Rattle.command_lines.specs.Dimensions.{HasDimensions}
use Rattle.command_lines.specs.BatchWords.{AreAccepted, AreCommandWords, names_in}
use Rattle.command_lines.specs.declared.asked.CommandLine.{CommandLine}
use Rattle.commands.proofs.LineLemmas.{err_of_line, err_of_names, err_of_usage, err_of_version, help_status, holds_of_line, holds_of_names, line_not_stored, named_file, never_usage, no_status, out_of_line, out_of_names, out_of_usage, out_of_version, same_of_line, same_status, same_unwritten, status_of_line, usage_only, version_is_right, version_not_read, version_not_rejected, version_not_stored}
use Rattle.commands.specs.Statuses.{status_of}
use Rattle.clap.specs.declared.error.kind.ErrorKind.{ErrorKind}
use Rattle.clap.specs.declared.error.kind.ErrorKind.TheVariants.{OutOfMemory}
use Rattle.clap.specs.Words.{Text}
use Rattle.commands.specs.declared.command_end.CommandEnd.{CommandEnd}
use Rattle.commands.specs.declared.command_end.CommandEnd.TheVariants as end
use Rattle.commands.proofs.program.run_words.Goals as goal

-- what holds for a command line holds for the same one that was compared
same_line : (line compared : CommandLine) (words : List Text) → compared ≡ line → HasDimensions line → IsAskedByWords words line → HasDimensions compared × IsAskedByWords words compared
same_line line compared words is dimensions asked = (subst HasDimensions (sym is) dimensions, subst (IsAskedByWords words) (sym is) asked)

pub returns-in-Ok-Command-clause-written : goal.returns-in-Ok-Command-clause-written
returns-in-Ok-Command-clause-written g c =
    let same = same_line c.in-Ok-Command.line c.compared.result.line (texts_of c.args.call.words.now) c.compared.ensures.line (subst IsValid c.in-Ok-Command.field-0-is c.in-Ok-Command.ensures.valid) (subst (IsAskedFor (texts_of c.args.call.words.now)) c.in-Ok-Command.field-0-is c.in-Ok-Command.ensures.asked) in
    out_of_line _ c.compared.result.line _ _ same.0 same.1 c.perform.result.end _ _ c.perform.ensures.written

pub returns-in-Ok-Command-clause-printed : goal.returns-in-Ok-Command-clause-printed
returns-in-Ok-Command-clause-printed g c =
    let same = same_line c.in-Ok-Command.line c.compared.result.line (texts_of c.args.call.words.now) c.compared.ensures.line (subst IsValid c.in-Ok-Command.field-0-is c.in-Ok-Command.ensures.valid) (subst (IsAskedFor (texts_of c.args.call.words.now)) c.in-Ok-Command.field-0-is c.in-Ok-Command.ensures.asked) in
    err_of_line _ c.compared.result.line _ c.args.call.version.now same.0 same.1 c.perform.result.end _ _ _ c.perform.ensures.printed

pub returns-in-Ok-Command-clause-unstored : goal.returns-in-Ok-Command-clause-unstored
returns-in-Ok-Command-clause-unstored g c = λ e. line_not_stored c.compared.result.line _ c.perform.result.end _ _ _ c.perform.ensures.written e

pub returns-in-Ok-Command-clause-right : goal.returns-in-Ok-Command-clause-right
returns-in-Ok-Command-clause-right g c = λ right. status_of_line c.compared.result.line _ c.perform.result.end _ _ c.perform.ensures.written

pub returns-in-Ok-Command-clause-same_words : goal.returns-in-Ok-Command-clause-same_words
returns-in-Ok-Command-clause-same_words g c =
    let same = same_line c.in-Ok-Command.line c.compared.result.line (texts_of c.args.call.words.now) c.compared.ensures.line (subst IsValid c.in-Ok-Command.field-0-is c.in-Ok-Command.ensures.valid) (subst (IsAskedFor (texts_of c.args.call.words.now)) c.in-Ok-Command.field-0-is c.in-Ok-Command.ensures.asked) in
    λ is. (same_of_line (texts_of c.args.call.words.now) c.compared.result.line _ c.args.call.version.now same.0 same.1 c.perform.result.end _ _ _ c.perform.ensures.printed is).0

pub returns-in-Ok-Command-clause-same_reported : goal.returns-in-Ok-Command-clause-same_reported
returns-in-Ok-Command-clause-same_reported g c =
    let same = same_line c.in-Ok-Command.line c.compared.result.line (texts_of c.args.call.words.now) c.compared.ensures.line (subst IsValid c.in-Ok-Command.field-0-is c.in-Ok-Command.ensures.valid) (subst (IsAskedFor (texts_of c.args.call.words.now)) c.in-Ok-Command.field-0-is c.in-Ok-Command.ensures.asked) in
    λ is. (same_of_line (texts_of c.args.call.words.now) c.compared.result.line _ c.args.call.version.now same.0 same.1 c.perform.result.end _ _ _ c.perform.ensures.printed is).1

pub returns-in-Ok-Command-clause-same_unwritten : goal.returns-in-Ok-Command-clause-same_unwritten
returns-in-Ok-Command-clause-same_unwritten g c = λ is. same_unwritten c.compared.result.line _ c.perform.result.end _ _ c.perform.ensures.written is

pub returns-in-Ok-Command-clause-help : goal.returns-in-Ok-Command-clause-help
returns-in-Ok-Command-clause-help g c = λ is. let same = (status_of_line c.compared.result.line _ c.perform.result.end _ _ c.perform.ensures.written).0 (help_status _ is) in absurd cc

pub returns-in-Ok-Command-clause-usage_unread : goal.returns-in-Ok-Command-clause-usage_unread
returns-in-Ok-Command-clause-usage_unread g c = λ is. c.perform.ensures.unread (named_file c.compared.result.line (c.compared.ensures.named (c.perform.ensures.same.0 ((status_of_line c.compared.result.line _ c.perform.result.end _ _ c.perform.ensures.written).0 is))))

pub returns-in-Ok-Command-clause-cannot_write : goal.returns-in-Ok-Command-clause-cannot_write
returns-in-Ok-Command-clause-cannot_write g c =
    let same = same_line c.in-Ok-Command.line c.compared.result.line (texts_of c.args.call.words.now) c.compared.ensures.line (subst IsValid c.in-Ok-Command.field-0-is c.in-Ok-Command.ensures.valid) (subst (IsAskedFor (texts_of c.args.call.words.now)) c.in-Ok-Command.field-0-is c.in-Ok-Command.ensures.asked) in
    λ e. holds_of_line _ c.compared.result.line _ _ _ same.0 same.1 (c.perform.ensures.failed e)

pub returns-in-Ok-Command-clause-flushed : goal.returns-in-Ok-Command-clause-flushed
returns-in-Ok-Command-clause-flushed g c =
    let same = same_line c.in-Ok-Command.line c.compared.result.line (texts_of c.args.call.words.now) c.compared.ensures.line (subst IsValid c.in-Ok-Command.field-0-is c.in-Ok-Command.ensures.valid) (subst (IsAskedFor (texts_of c.args.call.words.now)) c.in-Ok-Command.field-0-is c.in-Ok-Command.ensures.asked) in
    λ e. holds_of_line _ c.compared.result.line _ _ _ same.0 same.1 (c.perform.ensures.flushed e)

pub returns-in-Ok-Command-clause-rejected : goal.returns-in-Ok-Command-clause-rejected
returns-in-Ok-Command-clause-rejected g c =
    let same = same_line c.in-Ok-Command.line c.compared.result.line (texts_of c.args.call.words.now) c.compared.ensures.line (subst IsValid c.in-Ok-Command.field-0-is c.in-Ok-Command.ensures.valid) (subst (IsAskedFor (texts_of c.args.call.words.now)) c.in-Ok-Command.field-0-is c.in-Ok-Command.ensures.asked) in
    λ e. holds_of_line _ c.compared.result.line _ _ _ same.0 same.1 (c.perform.ensures.rejected e)

pub returns-in-Ok-Command-clause-unread : goal.returns-in-Ok-Command-clause-unread
returns-in-Ok-Command-clause-unread g c =
    let same = same_line c.in-Ok-Command.line c.compared.result.line (texts_of c.args.call.words.now) c.compared.ensures.line (subst IsValid c.in-Ok-Command.field-0-is c.in-Ok-Command.ensures.valid) (subst (IsAskedFor (texts_of c.args.call.words.now)) c.in-Ok-Command.field-0-is c.in-Ok-Command.ensures.asked) in
    λ e. holds_of_line _ c.compared.result.line _ _ _ same.0 same.1 tt

pub returns-in-Ok-Command-clause-unshown : goal.returns-in-Ok-Command-clause-unshown
returns-in-Ok-Command-clause-unshown g c = λ is. let same = (status_of_line c.compared.result.line _ c.perform.result.end _ _ c.perform.ensures.written).0 (help_status _ is) in absurd cc

pub returns-in-Ok-Batch-clause-written : goal.returns-in-Ok-Batch-clause-written
returns-in-Ok-Batch-clause-written g c =
    out_of_names _ (names_in c.in-Ok-Batch.names.items) c.in-Ok-Batch.task _ _ (subst IsValid c.in-Ok-Batch.field-0-is c.in-Ok-Batch.ensures.valid) (subst (IsAskedFor (texts_of c.args.call.words.now)) c.in-Ok-Batch.field-0-is c.in-Ok-Batch.ensures.asked) c.batch_command.result.end _ _
    (rw c.as_slice.ensures.value at c.batch_command.ensures.written)

pub returns-in-Ok-Batch-clause-printed : goal.returns-in-Ok-Batch-clause-printed
returns-in-Ok-Batch-clause-printed g c =
    err_of_names _ (names_in c.in-Ok-Batch.names.items) c.in-Ok-Batch.task _ c.args.call.version.now (subst IsValid c.in-Ok-Batch.field-0-is c.in-Ok-Batch.ensures.valid) (subst (IsAskedFor (texts_of c.args.call.words.now)) c.in-Ok-Batch.field-0-is c.in-Ok-Batch.ensures.asked) c.batch_command.result.end _ _ _ c.batch_command.ensures.printed

pub returns-in-Ok-Batch-clause-cannot_write : goal.returns-in-Ok-Batch-clause-cannot_write
returns-in-Ok-Batch-clause-cannot_write g c = λ e.
    holds_of_names _ (names_in c.in-Ok-Batch.names.items) c.in-Ok-Batch.task _ _ _ (subst IsValid c.in-Ok-Batch.field-0-is c.in-Ok-Batch.ensures.valid) (subst (IsAskedFor (texts_of c.args.call.words.now)) c.in-Ok-Batch.field-0-is c.in-Ok-Batch.ensures.asked) (c.batch_command.ensures.cannot_write e)

pub returns-in-Ok-Batch-clause-flushed : goal.returns-in-Ok-Batch-clause-flushed
returns-in-Ok-Batch-clause-flushed g c = λ e.
    holds_of_names _ (names_in c.in-Ok-Batch.names.items) c.in-Ok-Batch.task _ _ _ (subst IsValid c.in-Ok-Batch.field-0-is c.in-Ok-Batch.ensures.valid) (subst (IsAskedFor (texts_of c.args.call.words.now)) c.in-Ok-Batch.field-0-is c.in-Ok-Batch.ensures.asked) (c.batch_command.ensures.flushed (λ failed. absurd cc) (λ failed. absurd cc))

pub returns-in-Ok-Batch-clause-rejected : goal.returns-in-Ok-Batch-clause-rejected
returns-in-Ok-Batch-clause-rejected g c = λ e.
    holds_of_names _ (names_in c.in-Ok-Batch.names.items) c.in-Ok-Batch.task _ _ _ (subst IsValid c.in-Ok-Batch.field-0-is c.in-Ok-Batch.ensures.valid) (subst (IsAskedFor (texts_of c.args.call.words.now)) c.in-Ok-Batch.field-0-is c.in-Ok-Batch.ensures.asked) (c.batch_command.ensures.flushed (λ failed. absurd cc) (λ failed. absurd cc))

pub returns-in-Ok-Batch-clause-unread : goal.returns-in-Ok-Batch-clause-unread
returns-in-Ok-Batch-clause-unread g c = λ e.
    holds_of_names _ (names_in c.in-Ok-Batch.names.items) c.in-Ok-Batch.task _ _ _ (subst IsValid c.in-Ok-Batch.field-0-is c.in-Ok-Batch.ensures.valid) (subst (IsAskedFor (texts_of c.args.call.words.now)) c.in-Ok-Batch.field-0-is c.in-Ok-Batch.ensures.asked) (c.batch_command.ensures.flushed (λ failed. absurd cc) (λ failed. absurd cc))

pub returns-in-Ok-Batch-clause-unstored : goal.returns-in-Ok-Batch-clause-unstored
returns-in-Ok-Batch-clause-unstored g c = λ e.
    holds_of_names _ (names_in c.in-Ok-Batch.names.items) c.in-Ok-Batch.task _ _ _ (subst IsValid c.in-Ok-Batch.field-0-is c.in-Ok-Batch.ensures.valid) (subst (IsAskedFor (texts_of c.args.call.words.now)) c.in-Ok-Batch.field-0-is c.in-Ok-Batch.ensures.asked) (c.batch_command.ensures.flushed (λ failed. absurd cc) (λ failed. absurd cc))

pub returns-in-Ok-Batch-clause-right : goal.returns-in-Ok-Batch-clause-right
returns-in-Ok-Batch-clause-right g c = λ right. no_status c.batch_command.result.end (λ P two. never_usage c.batch_command.result.end _ _ _ _ _ P c.batch_command.ensures.written two)

pub returns-in-Ok-Batch-clause-same_words : goal.returns-in-Ok-Batch-clause-same_words
returns-in-Ok-Batch-clause-same_words g c = λ is. never_usage c.batch_command.result.end _ _ _ _ _ _ c.batch_command.ensures.written (same_status _ is)

pub returns-in-Ok-Batch-clause-same_reported : goal.returns-in-Ok-Batch-clause-same_reported
returns-in-Ok-Batch-clause-same_reported g c = λ is. never_usage c.batch_command.result.end _ _ _ _ _ _ c.batch_command.ensures.written (same_status _ is)

pub returns-in-Ok-Batch-clause-same_unwritten : goal.returns-in-Ok-Batch-clause-same_unwritten
returns-in-Ok-Batch-clause-same_unwritten g c = λ is. never_usage c.batch_command.result.end _ _ _ _ _ _ c.batch_command.ensures.written (same_status _ is)

pub returns-in-Ok-Batch-clause-help : goal.returns-in-Ok-Batch-clause-help
returns-in-Ok-Batch-clause-help g c = λ is. never_usage c.batch_command.result.end _ _ _ _ _ _ c.batch_command.ensures.written (help_status _ is)

pub returns-in-Ok-Batch-clause-unshown : goal.returns-in-Ok-Batch-clause-unshown
returns-in-Ok-Batch-clause-unshown g c = λ is. never_usage c.batch_command.result.end _ _ _ _ _ _ c.batch_command.ensures.written (help_status _ is)

pub returns-in-Ok-Batch-clause-usage_unread : goal.returns-in-Ok-Batch-clause-usage_unread
returns-in-Ok-Batch-clause-usage_unread g c = λ is. never_usage c.batch_command.result.end _ _ _ _ _ _ c.batch_command.ensures.written is

pub returns-in-Ok-Version-clause-written : goal.returns-in-Ok-Version-clause-written
returns-in-Ok-Version-clause-written g c =
    out_of_version _ _ _ (subst (IsAskedFor (texts_of c.args.call.words.now)) c.in-Ok-Version.field-0-is c.in-Ok-Version.ensures.asked) c.version_command.result.end _ _ c.version_command.ensures.written

pub returns-in-Ok-Version-clause-printed : goal.returns-in-Ok-Version-clause-printed
returns-in-Ok-Version-clause-printed g c =
    err_of_version _ _ c.args.call.version.now (subst (IsAskedFor (texts_of c.args.call.words.now)) c.in-Ok-Version.field-0-is c.in-Ok-Version.ensures.asked) c.version_command.result.end _ _ _ c.version_command.ensures.printed

pub returns-in-Ok-Version-clause-cannot_write : goal.returns-in-Ok-Version-clause-cannot_write
returns-in-Ok-Version-clause-cannot_write g c = λ e. inr (inr (subst (IsAskedFor (texts_of c.args.call.words.now)) c.in-Ok-Version.field-0-is c.in-Ok-Version.ensures.asked, c.version_command.ensures.cannot_write e))

pub returns-in-Ok-Version-clause-flushed : goal.returns-in-Ok-Version-clause-flushed
returns-in-Ok-Version-clause-flushed g c = λ e. inr (inr (subst (IsAskedFor (texts_of c.args.call.words.now)) c.in-Ok-Version.field-0-is c.in-Ok-Version.ensures.asked, c.version_command.ensures.flushed e))

pub returns-in-Ok-Version-clause-rejected : goal.returns-in-Ok-Version-clause-rejected
returns-in-Ok-Version-clause-rejected g c = λ e. version_not_rejected c.version_command.result.end _ _ _ _ c.version_command.ensures.written e

pub returns-in-Ok-Version-clause-unread : goal.returns-in-Ok-Version-clause-unread
returns-in-Ok-Version-clause-unread g c = λ e. version_not_read c.version_command.result.end _ _ _ _ c.version_command.ensures.written e

pub returns-in-Ok-Version-clause-unstored : goal.returns-in-Ok-Version-clause-unstored
returns-in-Ok-Version-clause-unstored g c = λ e. version_not_stored c.version_command.result.end _ _ _ _ c.version_command.ensures.written e

pub returns-in-Ok-Version-clause-right : goal.returns-in-Ok-Version-clause-right
returns-in-Ok-Version-clause-right g c = λ right. no_status c.version_command.result.end (λ P two. version_is_right c.version_command.result.end _ _ _ P c.version_command.ensures.written two)

pub returns-in-Ok-Version-clause-same_words : goal.returns-in-Ok-Version-clause-same_words
returns-in-Ok-Version-clause-same_words g c = λ is. version_is_right c.version_command.result.end _ _ _ _ c.version_command.ensures.written (same_status _ is)

pub returns-in-Ok-Version-clause-same_reported : goal.returns-in-Ok-Version-clause-same_reported
returns-in-Ok-Version-clause-same_reported g c = λ is. version_is_right c.version_command.result.end _ _ _ _ c.version_command.ensures.written (same_status _ is)

pub returns-in-Ok-Version-clause-same_unwritten : goal.returns-in-Ok-Version-clause-same_unwritten
returns-in-Ok-Version-clause-same_unwritten g c = λ is. version_is_right c.version_command.result.end _ _ _ _ c.version_command.ensures.written (same_status _ is)

pub returns-in-Ok-Version-clause-help : goal.returns-in-Ok-Version-clause-help
returns-in-Ok-Version-clause-help g c = λ is. version_is_right c.version_command.result.end _ _ _ _ c.version_command.ensures.written (help_status _ is)

pub returns-in-Ok-Version-clause-unshown : goal.returns-in-Ok-Version-clause-unshown
returns-in-Ok-Version-clause-unshown g c = λ is. version_is_right c.version_command.result.end _ _ _ _ c.version_command.ensures.written (help_status _ is)

pub returns-in-Ok-Version-clause-usage_unread : goal.returns-in-Ok-Version-clause-usage_unread
returns-in-Ok-Version-clause-usage_unread g c = λ is. version_is_right c.version_command.result.end _ _ _ _ c.version_command.ensures.written is

-- if words are right, parsing them fails only because memory ran out, and that has another status
never_wrong : (e : CommandEnd) (kind : ErrorKind) (words : List Text) → (AreCommandWords words → kind ≡ OutOfMemory) → (AreAccepted words → kind ≡ OutOfMemory) → (e ≡ end.OutOfMemory → kind ≡ OutOfMemory) × (kind ≡ OutOfMemory → e ≡ end.OutOfMemory) → (AreCommandWords words ⊎ AreAccepted words) → status_of e ≡ 2 ↔ e ≡ end.OutIsFile
never_wrong e kind words taken accepted memory (inl right) =
    let is : e ≡ end.OutOfMemory = memory.1 (taken right) in
    (λ two. absurd cc, λ same. absurd cc)
never_wrong e kind words taken accepted memory (inr right) =
    let is : e ≡ end.OutOfMemory = memory.1 (accepted right) in
    (λ two. absurd cc, λ same. absurd cc)

pub returns-in-Err-clause-written : goal.returns-in-Err-clause-written
returns-in-Err-clause-written g c = out_of_usage _ _ c.args.call.version.now c.usage.result.end _ _ c.usage.ensures.ends c.usage.ensures.unwritten

pub returns-in-Err-clause-printed : goal.returns-in-Err-clause-printed
returns-in-Err-clause-printed g c = err_of_usage _ _ c.usage.result.end _ _ _ c.usage.ensures.ends c.usage.ensures.unprinted c.usage.ensures.line

pub returns-in-Err-clause-right : goal.returns-in-Err-clause-right
returns-in-Err-clause-right g c = λ right. never_wrong c.usage.result.end _ (texts_of c.args.call.words.now) c.in-Err.ensures.taken c.in-Err.ensures.accepted c.usage.ensures.memory right

pub returns-in-Err-clause-help : goal.returns-in-Err-clause-help
returns-in-Err-clause-help g c = λ is. c.in-Err.ensures.help (c.usage.ensures.help.0 is)

pub returns-in-Err-clause-cannot_write : goal.returns-in-Err-clause-cannot_write
returns-in-Err-clause-cannot_write g c = (usage_only c.usage.result.end _ c.usage.ensures.ends).0

pub returns-in-Err-clause-flushed : goal.returns-in-Err-clause-flushed
returns-in-Err-clause-flushed g c = (usage_only c.usage.result.end _ c.usage.ensures.ends).1.0

pub returns-in-Err-clause-rejected : goal.returns-in-Err-clause-rejected
returns-in-Err-clause-rejected g c = (usage_only c.usage.result.end _ c.usage.ensures.ends).1.1.0

pub returns-in-Err-clause-unread : goal.returns-in-Err-clause-unread
returns-in-Err-clause-unread g c = (usage_only c.usage.result.end _ c.usage.ensures.ends).1.1.1.0

pub returns-in-Err-clause-unstored : goal.returns-in-Err-clause-unstored
returns-in-Err-clause-unstored g c = (usage_only c.usage.result.end _ c.usage.ensures.ends).1.1.1.1.0

pub returns-in-Err-clause-same_words : goal.returns-in-Err-clause-same_words
returns-in-Err-clause-same_words g c = (usage_only c.usage.result.end _ c.usage.ensures.ends).1.1.1.1.1

pub returns-in-Err-clause-same_reported : goal.returns-in-Err-clause-same_reported
returns-in-Err-clause-same_reported g c = (usage_only c.usage.result.end _ c.usage.ensures.ends).1.1.1.1.1

pub returns-in-Err-clause-same_unwritten : goal.returns-in-Err-clause-same_unwritten
returns-in-Err-clause-same_unwritten g c = (usage_only c.usage.result.end _ c.usage.ensures.ends).1.1.1.1.1
