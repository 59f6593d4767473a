-- What a task writes is what its command line writes, and that is what the words write.
use Rattle.std.proofs.Common.{◌≡◌, codes, inl, inr, ap, refl, subst, ℕ, List, Option, Ok, Err}
use Rattle.std.specs.Prelude.{◌≢◌, ◌↔◌}
use Rattle.std.specs.Io.KnownBytes.{Keeps}
use Rattle.clap.specs.Words.{Text}
use Rattle.command_lines.specs.declared.asked.BatchTask.{BatchTask}
use Rattle.command_lines.specs.CommandLine.{HoldsOfAsked, IsAskedByWords}
use Rattle.commands.specs.Ends.{PrintsBy}
use Rattle.commands.specs.BatchLines.{BatchPrints, BatchWrites}
use Rattle.commands.specs.Inputs.{IsInput, standard_input}
use Rattle.commands.specs.Lines.{ErrBy, ErrOfSome, ErrOfWords, HoldsOfAny, HoldsOfWords, LineWrites, OutBy, OutOfSome, OutOfWords, PreparesNamedFile, task_of}
use Rattle.commands.specs.Faults.{IsUsageEnd, input_end, fault_text}
use Rattle.commands.specs.Report.{Reports, Printed}
use Rattle.commands.specs.Statuses.{status_of}
use Rattle.commands.specs.Tasks.{Task}
use Rattle.commands.specs.VersionLines.{VersionPrints, VersionWrites}
use Rattle.command_lines.specs.VersionWords.{AreVersionWords}
use Rattle.command_lines.specs.Dimensions.{HasDimensions, HasTaskDimensions, file_of}
use Rattle.command_lines.specs.BatchWords.{AsksBatchByWords, HasRightInputs}
use Rattle.commands.specs.declared.command_end.CommandEnd.{CommandEnd}
use Rattle.commands.specs.declared.command_end.CommandEnd.TheVariants as end
use Rattle.command_lines.specs.declared.asked.CommandLine.{CommandLine}
use Rattle.commands.specs.declared.input.InputFault.{InputFault}
use Rattle.commands.specs.declared.input.InputFault.TheVariants as fault
use Rattle.command_lines.specs.declared.asked.CommandLine.TheVariants.{Check, List as ListLine, Over, Play, Prepare, Show}

-- if an allocation failed, a task has written nothing
kept : (line : CommandLine) (file certificate image : List ℕ) (old new : Option (List ℕ)) → LineWrites line (task_of line file certificate image) end.OutOfMemory old new → Keeps old new
kept (Show name rules width height fit) file certificate image old new keeps = keeps
kept (Prepare name rules width height output) file certificate image old new keeps = keeps
kept (Check name other) file certificate image old new keeps = keeps
kept (Play name other width height bands fit) file certificate image old new keeps = keeps
kept (Over name other third) file certificate image old new keeps = keeps
kept (ListLine name rules) file certificate image old new keeps = keeps

module _ (line : CommandLine) (input : Option (List ℕ)) (file certificate image : List ℕ) (read : IsInput (file_of line) input file) (printed : Printed) (before after : Option (List ℕ)) where
  pub out_of_task : (e : CommandEnd) (old new : Option (List ℕ)) → LineWrites line (task_of line file certificate image) e old new → PrintsBy e (task_of line file certificate image) printed before after → OutBy e line input old new
  out_of_task end.Done old new writes prints = record { file = file; certificate = certificate; image = image; read = read; written = writes }
  out_of_task end.Rejected old new writes prints = record { file = file; certificate = certificate; image = image; read = read; written = writes }
  out_of_task end.CannotWrite old new writes prints = record { file = file; certificate = certificate; image = image; read = read; written = writes }
  out_of_task end.OutOfMemory old new writes prints = kept line file certificate image old new writes
  out_of_task end.CannotRead old new writes prints = absurd prints
  out_of_task end.CannotStore old new writes prints = absurd prints
  out_of_task end.WrongUsage old new writes prints = absurd prints
  out_of_task end.Help old new writes prints = absurd prints
  out_of_task end.OutIsFile old new writes prints = absurd prints

  pub err_of_task : (e : CommandEnd) → PrintsBy e (task_of line file certificate image) printed before after → ErrBy e line input printed before after
  err_of_task end.Done prints = prints
  err_of_task end.Rejected prints = record { file = file; certificate = certificate; image = image; read = read; prints = prints }
  err_of_task end.CannotWrite prints = prints
  err_of_task end.OutOfMemory prints = prints
  err_of_task end.CannotRead prints = absurd prints
  err_of_task end.CannotStore prints = absurd prints
  err_of_task end.WrongUsage prints = absurd prints
  err_of_task end.Help prints = absurd prints
  err_of_task end.OutIsFile prints = absurd prints

-- a task never ends as OUT that is FILE
pub task_is_other : (task : Task) (e : CommandEnd) (printed : Printed) (old new : Option (List ℕ)) (P : Type 0) → PrintsBy e task printed old new → e ≡ end.OutIsFile → P
task_is_other task e printed old new P fact is = let bad : PrintsBy end.OutIsFile task printed old new = subst (λ (e : CommandEnd). PrintsBy e task printed old new) is fact in absurd bad

-- if an input wasn't read, a command line writes the report of that
pub out_unread : (line : CommandLine) (input : Option (List ℕ)) (f : InputFault) (e : CommandEnd) (old new : Option (List ℕ)) → e ≡ input_end f → Keeps old new → OutBy e line input old new
out_unread line input fault.CannotRead e old new is keeps = rw is keeps
out_unread line input fault.OutOfMemory e old new is keeps = rw is keeps

pub err_unread : (line : CommandLine) (input : Option (List ℕ)) (f : InputFault) (e : CommandEnd) (printed : Printed) (old new : Option (List ℕ)) → e ≡ input_end f → Reports printed old new (fault_text f) → ErrBy e line input printed old new
err_unread line input fault.CannotRead e printed old new is reports = rw is reports
err_unread line input fault.OutOfMemory e printed old new is reports = rw is reports

-- this isn't a failed output, and the work isn't done
pub unread_failed : (f : InputFault) (e : CommandEnd) (P : Type 0) → e ≡ input_end f → e ≡ end.CannotWrite → P
unread_failed fault.CannotRead e P is failed = cc
unread_failed fault.OutOfMemory e P is failed = cc

pub unread_rejected : (f : InputFault) (e : CommandEnd) (P : Type 0) → e ≡ input_end f → e ≡ end.Rejected → P
unread_rejected fault.CannotRead e P is rejected = cc
unread_rejected fault.OutOfMemory e P is rejected = cc

pub unread_same : (f : InputFault) (e : CommandEnd) (P : Type 0) → e ≡ input_end f → e ≡ end.OutIsFile → P
unread_same fault.CannotRead e P is same = cc
unread_same fault.OutOfMemory e P is same = cc

pub unread_done : (f : InputFault) (e : CommandEnd) (P : Type 0) → e ≡ input_end f → e ≡ end.Done → P
unread_done fault.CannotRead e P is done = cc
unread_done fault.OutOfMemory e P is done = cc

module _ (words : List Text) (line : CommandLine) (input : Option (List ℕ)) (version : List ℕ) (dimensions : HasDimensions line) (asked : IsAskedByWords words line) where
  pub out_of_line : (e : CommandEnd) (old new : Option (List ℕ)) → OutBy e line input old new → OutOfWords e words input version old new
  out_of_line end.Done old new fact = inl (record { line = line; dimensions = dimensions; asked = asked; fact = fact })
  out_of_line end.Rejected old new fact = inl (record { line = line; dimensions = dimensions; asked = asked; fact = fact })
  out_of_line end.CannotWrite old new fact = inl (record { line = line; dimensions = dimensions; asked = asked; fact = fact })
  out_of_line end.CannotRead old new fact = inl (record { line = line; dimensions = dimensions; asked = asked; fact = fact })
  out_of_line end.CannotStore old new fact = absurd fact
  out_of_line end.OutOfMemory old new fact = inl fact
  out_of_line end.OutIsFile old new fact = inl (record { line = line; dimensions = dimensions; asked = asked; fact = fact })
  out_of_line end.WrongUsage old new fact = absurd fact
  out_of_line end.Help old new fact = absurd fact

  pub err_of_line : (e : CommandEnd) (printed : Printed) (old new : Option (List ℕ)) → ErrBy e line input printed old new → ErrOfWords e words input printed old new
  err_of_line end.Done printed old new fact = inl (record { line = line; dimensions = dimensions; asked = asked; fact = fact })
  err_of_line end.Rejected printed old new fact = inl (record { line = line; dimensions = dimensions; asked = asked; fact = fact })
  err_of_line end.CannotWrite printed old new fact = inl (record { line = line; dimensions = dimensions; asked = asked; fact = fact })
  err_of_line end.CannotRead printed old new fact = inl (record { line = line; dimensions = dimensions; asked = asked; fact = fact })
  err_of_line end.CannotStore printed old new fact = absurd fact
  err_of_line end.OutOfMemory printed old new fact = fact
  err_of_line end.OutIsFile printed old new fact = inl (record { line = line; dimensions = dimensions; asked = asked; fact = fact })
  err_of_line end.WrongUsage printed old new fact = absurd fact
  err_of_line end.Help printed old new fact = absurd fact

  -- OUT is FILE only if a certificate is prepared of a named file; that is reported, and nothing is written then
  pub same_of_line : (e : CommandEnd) (printed : Printed) (old new : Option (List ℕ)) → ErrBy e line input printed old new → e ≡ end.OutIsFile → HoldsOfAsked words PreparesNamedFile × Reports printed old new (codes "OUT is FILE")
  same_of_line e printed old new fact is =
      let same : ErrBy end.OutIsFile line input printed old new = subst (λ (e : CommandEnd). ErrBy e line input printed old new) is fact in
      (record { line = line; dimensions = dimensions; asked = asked; fact = same.0 }, same.1)

-- nothing is written if OUT is FILE
pub same_unwritten : (line : CommandLine) (input : Option (List ℕ)) (e : CommandEnd) (old new : Option (List ℕ)) → OutBy e line input old new → e ≡ end.OutIsFile → Keeps old new
same_unwritten line input e old new fact is =
    let same : OutBy end.OutIsFile line input old new = subst (λ (e : CommandEnd). OutBy e line input old new) is fact in
    same.1

-- a parsed command line has status 2 exactly if OUT is FILE
pub status_of_line : (line : CommandLine) (input : Option (List ℕ)) (e : CommandEnd) (old new : Option (List ℕ)) → OutBy e line input old new → status_of e ≡ 2 ↔ e ≡ end.OutIsFile
status_of_line line input end.Done old new fact = (λ is. absurd cc, λ is. absurd cc)
status_of_line line input end.Rejected old new fact = (λ is. absurd cc, λ is. absurd cc)
status_of_line line input end.CannotWrite old new fact = (λ is. absurd cc, λ is. absurd cc)
status_of_line line input end.CannotRead old new fact = (λ is. absurd cc, λ is. absurd cc)
status_of_line line input end.CannotStore old new fact = absurd fact
status_of_line line input end.OutOfMemory old new fact = (λ is. absurd cc, λ is. absurd cc)
status_of_line line input end.OutIsFile old new fact = (λ is. refl, λ is. refl)
status_of_line line input end.WrongUsage old new fact = absurd fact
status_of_line line input end.Help old new fact = absurd fact

-- what a task on several files writes and reports for names that the words give it
module _ (words names : List Text) (task : BatchTask) (input : Option (List ℕ)) (version : List ℕ) (valid : HasRightInputs task names × HasTaskDimensions task) (asked : AsksBatchByWords words names task) where
  pub out_of_names : (e : CommandEnd) (old new : Option (List ℕ)) → BatchWrites e names task input old new → OutOfWords e words input version old new
  out_of_names end.Done old new fact = inr (inl (record { names = names; task = task; inputs = valid.0; dimensions = valid.1; asked = asked; fact = fact }))
  out_of_names end.Rejected old new fact = inr (inl (record { names = names; task = task; inputs = valid.0; dimensions = valid.1; asked = asked; fact = fact }))
  out_of_names end.CannotWrite old new fact = inr (inl (record { names = names; task = task; inputs = valid.0; dimensions = valid.1; asked = asked; fact = fact }))
  out_of_names end.CannotRead old new fact = inr (inl (record { names = names; task = task; inputs = valid.0; dimensions = valid.1; asked = asked; fact = fact }))
  out_of_names end.CannotStore old new fact = inr (inl (record { names = names; task = task; inputs = valid.0; dimensions = valid.1; asked = asked; fact = fact }))
  out_of_names end.OutOfMemory old new fact = inr (record { names = names; task = task; inputs = valid.0; dimensions = valid.1; asked = asked; fact = fact })
  out_of_names end.WrongUsage old new fact = absurd fact
  out_of_names end.Help old new fact = absurd fact
  out_of_names end.OutIsFile old new fact = absurd fact

  pub err_of_names : (e : CommandEnd) (printed : Printed) (old new : Option (List ℕ)) → BatchPrints e printed old new → ErrOfWords e words input printed old new
  err_of_names end.Done printed old new fact = inr (inl (record { names = names; task = task; inputs = valid.0; dimensions = valid.1; asked = asked; fact = fact }))
  err_of_names end.Rejected printed old new fact = inr (inl (record { names = names; task = task; inputs = valid.0; dimensions = valid.1; asked = asked; fact = fact }))
  err_of_names end.CannotWrite printed old new fact = inr (inl (record { names = names; task = task; inputs = valid.0; dimensions = valid.1; asked = asked; fact = fact }))
  err_of_names end.CannotRead printed old new fact = inr (inl (record { names = names; task = task; inputs = valid.0; dimensions = valid.1; asked = asked; fact = fact }))
  err_of_names end.CannotStore printed old new fact = inr (inl (record { names = names; task = task; inputs = valid.0; dimensions = valid.1; asked = asked; fact = fact }))
  err_of_names end.OutOfMemory printed old new fact = fact
  err_of_names end.WrongUsage printed old new fact = tt
  err_of_names end.Help (Ok u) old new fact = fact
  err_of_names end.Help (Err failed) old new fact = absurd fact
  err_of_names end.OutIsFile printed old new fact = inr (inl (record { names = names; task = task; inputs = valid.0; dimensions = valid.1; asked = asked; fact = fact }))

-- such a task never has status 2
pub never_usage : (e : CommandEnd) (names : List Text) (task : BatchTask) (input old new : Option (List ℕ)) (P : Type 0) → BatchWrites e names task input old new → status_of e ≡ 2 → P
never_usage end.WrongUsage names task input old new P fact is = absurd fact
never_usage end.Help names task input old new P fact is = absurd fact
never_usage end.OutIsFile names task input old new P fact is = absurd fact
never_usage end.Done names task input old new P fact is = absurd cc
never_usage end.Rejected names task input old new P fact is = absurd cc
never_usage end.CannotWrite names task input old new P fact is = absurd cc
never_usage end.CannotRead names task input old new P fact is = absurd cc
never_usage end.CannotStore names task input old new P fact is = absurd cc
never_usage end.OutOfMemory names task input old new P fact is = absurd cc

-- what ends as OUT that is FILE, or as help, has status 2
pub same_status : (e : CommandEnd) → e ≡ end.OutIsFile → status_of e ≡ 2
same_status e is = ap status_of is

pub help_status : (e : CommandEnd) → e ≡ end.Help → status_of e ≡ 2
help_status e is = ap status_of is

-- words that never have status 2 have it exactly if OUT is FILE
pub no_status : (e : CommandEnd) → ((P : Type 0) → status_of e ≡ 2 → P) → status_of e ≡ 2 ↔ e ≡ end.OutIsFile
no_status e never = (λ is. never _ is, λ is. ap status_of is)

-- the name of a file of which a certificate is prepared isn't the word for standard input
pub named_file : (line : CommandLine) → PreparesNamedFile line → file_of line ≡ standard_input → ⊥
named_file (Prepare name rules width height output) named is = named is
named_file (Show name rules width height fit) named is = absurd named
named_file (Check name other) named is = absurd named
named_file (Play name other width height bands fit) named is = absurd named
named_file (Over name other third) named is = absurd named
named_file (ListLine name rules) named is = absurd named

-- what is written and reported if the words ask for the version
module _ (words : List Text) (input : Option (List ℕ)) (version : List ℕ) (asked : AreVersionWords words) where
  pub out_of_version : (e : CommandEnd) (old new : Option (List ℕ)) → VersionWrites e version old new → OutOfWords e words input version old new
  out_of_version end.Done old new fact = inr (inr (asked, fact))
  out_of_version end.CannotWrite old new fact = inr (inr (asked, fact))
  out_of_version end.Rejected old new fact = absurd fact
  out_of_version end.CannotRead old new fact = absurd fact
  out_of_version end.CannotStore old new fact = absurd fact
  out_of_version end.OutOfMemory old new fact = absurd fact
  out_of_version end.WrongUsage old new fact = absurd fact
  out_of_version end.Help old new fact = absurd fact
  out_of_version end.OutIsFile old new fact = absurd fact

  pub err_of_version : (e : CommandEnd) (printed : Printed) (old new : Option (List ℕ)) → VersionPrints e printed old new → ErrOfWords e words input printed old new
  err_of_version end.Done printed old new fact = inr (inr (asked, fact))
  err_of_version end.CannotWrite printed old new fact = inr (inr (asked, fact))
  err_of_version end.Rejected printed old new fact = absurd fact
  err_of_version end.CannotRead printed old new fact = absurd fact
  err_of_version end.CannotStore printed old new fact = absurd fact
  err_of_version end.OutOfMemory printed old new fact = absurd fact
  err_of_version end.WrongUsage printed old new fact = absurd fact
  err_of_version end.Help printed old new fact = absurd fact
  err_of_version end.OutIsFile printed old new fact = absurd fact

-- the version never has status 2, is never rejected, and reads nothing
pub version_is_right : (e : CommandEnd) (version : List ℕ) (old new : Option (List ℕ)) (P : Type 0) → VersionWrites e version old new → status_of e ≡ 2 → P
version_is_right end.WrongUsage version old new P fact is = absurd fact
version_is_right end.Help version old new P fact is = absurd fact
version_is_right end.OutIsFile version old new P fact is = absurd fact
version_is_right end.Done version old new P fact is = absurd cc
version_is_right end.Rejected version old new P fact is = absurd fact
version_is_right end.CannotWrite version old new P fact is = absurd cc
version_is_right end.CannotRead version old new P fact is = absurd fact
version_is_right end.CannotStore version old new P fact is = absurd fact
version_is_right end.OutOfMemory version old new P fact is = absurd fact

pub version_not_rejected : (e : CommandEnd) (version : List ℕ) (old new : Option (List ℕ)) (P : Type 0) → VersionWrites e version old new → e ≡ end.Rejected → P
version_not_rejected e version old new P fact is = let bad : VersionWrites end.Rejected version old new = subst (λ (e : CommandEnd). VersionWrites e version old new) is fact in absurd bad

pub version_not_read : (e : CommandEnd) (version : List ℕ) (old new : Option (List ℕ)) (P : Type 0) → VersionWrites e version old new → e ≡ end.CannotRead → P
version_not_read e version old new P fact is = let bad : VersionWrites end.CannotRead version old new = subst (λ (e : CommandEnd). VersionWrites e version old new) is fact in absurd bad

pub version_not_stored : (e : CommandEnd) (version : List ℕ) (old new : Option (List ℕ)) (P : Type 0) → VersionWrites e version old new → e ≡ end.CannotStore → P
version_not_stored e version old new P fact is = let bad : VersionWrites end.CannotStore version old new = subst (λ (e : CommandEnd). VersionWrites e version old new) is fact in absurd bad

-- a command on one file never ends with a certificate of several that isn't stored
pub line_not_stored : (line : CommandLine) (input : Option (List ℕ)) (e : CommandEnd) (old new : Option (List ℕ)) (P : Type 0) → OutBy e line input old new → e ≡ end.CannotStore → P
line_not_stored line input e old new P fact is = let bad : OutBy end.CannotStore line input old new = subst (λ (e : CommandEnd). OutBy e line input old new) is fact in absurd bad

-- what holds for a parsed command line, or for names, holds for words that give them
pub holds_of_line : (words : List Text) (line : CommandLine) (holds : CommandLine → Type 0) (of_names : List Text → BatchTask → Type 0) (of_version : Type 0) → HasDimensions line → IsAskedByWords words line → holds line → HoldsOfWords words holds of_names of_version
holds_of_line words line holds of_names of_version dimensions asked fact = inl (record { line = line; dimensions = dimensions; asked = asked; fact = fact })

pub holds_of_names : (words names : List Text) (task : BatchTask) (of_line : CommandLine → Type 0) (holds : List Text → BatchTask → Type 0) (of_version : Type 0) → HasRightInputs task names × HasTaskDimensions task → AsksBatchByWords words names task → holds names task → HoldsOfWords words of_line holds of_version
holds_of_names words names task of_line holds of_version valid asked fact = inr (inl (record { names = names; task = task; inputs = valid.0; dimensions = valid.1; asked = asked; fact = fact }))

-- what holds for what the words ask for holds for some command
pub holds_of_some : (words : List Text) (of_line : CommandLine → Type 0) (of_names : List Text → BatchTask → Type 0) (of_version : Type 0) → HoldsOfWords words of_line of_names of_version → HoldsOfAny of_line of_names of_version
holds_of_some words of_line of_names of_version (inl asked) = inl (record { line = asked.line; dimensions = asked.dimensions; fact = asked.fact })
holds_of_some words of_line of_names of_version (inr (inl asked)) = inr (inl (record { names = asked.names; task = asked.task; inputs = asked.inputs; dimensions = asked.dimensions; fact = asked.fact }))
holds_of_some words of_line of_names of_version (inr (inr asked)) = inr (inr asked.1)

-- wrong usage, help and out of memory are no other end
pub usage_only : (e : CommandEnd) (P : Type 0) → IsUsageEnd e → (e ≡ end.CannotWrite → P) × ((e ≡ end.Done → P) × ((e ≡ end.Rejected → P) × ((e ≡ end.CannotRead → P) × ((e ≡ end.CannotStore → P) × (e ≡ end.OutIsFile → P)))))
usage_only end.WrongUsage P ends = (λ is. absurd cc, (λ is. absurd cc, (λ is. absurd cc, (λ is. absurd cc, (λ is. absurd cc, λ is. absurd cc)))))
usage_only end.Help P ends = (λ is. absurd cc, (λ is. absurd cc, (λ is. absurd cc, (λ is. absurd cc, (λ is. absurd cc, λ is. absurd cc)))))
usage_only end.OutOfMemory P ends = (λ is. absurd cc, (λ is. absurd cc, (λ is. absurd cc, (λ is. absurd cc, (λ is. absurd cc, λ is. absurd cc)))))
usage_only end.OutIsFile P ends = absurd ends
usage_only end.Done P ends = absurd ends
usage_only end.Rejected P ends = absurd ends
usage_only end.CannotWrite P ends = absurd ends
usage_only end.CannotRead P ends = absurd ends
usage_only end.CannotStore P ends = absurd ends

-- what is written and reported if the words are wrong, ask for help, or there is no memory to read them
pub out_of_usage : (words : List Text) (input : Option (List ℕ)) (version : List ℕ) (e : CommandEnd) (old new : Option (List ℕ)) → IsUsageEnd e → (e ≢ end.Help → Keeps old new) → OutOfWords e words input version old new
out_of_usage words input version end.WrongUsage old new ends unwritten = unwritten (λ is. absurd cc)
out_of_usage words input version end.Help old new ends unwritten = tt
out_of_usage words input version end.OutOfMemory old new ends unwritten = inl (unwritten (λ is. absurd cc))
out_of_usage words input version end.OutIsFile old new ends unwritten = absurd ends
out_of_usage words input version end.Done old new ends unwritten = absurd ends
out_of_usage words input version end.Rejected old new ends unwritten = absurd ends
out_of_usage words input version end.CannotWrite old new ends unwritten = absurd ends
out_of_usage words input version end.CannotRead old new ends unwritten = absurd ends
out_of_usage words input version end.CannotStore old new ends unwritten = absurd ends

pub err_of_usage : (words : List Text) (input : Option (List ℕ)) (e : CommandEnd) (printed : Printed) (old new : Option (List ℕ)) → IsUsageEnd e → (e ≡ end.Help → Keeps old new) → (e ≡ end.OutOfMemory → Reports printed old new (codes "OutOfMemory")) → ErrOfWords e words input printed old new
err_of_usage words input end.WrongUsage printed old new ends helped memory = tt
err_of_usage words input end.Help printed old new ends helped memory = helped refl
err_of_usage words input end.OutOfMemory printed old new ends helped memory = memory refl
err_of_usage words input end.OutIsFile printed old new ends helped memory = absurd ends
err_of_usage words input end.Done printed old new ends helped memory = absurd ends
err_of_usage words input end.Rejected printed old new ends helped memory = absurd ends
err_of_usage words input end.CannotWrite printed old new ends helped memory = absurd ends
err_of_usage words input end.CannotRead printed old new ends helped memory = absurd ends
err_of_usage words input end.CannotStore printed old new ends helped memory = absurd ends

-- what the words write is what some words write
pub out_of_asked : (words : List Text) (input : Option (List ℕ)) (version : List ℕ) (e : CommandEnd) (old new : Option (List ℕ)) → OutOfWords e words input version old new → OutOfSome e input version old new
out_of_asked words input version end.Done old new asked = holds_of_some words _ _ _ asked
out_of_asked words input version end.Rejected old new asked = holds_of_some words _ _ _ asked
out_of_asked words input version end.CannotWrite old new asked = holds_of_some words _ _ _ asked
out_of_asked words input version end.CannotRead old new asked = holds_of_some words _ _ _ asked
out_of_asked words input version end.CannotStore old new asked = holds_of_some words _ _ _ asked
out_of_asked words input version end.OutOfMemory old new (inl keeps) = inl keeps
out_of_asked words input version end.OutOfMemory old new (inr asked) = inr (record { names = asked.names; task = asked.task; inputs = asked.inputs; dimensions = asked.dimensions; fact = asked.fact })
out_of_asked words input version end.OutIsFile old new asked = holds_of_some words _ _ _ asked
out_of_asked words input version end.WrongUsage old new asked = asked
out_of_asked words input version end.Help old new asked = asked

pub err_of_asked : (words : List Text) (input : Option (List ℕ)) (e : CommandEnd) (printed : Printed) (old new : Option (List ℕ)) → ErrOfWords e words input printed old new → ErrOfSome e input printed old new
err_of_asked words input end.Done printed old new asked = holds_of_some words _ _ _ asked
err_of_asked words input end.Rejected printed old new asked = holds_of_some words _ _ _ asked
err_of_asked words input end.CannotWrite printed old new asked = holds_of_some words _ _ _ asked
err_of_asked words input end.CannotRead printed old new asked = holds_of_some words _ _ _ asked
err_of_asked words input end.CannotStore printed old new asked = holds_of_some words _ _ _ asked
err_of_asked words input end.OutOfMemory printed old new asked = asked
err_of_asked words input end.OutIsFile printed old new asked = holds_of_some words _ _ _ asked
err_of_asked words input end.WrongUsage printed old new asked = asked
err_of_asked words input end.Help printed old new asked = asked
