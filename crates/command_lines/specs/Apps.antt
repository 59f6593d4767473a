-- Commands as declared to clap.
use Rattle.std.specs.Prelude.{◌≡◌, false}
use Rattle.clap.specs.Words.{App, app_of}
use Rattle.clap.specs.declared.builder.command.Command.{Command}
use Rattle.clap.specs.declared.builder.command.Command.TheViews.{out-Command}
use Rattle.command_lines.specs.CommandLine.{with_dimensions, with_rules}

-- a command that clap reads as this one, without an argument for other commands
pub record IsLocalApp (app : App) (command : Command) : Type 0 where
  pub is : app_of command ≡ app
  pub local : (out-Command command).has_globals ≡ false

-- the new command is the old one followed by W and H, and still has no argument for other commands
pub record AddsDimensions (old new : Command) : Type 0 where
  pub is : app_of new ≡ with_dimensions (app_of old)
  pub local : (out-Command old).has_globals ≡ false → (out-Command new).has_globals ≡ false

-- the new command is the old one followed by --profile and --allow, and still has no argument for other commands
pub record AddsRules (old new : Command) : Type 0 where
  pub is : app_of new ≡ with_rules (app_of old)
  pub local : (out-Command old).has_globals ≡ false → (out-Command new).has_globals ≡ false
