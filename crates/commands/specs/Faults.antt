-- What is reported when an input wasn't read, and how the program ends if it doesn't come to a command.
use Rattle.std.specs.Prelude.{ℕ, List, codes}
use Rattle.commands.specs.declared.command_end.CommandEnd.{CommandEnd}
use Rattle.commands.specs.declared.command_end.CommandEnd.TheVariants as end
use Rattle.commands.specs.declared.input.InputFault.{InputFault}
use Rattle.commands.specs.declared.input.InputFault.TheVariants.{CannotRead, OutOfMemory}

-- the message for an input that wasn't read
abbrev pub fault_text : InputFault → List ℕ
fault_text CannotRead = codes "cannot read"
fault_text OutOfMemory = codes "OutOfMemory"

-- how a command ends if an input wasn't read
abbrev pub input_end : InputFault → CommandEnd
input_end CannotRead = end.CannotRead
input_end OutOfMemory = end.OutOfMemory

-- the program can end so if the words are those of no command
abbrev pub IsUsageEnd : CommandEnd → Type 0
IsUsageEnd end.WrongUsage = Unit {0}
IsUsageEnd end.Help = Unit {0}
IsUsageEnd end.OutOfMemory = Unit {0}
IsUsageEnd other = ⊥
