-- Why a plain file wasn't read.
use Rattle.std.specs.Prelude.{ℕ, List, codes}
use Rattle.commands.specs.declared.command_end.CommandEnd.{CommandEnd}
use Rattle.commands.specs.declared.command_end.CommandEnd.TheVariants as end
use Rattle.commands.specs.declared.plain_file.PlainFault.{PlainFault}
use Rattle.commands.specs.declared.plain_file.PlainFault.TheVariants.{CannotRead, NotPlain, OutOfMemory}

-- how the work on the file ends
abbrev pub plain_end : PlainFault → CommandEnd
plain_end CannotRead = end.CannotRead
plain_end NotPlain = end.CannotRead
plain_end OutOfMemory = end.OutOfMemory

-- the reason
abbrev pub plain_text : PlainFault → List ℕ
plain_text CannotRead = codes "cannot read"
plain_text NotPlain = codes "not a plain file"
plain_text OutOfMemory = codes "OutOfMemory"
