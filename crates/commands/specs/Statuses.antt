-- The statuses of the program.
use Rattle.std.specs.Prelude.{ℕ}
use Rattle.commands.specs.declared.command_end.CommandEnd.{CommandEnd}
use Rattle.commands.specs.declared.command_end.CommandEnd.TheVariants.{CannotRead, CannotStore, CannotWrite, Done, Help, OutIsFile, OutOfMemory, Rejected, WrongUsage}

-- the status of each end
abbrev pub status_of : CommandEnd → ℕ
status_of Done = 0
status_of Rejected = 1
status_of WrongUsage = 2
status_of Help = 2
status_of OutIsFile = 2
status_of CannotRead = 3
status_of CannotStore = 3
status_of CannotWrite = 3
status_of OutOfMemory = 4
