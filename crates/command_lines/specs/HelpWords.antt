-- Command lines that ask for help.
use Rattle.std.specs.Prelude.{List}
use Rattle.clap.specs.Words.{IsAmong, Text, fault_of}
use Rattle.clap.specs.declared.error.kind.ErrorKind.TheVariants.{DisplayHelp}
use Rattle.command_lines.specs.CommandLine.{metaplay_app}

-- help is among what clap may answer the words with
abbrev pub AsksHelp : List Text → Type 0
AsksHelp words = IsAmong DisplayHelp (fault_of metaplay_app words)
