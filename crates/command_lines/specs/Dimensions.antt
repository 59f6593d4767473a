-- The names and sizes of a command line.
use Rattle.std.specs.Prelude.{ℕ, List, IfSome}
use Rattle.mapping.specs.Limits.{IsSurfaceSide}
use Rattle.command_lines.specs.declared.asked.BatchTask.{BatchTask}
use Rattle.command_lines.specs.declared.asked.BatchTask.TheVariants.{Certify, Info}
use Rattle.command_lines.specs.declared.asked.CommandLine.{CommandLine}
use Rattle.command_lines.specs.declared.asked.CommandLine.TheVariants.{Check, List as ListLine, Over, Play, Prepare, Show}

-- the name of the metafile on the command line
abbrev pub file_of : CommandLine → List ℕ
file_of (Show file rules width height fit) = file.now
file_of (Prepare file rules width height output) = file.now
file_of (Check file certificate) = file.now
file_of (Play file certificate width height bands fit) = file.now
file_of (Over file certificate image) = file.now
file_of (ListLine file rules) = file.now

-- a width and a height that a surface may have
pub record AreDimensions (width height : ℕ) : Type 0 where
  pub wide : IsSurfaceSide width
  pub high : IsSurfaceSide height

-- the width and height on the command line are valid, and so is the number of rows in a band
abbrev pub HasDimensions : CommandLine → Type 0
HasDimensions (Show file rules width height fit) = AreDimensions width height
HasDimensions (Prepare file rules width height output) = AreDimensions width height
HasDimensions (Check file certificate) = Unit
HasDimensions (Play file certificate width height bands fit) = AreDimensions width height × IfSome bands IsSurfaceSide
HasDimensions (Over file certificate image) = Unit
HasDimensions (ListLine file rules) = Unit

-- the width and height of a task on several files are valid, if it has them
abbrev pub HasTaskDimensions : BatchTask → Type 0
HasTaskDimensions (Info rules) = Unit
HasTaskDimensions (Certify rules width height folder replace) = AreDimensions width height

-- a statement holds for a command line with valid sizes
pub record HoldsOfSome (holds : CommandLine → Type 0) : Type 0 where
  pub line : CommandLine
  pub dimensions : HasDimensions line
  pub fact : holds line
