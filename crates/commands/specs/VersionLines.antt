-- What the program writes if it is asked for its version, and what it reports.
use Rattle.std.specs.Prelude.{ℕ, List, Option, codes}
use Rattle.std.specs.Io.KnownBytes.{Appends}
use Rattle.canvas.specs.Ppm.{AppendsPrefix}
use Rattle.commands.specs.Report.{PrintsNothing, Printed, Reports}
use Rattle.commands.specs.declared.command_end.CommandEnd.{CommandEnd}
use Rattle.commands.specs.declared.command_end.CommandEnd.TheVariants as end

-- the line about the version, or a prefix of it if the output failed
abbrev pub VersionWrites : CommandEnd → List ℕ → Option (List ℕ) → Option (List ℕ) → Type 0
VersionWrites end.Done version old new = Appends old new version
VersionWrites end.CannotWrite version old new = AppendsPrefix old new version
VersionWrites ending version old new = ⊥

-- nothing, or that the output failed
abbrev pub VersionPrints : CommandEnd → Printed → Option (List ℕ) → Option (List ℕ) → Type 0
VersionPrints end.Done printed old new = PrintsNothing printed old new
VersionPrints end.CannotWrite printed old new = Reports printed old new (codes "cannot write")
VersionPrints ending printed old new = ⊥
