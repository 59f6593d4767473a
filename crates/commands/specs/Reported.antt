-- The reports that the code makes.
use Rattle.std.specs.Prelude.{ℕ, List}
use Rattle.commands.specs.CheckReport.{ReportsAccepted, ReportsRejected}
use Rattle.commands.specs.declared.check.Report.{Report}
use Rattle.commands.specs.declared.check.Report.TheVariants.{Accepted, Rejected}

-- the report is that of a file and a certificate, and of whether they are accepted
abbrev pub IsReportOf : List ℕ → List ℕ → Report → Type 0
IsReportOf file certificate (Accepted text) = ReportsAccepted file certificate text.items
IsReportOf file certificate (Rejected text) = ReportsRejected file certificate text.items
