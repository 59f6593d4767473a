-- The result of the check is reported in terms of the file and the certificate.
use Rattle.commands.proofs.ReportLemmas.{reports}
use Rattle.commands.proofs.check.report_check.Goals as goal

pub returns-in-Ok-accepted_report : goal.returns-in-Ok-accepted_report
returns-in-Ok-accepted_report c =
    reports _ _ c.in-Ok.cleared _ c.answer_law.ensures c.in-Ok.ensures.rules c.in-Ok.ensures.accepted c.in-Ok.ensures.opened c.in-Ok.ensures.read c.in-Ok.ensures.counts c.in-Ok-accepted_report.ensures
