-- All numbers of the report are integers.
use Rattle.commands.proofs.ReportLemmas.{members_whole}
use Rattle.commands.proofs.check_report.accepted_report.Goals as goal

pub report_text_of-requires : goal.report_text_of-requires
report_text_of-requires c = rw (c.from.ensures, c.in_ok-members.ensures) (members_whole c.args.cleared.now)
