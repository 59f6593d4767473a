-- All numbers of the line are integers.
use Rattle.std.proofs.Common.{None}
use Rattle.commands.proofs.CertifyLemmas.{line_files_whole}
use Rattle.commands.proofs.ReportLemmas.{members_whole}
use Rattle.commands.specs.ClearedFiles.{members_of}
use Rattle.commands.proofs.certify_report.certified_text.Goals as goal

pub report_text_of-requires : goal.report_text_of-requires
report_text_of-requires c =
    rw (c.from.ensures, c.in_ok-put_files.ensures, c.in_ok-members.ensures) (line_files_whole c.args.files None (members_of c.args.cleared.now) (members_whole c.args.cleared.now))
