-- All numbers of the line are integers.
use Rattle.std.proofs.Common.{None, codes}
use Rattle.report_parts.specs.Parts.{text_if}
use Rattle.report_parts.specs.Putting.{text_in}
use Rattle.report_parts.specs.Whole.{put_whole, text_whole}
use Rattle.serde_json.specs.Data.{put}
use Rattle.commands.proofs.CertifyLemmas.{line_files_whole}
use Rattle.commands.proofs.ReportLemmas.{rejected_whole}
use Rattle.commands.specs.CheckReport.{rejected_members}
use Rattle.commands.proofs.certify_report.rejected_text.Goals as goal

pub report_text_of-requires : goal.report_text_of-requires
report_text_of-requires c =
    let name = text_in c.kind_name-name.result in
    let others = rejected_members c.args.refusal.number c.args.refusal.fault in
    let members = put (codes "record_name") (text_if name) others in
    rw (c.from.ensures, c.in_ok-put_files.ensures, c.in_ok-put_text_if.ensures, c.in_ok-members.ensures)
    (line_files_whole c.args.files None members (put_whole (codes "record_name") (text_if name) others (text_whole name) (rejected_whole c.args.refusal.number c.args.refusal.fault)))
