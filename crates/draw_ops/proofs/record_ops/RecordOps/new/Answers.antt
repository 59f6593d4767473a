-- The source over all bytes has their content, and no more steps than a file may have records.
use Rattle.std.proofs.Common.{◌≡◌, ◌-◌, arith}
use Rattle.draw_ops.specs.Records.{record_limit}
use Rattle.draw_ops.proofs.ContentLemmas.{whole_content, content_short}
use Rattle.draw_ops.proofs.record_ops.RecordOps.new.Goals as goal

pub returns-clause-content : goal.returns-clause-content
returns-clause-content g c =
    let all : record_limit - 0 ≡ record_limit = omega arith in rw all (whole_content g.F.Format.framing g.F.Format.meaning c.args.bytes.now)

pub returns-clause-short : goal.returns-clause-short
returns-clause-short g c =
    let all : record_limit - 0 ≡ record_limit = omega arith in rw all (content_short g.F.Format.framing g.F.Format.meaning record_limit 0 c.args.bytes.now)
