-- At the end of the records, what was counted are the totals.
use Rattle.std.proofs.Common.{subst, Bool}
use Rattle.file_info.specs.Counting.{CountsNext, HasTotals, Leads, tally}
use Rattle.file_info.specs.Totals.{TotalsValue, totals_in}
use Rattle.file_info.proofs.counting.count_in.Goals as goal

pub returns : goal.returns
returns g c =
    let ends : (total : TotalsValue) → Leads c.args.format (tally c.loop-totals.dry_run c.loop-totals.walk c.loop-totals.totals) total → HasTotals c.count_next.new.totals total =
    subst (λ (more : Bool). CountsNext c.args.format (tally c.loop-totals.dry_run c.loop-totals.walk c.loop-totals.totals) (tally c.count_next.new.run c.count_next.new.walk c.count_next.new.totals) more)
    c.if-branch.false c.in_ok-count_next.ensures in
    ends (totals_in c.args.format c.args.rules c.args.file.now) c.loop-totals.invariant.leads
