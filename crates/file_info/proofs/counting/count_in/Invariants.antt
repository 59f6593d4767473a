use Rattle.std.proofs.Common.{length}
use Rattle.file_info.specs.Counting.{Leads, tally}
use Rattle.file_info.specs.Totals.{totals_in}
use Rattle.file_info.proofs.counting.count_in.Given as goal

-- what was counted, with the records that remain, leads to the totals of the file
abbrev pub invariant-loop-totals : goal.invariant-loop-totals
invariant-loop-totals g l = record { leads : Leads l.format (tally l.dry_run l.walk l.totals) (totals_in l.format l.fn.rules l.file) }

abbrev pub decreases-loop-totals : goal.decreases-loop-totals
decreases-loop-totals g l = length l.walk.framed.records
