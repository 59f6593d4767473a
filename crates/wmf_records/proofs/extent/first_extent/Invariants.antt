use Rattle.std.proofs.Common.{◌≡◌, ◌-◌, ◌≤◌}
use Rattle.draw_ops.specs.Framed.{framed_from}
use Rattle.draw_ops.specs.Records.{record_limit}
use Rattle.wmf_records.specs.FirstExtent.{first_extent, first_extent_in}
use Rattle.wmf_records.specs.Framing.{wmf_framing}
use Rattle.wmf_records.proofs.extent.first_extent.Given as goal

-- the first extent of what is left is that of the whole
abbrev pub invariant-loop-leading : goal.invariant-loop-leading
invariant-loop-leading l = record {
  within : l.number ≤ record_limit;
  left : first_extent_in (framed_from wmf_framing (record_limit - l.number) l.number l.rest).records ≡ first_extent l.bytes;
}

abbrev pub decreases-loop-leading : goal.decreases-loop-leading
decreases-loop-leading l = record_limit - l.number
