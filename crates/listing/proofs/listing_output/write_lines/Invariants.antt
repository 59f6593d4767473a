use Rattle.std.proofs.Common.{◌≡◌, ◌+◌, ◌^◌, ◌<◌, ◌≤◌, ◌++◌, length}
use Rattle.listing.specs.Listing.{framed_records, listed_by, listing_in}
use Rattle.listing.specs.Putting.{coming, listing_left}
use Rattle.canvas.specs.Sending.{Sending}
use Rattle.listing.proofs.listing_output.write_lines.Given as goal

-- what is on the page and what the walk has left wasn't sent, and the rest of the listing was; the records end as from the start; and there is
-- room for one more fault
abbrev pub invariant-loop-buffer : goal.invariant-loop-buffer
invariant-loop-buffer g l = record {
  sending : Sending (g.W.Write.contents l.fn.out) (g.W.Write.contents l.out) (listing_in l.format l.fn.dry_run l.file) (l.buffer ++ listing_left l.format (coming l.walk l.dry_run));
  end : listed_by l.walk.framed ≡ listed_by (framed_records l.format l.file);
  capacity : g.S.Sender.faults l.out + g.S.Sender.counted < 2 ^ 64;
  count : g.S.Sender.faults l.fn.out ≤ g.S.Sender.faults l.out;
}

abbrev pub decreases-loop-buffer : goal.decreases-loop-buffer
decreases-loop-buffer g l = length l.walk.framed.records
