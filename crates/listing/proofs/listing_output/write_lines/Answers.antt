-- A line is put for each record, and what is on the page is sent before it is full and at the end.
use Rattle.std.proofs.Common.{◌≡◌, ap, arith, refl, sym, ◌∙◌}
use Rattle.std.proofs.lemmas.Result.{err_from_is_err_and}
use Rattle.listing.specs.Formats.{first_place}
use Rattle.listing.specs.Listing.{framed_records, listed_by}
use Rattle.listing.specs.Putting.{PutsLine, PutsRest, coming, listing_left}
use Rattle.listing.proofs.LineLemmas.{begins}
use Rattle.canvas.specs.Sending.{sending_prefix_more, sending_part, sending_rest_prefix, sending_same}
use Rattle.listing.proofs.listing_output.write_lines.Goals as goal

pub loop-buffer-init : goal.loop-buffer-init
loop-buffer-init g c =
    let framed : c.new-walk.result.framed ≡ framed_records c.args.format c.args.file.now = rw (c.requires.framing, ← c.records_in-records.ensures) c.new-walk.ensures.framed in
    record {
      sending = begins (g.W.Write.contents c.args.out.now) c.args.format c.args.dry_run.now (framed_records c.args.format c.args.file.now) (first_place c.args.format) c.new-buffer.result c.new-walk.result
          c.new-buffer.ensures c.new-walk.ensures.number (c.new-walk.ensures.place ∙ c.first_place.ensures.value) framed;
      end = ap listed_by framed;
      capacity = c.requires.capacity;
      count = omega arith;
    }

pub returns-in_err-ensure_capacity-clause-err : goal.returns-in_err-ensure_capacity-clause-err
returns-in_err-ensure_capacity-clause-err g c =
    let p = err_from_is_err_and c.from_residual.result c.from_residual.ensures.1 in
    let left = listing_left c.args.format (coming c.loop-buffer.walk c.loop-buffer.dry_run) in
    rw p.1 (sending_prefix_more c.loop-buffer.buffer left c.loop-buffer.invariant.sending refl c.in_err-ensure_capacity.ensures.err)

pub loop-buffer-preserved : goal.loop-buffer-preserved
loop-buffer-preserved g c =
    let left = listing_left c.args.format (coming c.loop-buffer.walk c.loop-buffer.dry_run) in
    let before = c.loop-buffer.invariant.count in
    let here = c.in_ok-ensure_capacity.ensures.count in
    let puts : PutsLine c.args.format c.ensure_capacity.new.buffer (coming c.loop-buffer.walk c.loop-buffer.dry_run) c.put_next.new.buffer (coming c.put_next.new.walk c.put_next.new.dry_run) = c.in_default.ensures in
    record {
      sending = sending_same (sending_part left c.loop-buffer.invariant.sending c.in_ok-ensure_capacity.ensures.sent) puts.put;
      end = puts.end ∙ c.loop-buffer.invariant.end;
      capacity = c.in_ok-ensure_capacity.ensures.capacity;
      count = omega (arith, before, here);
    }

pub returns-in_err-send-clause-err : goal.returns-in_err-send-clause-err
returns-in_err-send-clause-err g c =
    let p = err_from_is_err_and c.from_residual-in_err-send.result c.from_residual-in_err-send.ensures.1 in
    let left = listing_left c.args.format (coming c.loop-buffer.walk c.loop-buffer.dry_run) in
    let puts : PutsRest c.args.format c.ensure_capacity.new.buffer (coming c.loop-buffer.walk c.loop-buffer.dry_run) c.in-Some.listed c.put_next.new.buffer = c.in-Some.ensures in
    rw p.1 (sending_rest_prefix (sending_same (sending_part left c.loop-buffer.invariant.sending c.in_ok-ensure_capacity.ensures.sent) (sym puts.put)) (rw c.text.ensures at c.in_err-send.ensures.err))
