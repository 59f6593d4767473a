-- What was written is the listing, or a prefix of it.
use Rattle.std.proofs.Common.{refl, rules}
use Rattle.std.proofs.lemmas.Result.{err_from_is_err_and}
use Rattle.canvas.specs.Sending.{sending_prefix, sending_kept, sending_whole}
use Rattle.listing.specs.Listing.{listing_of}
use Rattle.commands.proofs.ListLemmas.{is_listing}
use Rattle.commands.proofs.list.send_listing.Goals as goal

pub returns-in_err-listed-clause-err : goal.returns-in_err-listed-clause-err
returns-in_err-listed-clause-err g c =
    let p = err_from_is_err_and c.from_residual.result c.from_residual.ensures.1 in
    rw p.1 (record { text = listing_of c.args.rules c.args.file.now; fact = is_listing c.args.rules c.args.file.now; written = rw c.requires.dry_run at c.in_err-listed.ensures.err })

pub returns-in_err-flush_sent-clause-err : goal.returns-in_err-flush_sent-clause-err
returns-in_err-flush_sent-clause-err g c =
    let p = err_from_is_err_and c.from_residual-in_err-flush_sent.result c.from_residual-in_err-flush_sent.ensures.1 in
    rw p.1 (record {
      text = listing_of c.args.rules c.args.file.now;
      fact = is_listing c.args.rules c.args.file.now;
      written = sending_prefix (sending_kept (sending_whole (rw c.requires.dry_run at c.in_ok-listed.ensures.ok)) c.flush_sent.ensures.bytes);
    })

pub returns-clause-ok : goal.returns-clause-ok
returns-clause-ok g c = record {
  text = listing_of c.args.rules c.args.file.now;
  fact = record { end = c.in_ok-listed.ensures.listed; printed = refl };
  written = search rules;
}
