-- A text that was written in full before the output failed is a prefix of itself.
use Rattle.std.proofs.Common.{[], rules, sym}
use Rattle.std.proofs.lemmas.List.{append-nil}
use Rattle.std.specs.Io.KnownBytes.{Appends}
use Rattle.mapping.specs.Colours.{white_colour}
use Rattle.player.specs.Bands.{WritesRun}
use Rattle.commands.proofs.PlayLemmas.{within_where_done}
use Rattle.commands.proofs.playing.write_played.Goals as goal

pub returns-in-Err-flush_sent-clause-failed : goal.returns-in-Err-flush_sent-clause-failed
returns-in-Err-flush_sent-clause-failed g c =
    let cleared = c.args.cleared.now in
    let asked = c.args.asked in
    let before = g.O.Write.contents c.args.out.now in
    let done : WritesRun cleared asked.width asked.height white_colour before (g.O.Write.contents c.play_bands_to.new.out) = c.in-Ok.ensures.text in
    let appended : Appends before (g.O.Write.contents c.flush_sent.new.out) done.text = search (done.appended, c.flush_sent.ensures.bytes, rules) in
    record {
      within = within_where_done cleared.certificate asked.width asked.height c.play_bands_to.result c.play_bands_to.ensures.too_large c.in-Ok.field-0 c.in-Ok.is;
      written = record {
        text = done.text;
        of_run = done.of_run;
        appended = record { sent = done.text; unsent = []; prefix = sym (append-nil done.text); appended = appended };
      };
    }
