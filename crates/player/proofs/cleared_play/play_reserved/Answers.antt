-- A cleared file writes at most the certified number of pixels.
use Rattle.std.proofs.Common.{◌≡◌, ℕ, ◌+◌, ap, subst, sym}
use Rattle.mapping.specs.PlacingLaws.{ShowsFrame}
use Rattle.mapping.specs.Surface.{Surface}
use Rattle.meta_headers.specs.OpenedOf.{opened_of}
use Rattle.dc_stack.specs.State.{State}
use Rattle.preflight_cert.specs.Answer.{bound_of}
use Rattle.preflight_cert.specs.CertificateOf.{certificate_of}
use Rattle.preflight_cert.specs.Drawings.{drawings_of}
use Rattle.preflight_cert.specs.Writes.{writes_after, writes_of_drawings}
use Rattle.player.proofs.ClearedLemmas.{few_written, never_stops}
use Rattle.player.proofs.WholeSurfaceLemmas.{whole_played}
use Rattle.player.proofs.cleared_play.play_reserved.Goals as goal

-- the file never stops, so that its run shows what was played
pub returns-clause-played : goal.returns-clause-played
returns-clause-played g c =
    let cleared = c.args.cleared.now in
    let o = opened_of cleared.opened in
    let k = certificate_of cleared.certificate in
    let s = c.args.machine.now.surface in
    let frame : ShowsFrame (bound_of o k) = record { wide = cleared.opened.fine_frame.wide; high = cleared.opened.fine_frame.high } in
    let played = c.play_rows.ensures.played in
    let never = never_stops c.answer_law.ensures o cleared.opened.records.now k cleared.checked c.size_law.ensures s frame c.requires.ready.within played.content played.of_records in
    whole_played o cleared.opened.records.now c.args.machine.now c.args.canvas.now c.play_rows.new.canvas played never c.requires.whole c.requires.start.state c.requires.surface

pub returns-clause-few : goal.returns-clause-few
returns-clause-few g c =
    let cleared = c.args.cleared.now in
    let o = opened_of cleared.opened in
    let k = certificate_of cleared.certificate in
    let s = c.args.machine.now.surface in
    let old = c.args.canvas.now.writes in
    let new = c.play_rows.new.canvas.writes in
    let frame : ShowsFrame (bound_of o k) = record { wide = cleared.opened.fine_frame.wide; high = cleared.opened.fine_frame.high } in
    let played = c.play_rows.ensures.played in
    let height : s.height ≡ c.args.canvas.now.rows = ap (λ (t : Surface). t.height) c.requires.surface in
    let drawings = drawings_of played.content.steps c.args.machine.now.state in
    let top : new ≡ old + writes_of_drawings drawings s 0 c.args.canvas.now.rows = subst (λ (n : ℕ). new ≡ old + writes_of_drawings drawings s n c.args.canvas.now.rows) c.requires.whole played.plays.writes in
    let whole : new ≡ old + writes_of_drawings drawings s 0 s.height = subst (λ (n : ℕ). new ≡ old + writes_of_drawings drawings s 0 n) (sym height) top in
    let count = subst (λ (state : State). new ≡ old + writes_after (drawings_of played.content.steps state) s) c.requires.start.state whole in
    few_written c.answer_law.ensures o cleared.opened.records.now k cleared.checked c.size_law.ensures s frame c.requires.ready.within played.content played.of_records old new c.play_rows.result c.play_rows.ensures.count count
