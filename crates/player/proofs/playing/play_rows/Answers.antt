-- A cleared file never stops, and the memory that its certificate needs is enough.
use Rattle.std.proofs.Common.{◌≡◌, None, rules}
use Rattle.mapping.specs.PlacingLaws.{ShowsFrame}
use Rattle.meta_headers.specs.OpenedOf.{opened_of}
use Rattle.meta_headers.specs.SourceContent.{source_content}
use Rattle.dc_stack.specs.State.{start_of}
use Rattle.preflight_cert.specs.Answer.{bound_of}
use Rattle.preflight_cert.specs.CertificateOf.{certificate_of}
use Rattle.preflight_cert.specs.Stop.{stop_of}
use Rattle.player.proofs.ClearedLemmas.{lines_for_file, never_stops, capacity_for_file}
use Rattle.player.proofs.StepLemmas.{steps_unstopped}
use Rattle.player.proofs.playing.play_rows.Goals as goal

pub play_steps-requires : goal.play_steps-requires
play_steps-requires g c =
    let cleared = c.args.cleared.now in
    let o = opened_of cleared.opened in
    let m = c.args.machine.now in
    let content = source_content c.source.result in
    let scratch = capacity_for_file c.answer_law.ensures o cleared.opened.records.now (certificate_of cleared.certificate) cleared.checked content c.source.ensures.content m c.requires.start.state c.requires.start.needs c.requires.ready.capacity in
    let lines = lines_for_file c.answer_law.ensures o cleared.opened.records.now (certificate_of cleared.certificate) cleared.checked content c.source.ensures.content m c.requires.start.state c.requires.start.needs c.args.drawings.now.rows.capacity c.requires.ready.lines in
    search (scratch, lines, rules)

pub unreachable-requires : goal.unreachable-requires
unreachable-requires g c =
    let cleared = c.args.cleared.now in
    let o = opened_of cleared.opened in
    let k = certificate_of cleared.certificate in
    let m = c.args.machine.now in
    let s = m.surface in
    let content = source_content c.source.result in
    let frame : ShowsFrame (bound_of o k) = record { wide = cleared.opened.fine_frame.wide; high = cleared.opened.fine_frame.high } in
    let never : stop_of content (start_of o) s ≡ None = never_stops c.answer_law.ensures o cleared.opened.records.now k cleared.checked c.size_law.ensures s frame c.requires.ready.within content c.source.ensures.content in
    c.in-Err.ensures.refusal (steps_unstopped content m.state s (rw c.requires.start.state never))
