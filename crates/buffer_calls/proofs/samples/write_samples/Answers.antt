-- What the writer left in the buffer: the samples of the whole text, or nothing.
use Rattle.std.proofs.Common.{◌≡◌, ◌∙◌, Err, List, ℕ, ap, arith, rules, sym, take}
use Rattle.std.proofs.lemmas.List.{length-take-le}
use Rattle.draw_ops.specs.declared.fault.Fault.{Fault}
use Rattle.draw_ops.specs.declared.fault.Fault.TheVariants as fault
use Rattle.buffer_calls.specs.Split.{rest_of}
use Rattle.buffer_calls.proofs.SampleLemmas.{filled, played, unplayed}
use Rattle.buffer_calls.proofs.samples.write_samples.Goals as goal

pub returns-in-Ok-clause-done : goal.returns-in-Ok-clause-done
returns-in-Ok-clause-done g c =
    let writer = c.play_bands_to.new.out in
    let split = writer.split in
    let size = length-take-le split.header_length split.header (omega (arith, split.whole, split.short)) in
    let text = c.in-Ok.ensures.text in
    λ file from.
    played _ _ c.args.samples.now writer.samples.now _ (search rules) c.rows_law.ensures c.args.cleared.now.opened.rules file c.args.surface.width c.args.surface.height c.requires.wide
    (take split.header_length split.header) text.text split.written (text.of_run file from) (size ∙ writer.header ∙ sym c.requires.header) c.requires.size text.appended

pub returns-then-eq-clause-done : goal.returns-then-eq-clause-done
returns-then-eq-clause-done g c =
    let writer = c.play_bands_to.new.out in
    let split = writer.split in
    let size = length-take-le split.header_length split.header (omega (arith, split.whole, split.short)) in
    let is : c.in-Err.fault ≡ fault.WriteFault = search rules in
    let failed = ap (λ (f : Fault). Err f) is in
    let part = c.in-Err.ensures.prefix failed in
    let full = writer.full (c.in-Err.ensures.fault failed) in
    λ file from.
    filled _ _ c.args.samples.now writer.samples.now _ (search rules) c.rows_law.ensures c.args.cleared.now.opened.rules file c.args.surface.width c.args.surface.height c.requires.wide
    (take split.header_length split.header) part.text part.appended.sent part.appended.unsent split.written (part.of_run file from)
    (size ∙ writer.header ∙ sym c.requires.header) c.requires.size part.appended.prefix (omega (arith, size, full)) part.appended.appended

pub returns-else-eq-clause-kept : goal.returns-else-eq-clause-kept
returns-else-eq-clause-kept g c =
    let writer = c.play_bands_to.new.out in
    let split = writer.split in
    let size = length-take-le split.header_length split.header (omega (arith, split.whole, split.short)) in
    let kept = writer.kept ∙ ap (λ (start : List ℕ). rest_of split start) (sym c.requires.start) in
    unplayed _ _ c.args.samples.now writer.samples.now _ (search rules) (take split.header_length split.header) split.header_length split.written size writer.within
    kept (c.in-Err.ensures.unwritten (λ failed. let is : c.in-Err.fault ≡ fault.WriteFault = cc in search rules))
