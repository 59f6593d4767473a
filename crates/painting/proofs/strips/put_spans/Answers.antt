use Rattle.std.proofs.Common.{◌+◌, drop, get_or, map}
use Rattle.std.proofs.lemmas.List.{drop_all}
use Rattle.painting.proofs.StripLemmas.{all_painted, may_paint_next, next_span, one_painted_more}
use Rattle.painting.proofs.strips.put_spans.Goals as goal

pub loop-span-preserved : goal.loop-span-preserved
loop-span-preserved c =
    let spans = c.args.spans.now in
    let place = c.loop-span.span-index in
    let span = get_or spans place record { from = 0; to = 0 } in
    one_painted_more c.writing_law.ensures c.args.row_op.now (map (λ b. b.placed) c.args.cuts.now) c.args.y spans (drop (place + 1) spans) span c.args.canvas.now c.loop-span.canvas c.put_uncut.new.canvas (rw (next_span spans place c.loop-span-test.true) at c.loop-span.invariant) c.put_uncut.ensures.pixels c.put_uncut.ensures.count

pub returns-clause-pixels : goal.returns-clause-pixels
returns-clause-pixels c =
    let spans = c.args.spans.now in
    let none_left = drop_all c.loop-span.span-index spans c.loop-span-test.false in
    all_painted c.writing_law.ensures c.args.row_op.now (map (λ b. b.placed) c.args.cuts.now) c.args.y spans c.args.canvas.now c.loop-span.canvas (rw none_left at c.loop-span.invariant)

pub put_uncut-requires : goal.put_uncut-requires
put_uncut-requires c =
    let spans = c.args.spans.now in
    let place = c.loop-span.span-index in
    let span = get_or spans place record { from = 0; to = 0 } in
    may_paint_next c.args.row_op.now (map (λ b. b.placed) c.args.cuts.now) c.args.y spans (drop (place + 1) spans) span c.args.canvas.now c.loop-span.canvas (rw (next_span spans place c.loop-span-test.true) at c.loop-span.invariant) c.requires.countable
