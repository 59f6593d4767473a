use Rattle.std.proofs.Common.{◌+◌, [], arith, drop, get_or}
use Rattle.std.proofs.lemmas.List.{drop_all}
use Rattle.painting.specs.declared.row_op.RowOp.TheVariants.{Full}
use Rattle.painting.proofs.StripLemmas.{all_painted, full_span, next_span, one_painted_more}
use Rattle.painting.proofs.strips.put_full.Goals as goal

pub loop-span-preserved : goal.loop-span-preserved
loop-span-preserved c =
    let spans = c.args.spans.now in
    let place = c.loop-span.span-index in
    let span = get_or spans place record { from = 0; to = 0 } in
    let painted = rw (next_span spans place c.loop-span-test.true) at c.loop-span.invariant in
    one_painted_more c.writing_law.ensures (Full c.args.splat.now) [] c.args.y spans (drop (place + 1) spans) span c.args.canvas.now c.loop-span.canvas c.put_swatch.new.self painted (full_span c.writing_law.ensures c.args.splat.now c.args.y span.from span.to c.loop-span.canvas c.put_swatch.new.self painted.whole c.put_swatch.ensures.pixels) (let counted = c.put_swatch.ensures.count in omega (arith, counted))

pub returns-clause-pixels : goal.returns-clause-pixels
returns-clause-pixels c =
    let spans = c.args.spans.now in
    let none_left = drop_all c.loop-span.span-index spans c.loop-span-test.false in
    all_painted c.writing_law.ensures (Full c.args.splat.now) [] c.args.y spans c.args.canvas.now c.loop-span.canvas (rw none_left at c.loop-span.invariant)
