use Rattle.mapping.specs.PlaceOf.{surface_of}
use Rattle.painting.proofs.BlitLemmas.{blit_painted}
use Rattle.painting.proofs.blits.blit.Goals as goal

pub fill_box-requires-clause-reads : goal.fill_box-requires-clause-reads
fill_box-requires-clause-reads c = rw (c.of_blit-paint.ensures.source, c.between.ensures.value) c.reader_of-reader.ensures.reads

pub returns-clause-pixels : goal.returns-clause-pixels
returns-clause-pixels c =
    let paint = c.of_blit-paint.ensures in
    blit_painted c.writing_law.ensures (surface_of c.args.place) c.of_blit-paint.result c.args.dc.now c.args.asked.now c.between.result c.args.canvas.now c.fill_box.new.canvas c.whole_law.ensures.whole
    paint.brush paint.modes paint.operation paint.clip (rw (c.at-first.ensures, c.at-second.ensures) at c.between.ensures.value)
    (λ x y p old. rw paint.source (rw (c.at-first.ensures, c.at-second.ensures) at c.reader_of-reader.ensures.seen x y p old))
    c.fill_box.ensures.pixels
