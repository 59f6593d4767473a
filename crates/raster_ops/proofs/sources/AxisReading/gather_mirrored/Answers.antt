use Rattle.std.proofs.Common.{◌≡◌, ◌+◌, ◌-◌, ◌<◌, ◌≤ℤ◌, pos, get_or, length, length-set, ap, sym, ◌∙◌, arith, rules}
use Rattle.std.specs.Prelude.{unsigned_abs}
use Rattle.std.proofs.lemmas.Int.{ints}
use Rattle.std.proofs.lemmas.List.{get_or-set_other}
use Rattle.dib_views.specs.Rows.{row_colours_of}
use Rattle.mapping.specs.Colours.{black_colour}
use Rattle.raster_ops.proofs.GatherLemmas.{one_more, mirrored_at}
use Rattle.raster_ops.specs.Bytes.{HasBytes}
use Rattle.raster_ops.specs.Readers.{reading_of}
use Rattle.raster_ops.specs.Sources.{distance, index_read, scaled_place, mirrored_place}
use Rattle.raster_ops.proofs.sources.AxisReading.gather_mirrored.Goals as goal

pub loop-k-preserved : goal.loop-k-preserved
loop-k-preserved c =
    let self = c.args.self in
    let x = c.args.to - 1 - c.loop-k.k in
    let there = c.loop-k.invariant in
    let test = c.loop-k-test.true in
    let from = c.requires.from in
    let low : self.near ≤ℤ pos x = omega (arith, ints, test, from) in
    let place = mirrored_at self.near self.side c.args.to c.loop-k.k x low (omega (arith, test)) c.requires.to in
    let steps = c.loop-k.steps in
    let column =
    c.column.ensures.column
    ∙ ap (λ n. scaled_place n steps.side steps.place) there.count
    ∙ ap (λ n. scaled_place self.count n steps.place) there.side
    ∙ ap (λ n. scaled_place self.count self.side n) (there.place ∙ place)
    ∙ ap (λ m. scaled_place self.count self.side (mirrored_place m self.side (distance self.near (pos x)))) (sym c.requires.mirrored) in
    let bytes : HasBytes c.colour.result = search rules in
    let line = row_colours_of c.args.line.now in
    let after : x + c.loop-k.k + 1 ≡ c.args.to = omega (arith, test) in
    let capacity : x < length c.loop-k.out = omega (arith, test, there.long, c.requires.capacity) in
    record {
      long = length-set _ _ _ ∙ there.long;
      count = c.next-steps.ensures.count ∙ there.count;
      side = c.next-steps.ensures.side ∙ there.side;
      place = let next = c.next-steps.ensures.place in let now = there.place in omega (arith, next, now);
      each = one_more (λ n colour. colour ≡ get_or line (unsigned_abs (index_read (reading_of self) n)) black_colour) c.loop-k.out x c.colour.result c.args.to c.loop-k.k after capacity (c.colour.ensures ∙ ap (λ n. get_or line (self.first + n) black_colour) column) there.each;
      parts = one_more (λ n colour. HasBytes colour) c.loop-k.out x c.colour.result c.args.to c.loop-k.k after capacity bytes there.parts;
      others = λ y d h. get_or-set_other c.loop-k.out x y c.colour.result d (grind (arith, h)) ∙ there.others y d (grind (arith, h));
    }
