-- Part after part, the rows of the region are mixed.
use Rattle.std.proofs.Common.{◌≡◌, refl, ap, arith, subst, ◌∙◌}
use Rattle.painting.specs.WideSpans.{MixesUncutWide}
use Rattle.painting.proofs.MaskStrokeLemmas.{before, none_mixed, part_mixed}
use Rattle.painting.proofs.mask_stroking.mix_parts.Goals as goal

pub loop-rest-init : goal.loop-rest-init
loop-rest-init g c = record {
  columns = refl;
  low = omega arith;
  high = c.requires.rows.order;
  end = refl;
  mixed = none_mixed c.writing_law.ensures c.args.stroke.now (g.O.Outline.lines c.args.outline) c.args.canvas.now c.whole_law.ensures.whole c.args.drawn;
}

pub part_of-part-requires : goal.part_of-part-requires
part_of-part-requires g c =
    let there = c.loop-rest.invariant in
    let columns = there.columns in
    let end = there.end in
    let more = c.loop-rest-test.true in
    let last = c.requires.rows.to in
    record {
      columns = rw columns c.requires.columns.order;
      columns_end = rw columns c.requires.columns.to;
      rows = omega (arith, more);
      rows_end = rw end last;
    }

pub mix_part-requires-clause-countable : goal.mix_part-requires-clause-countable
mix_part-requires-clause-countable g c =
    let bound = c.writing_law.ensures.bounded _ _ c.args.canvas.now c.loop-rest.canvas c.loop-rest.invariant.mixed in
    let pixels = c.whole_law.ensures.pixels in
    let capacity = c.requires.countable in
    omega (arith, bound, pixels, capacity)

pub mix_part-requires-clause-held : goal.mix_part-requires-clause-held
mix_part-requires-clause-held g c =
    let there = c.loop-rest.invariant in
    let held = c.requires.held in
    let right = held.right in
    let top = held.top in
    let bottom = held.bottom in
    let width = there.mixed.width in
    let first = there.mixed.first in
    let rows = there.mixed.rows in
    let part = c.part_of-part.ensures in
    let columns = ap (λ s. s.to) (part.columns ∙ there.columns) in
    let from = part.first in
    let last = part.last in
    let low = there.low in
    let end = there.end in
    record { right = omega (arith, right, width, columns); top = omega (arith, top, first, from, low); bottom = omega (arith, bottom, first, rows, last, end) }

pub loop-rest-smaller : goal.loop-rest-smaller
loop-rest-smaller g c =
    let more = c.loop-rest-test.true in
    let some = c.part_of-part.ensures.some more in
    let from = c.part_of-part.ensures.first in
    let last = c.part_of-part.ensures.last in
    omega (arith, some, from, last)

pub loop-rest-preserved : goal.loop-rest-preserved
loop-rest-preserved g c =
    let there = c.loop-rest.invariant in
    let part = c.part_of-part.ensures in
    let more = c.loop-rest-test.true in
    let some = part.some more in
    let from = part.first in
    let last = part.last in
    let low = there.low in
    let end = there.end in
    record {
      columns = there.columns;
      low = omega (arith, low, some, from);
      high = omega (arith, last, end);
      end = there.end;
      mixed =
          part_mixed c.writing_law.ensures c.args.stroke.now (g.O.Outline.lines c.args.outline) c.args.canvas.now c.whole_law.ensures.whole c.args.drawn c.part_of-part.result c.loop-rest.rest.rows.from c.loop-rest.canvas c.mix_part.new.canvas
          (part.columns ∙ there.columns) part.first there.low (omega (arith, some, from)) there.mixed c.mix_part.ensures;
    }

pub returns : goal.returns
returns g c =
    let there = c.loop-rest.invariant in
    let ended = c.loop-rest-test.false in
    let high = there.high in
    let end = there.end in
    let all : c.loop-rest.rest.rows.from ≡ c.args.drawn.rows.to = omega (arith, ended, high, end) in
    subst (λ y. MixesUncutWide (before c.args.drawn y) c.args.stroke.now (g.O.Outline.lines c.args.outline) c.args.canvas.now c.loop-rest.canvas) all there.mixed
