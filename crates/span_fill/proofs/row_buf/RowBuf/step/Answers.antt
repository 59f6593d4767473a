-- The edges that cross the next row.
use Rattle.std.proofs.Common.{◌+◌, ◌<◌, subst, sym, ◌∙◌, arith, refl}
use Rattle.std.proofs.lemmas.Bool.{false≢true}
use Rattle.span_fill.specs.RowState.{IsFillingWork, RowState}
use Rattle.span_fill.proofs.FillLemmas.{all_can_move, edges_near}
use Rattle.span_fill.proofs.RowLemmas.{filling_goes_on, unused_above}
use Rattle.span_fill.proofs.StrokingLemmas.{not_both}
use Rattle.span_fill.proofs.row_buf.RowBuf.step.Goals as goal

pub move_edges-self-inside-requires : goal.move_edges-self-inside-requires
move_edges-self-inside-requires c =
    let work = subst (λ (s : RowState). IsFillingWork s.work) (sym c.self.view_is) c.requires.filling in
    let filling = c.self.invariant.filling work (unused_above c.self.inside.table.is_used c.self.inside.active.items c.self.inside.is_sorted c.self.inside.event (c.self.inside.next + 1) c.self.invariant.counted c.if-next-self.true) in
    all_can_move c.self.inside.next _ c.self.inside.active.items (edges_near 0 c.self.inside.lines.items c.self.invariant.near) filling.row filling.crosses

pub invariant_of-self : goal.invariant_of-self
invariant_of-self c =
    let next : c.self.inside.next < 8192 = subst (λ (s : RowState). s.next < 8192) (sym c.self.view_is) c.requires.next in
    record {
      capacity = record {
        limit = c.self.invariant.capacity.limit;
        lines = c.self.invariant.capacity.lines;
        edges = c.self.invariant.capacity.edges;
        active = omega arith;
        crossings = c.self.invariant.capacity.crossings;
        counts = c.self.invariant.capacity.counts;
        table = c.self.invariant.capacity.table;
        spans = c.self.invariant.capacity.spans;
        strokes = c.self.invariant.capacity.strokes;
      };
      count = c.self.invariant.count;
      near = c.self.invariant.near;
      row = omega (arith, next);
      filling = λ work unused. filling_goes_on c.self.inside.next (c.self.inside.next + 1) c.self.inside.capacity c.self.inside.lines.items c.self.inside.edges.items c.self.inside.begun c.self.inside.active.items c.move_edges-self-inside.new.active.items c.self.inside.is_sorted c.move_edges-self-inside.result c.self.inside.event refl next c.if-next-self.true c.self.invariant.near (c.self.invariant.filling work (unused_above c.self.inside.table.is_used c.self.inside.active.items c.self.inside.is_sorted c.self.inside.event (c.self.inside.next + 1) c.self.invariant.counted c.if-next-self.true)) c.move_edges-self-inside.ensures.edges c.move_edges-self-inside.ensures.sorted;
      tabled = λ work used. absurd (false≢true (sym (unused_above c.self.inside.table.is_used c.self.inside.active.items c.self.inside.is_sorted c.self.inside.event (c.self.inside.next + 1) c.self.invariant.counted c.if-next-self.true) ∙ used));
      counted = λ used. absurd (false≢true (sym (unused_above c.self.inside.table.is_used c.self.inside.active.items c.self.inside.is_sorted c.self.inside.event (c.self.inside.next + 1) c.self.invariant.counted c.if-next-self.true) ∙ used));
      stroking = λ h. absurd (not_both _ (subst (λ (s : RowState). IsFillingWork s.work) (sym c.self.view_is) c.requires.filling) h);
    }
