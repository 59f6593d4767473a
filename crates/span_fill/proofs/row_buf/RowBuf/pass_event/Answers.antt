-- The edges that cross the next row.
use Rattle.std.proofs.Common.{◌+◌, ◌<◌, false, List, length, map, ap, subst, sym, ◌∙◌, arith, refl}
use Rattle.std.proofs.lemmas.Bool.{false≢true}
use Rattle.std.specs.List.Sorted.{IsNonDecreasingBy}
use Rattle.std.proofs.lemmas.List.Elements.{All-filter}
use Rattle.span_fill.specs.Edges.{EdgeCanMove, edge_first_row, goes_to, moved}
use Rattle.span_fill.specs.RowState.{IsFillingWork, RowState}
use Rattle.span_fill.specs.declared.edge.Edge.{Edge}
use Rattle.span_fill.proofs.EventLemmas.{quiet_above}
use Rattle.span_fill.proofs.FillLemmas.{all_can_move, edges_near}
use Rattle.span_fill.proofs.RowLemmas.{filling_steps}
use Rattle.span_fill.proofs.StrokingLemmas.{not_both}
use Rattle.span_fill.proofs.row_buf.RowBuf.pass_event.Goals as goal

pub move_edges-requires : goal.move_edges-requires
move_edges-requires c =
    let work = subst (λ (s : RowState). IsFillingWork s.work) (sym c.self.view_is) c.requires.filling in
    let filling = c.self.invariant.filling work c.if-self.false in
    rw c.retire.ensures.edges (All-filter (goes_to (c.self.inside.next + 1)) EdgeCanMove c.self.inside.active.items (all_can_move c.self.inside.next _ c.self.inside.active.items (edges_near 0 c.self.inside.lines.items c.self.invariant.near) filling.row filling.crosses))

pub invariant_of-self : goal.invariant_of-self
invariant_of-self c =
    let next : c.self.inside.next < 8192 = subst (λ (s : RowState). s.next < 8192) (sym c.self.view_is) c.requires.next in
    record {
      capacity = record {
        limit = c.self.invariant.capacity.limit;
        lines = c.self.invariant.capacity.lines;
        edges = c.self.invariant.capacity.edges;
        active = c.self.invariant.capacity.active;
        crossings = c.self.invariant.capacity.crossings;
        counts = c.self.invariant.capacity.counts;
        table = c.self.invariant.capacity.table;
        spans = c.self.invariant.capacity.spans;
        strokes = c.self.invariant.capacity.strokes;
      };
      count = c.self.invariant.count;
      near = c.self.invariant.near;
      row = omega (arith, next);
      filling = λ work unused. absurd (false≢true (sym unused ∙ c.if-self.true));
      tabled = c.self.invariant.tabled;
      counted = c.self.invariant.counted;
      stroking = λ h. absurd (not_both _ (subst (λ (s : RowState). IsFillingWork s.work) (sym c.self.view_is) c.requires.filling) h);
    }

pub invariant_of-self-2 : goal.invariant_of-self-2
invariant_of-self-2 c =
    let next : c.self.inside.next < 8192 = subst (λ (s : RowState). s.next < 8192) (sym c.self.view_is) c.requires.next in
    record {
      capacity = record {
        limit = c.self.invariant.capacity.limit;
        lines = c.self.invariant.capacity.lines;
        edges = c.self.invariant.capacity.edges;
        active = omega arith;
        crossings = c.self.invariant.capacity.crossings;
        counts = c.self.invariant.capacity.counts;
        table = c.self.invariant.capacity.table;
        spans = c.self.invariant.capacity.spans;
        strokes = c.self.invariant.capacity.strokes;
      };
      count = c.self.invariant.count;
      near = c.self.invariant.near;
      row = omega (arith, next);
      filling = λ work unused.
          let filling = c.self.invariant.filling work c.if-self.false in
          let on = c.move_edges.ensures.edges ∙ ap (map moved) c.retire.ensures.edges in
          let admitted = rw (c.as_slice.ensures.value, on) at c.admit-self-inside.ensures.active in
          let left = rw c.as_slice.ensures.value at c.admit-self-inside.ensures.left in
          let edges = ap (λ xs. length xs) c.as_slice.ensures.value in
          let event = rw (c.as_slice-2.ensures.value, c.as_slice-3.ensures.value) at c.next_event-self-inside.ensures in
          let quiet = quiet_above c.next_event-self-inside.result c.admit-self-inside.result c.admit-self-inside.new.active.items c.self.inside.edges.items filling.ordered event in
          filling_steps c.self.inside.next (c.self.inside.next + 1) c.self.inside.capacity c.self.inside.lines.items c.self.inside.edges.items c.self.inside.begun c.admit-self-inside.result c.self.inside.active.items c.admit-self-inside.new.active.items c.self.inside.is_sorted false c.self.inside.event c.next_event-self-inside.result refl next c.self.invariant.near filling admitted left (omega (arith, edges, c.admit-self-inside.ensures.within)) (λ t. absurd cc) (omega (arith, edges, filling.count, c.retire.ensures.length, c.move_edges.ensures.length, c.admit-self-inside.ensures.length)) quiet;
      tabled = λ work used. absurd (false≢true (sym c.if-self.false ∙ used));
      counted = λ used. absurd (false≢true (sym c.if-self.false ∙ used));
      stroking = λ h. absurd (not_both _ (subst (λ (s : RowState). IsFillingWork s.work) (sym c.self.view_is) c.requires.filling) h);
    }

pub admit-self-inside-requires-clause-sorted : goal.admit-self-inside-requires-clause-sorted
admit-self-inside-requires-clause-sorted c =
    let work = subst (λ (s : RowState). IsFillingWork s.work) (sym c.self.view_is) c.requires.filling in
    let filling = c.self.invariant.filling work c.if-self.false in
    subst (λ (es : List Edge). IsNonDecreasingBy edge_first_row es) (sym c.as_slice.ensures.value) filling.ordered
