use Rattle.std.proofs.Common.{arith, ap, subst, sym}
use Rattle.canvas.specs.CanvasState.{CanvasState}
use Rattle.canvas.specs.PixelSources.{counted}
use Rattle.canvas.specs.Writing.{Repaints}
use Rattle.canvas.proofs.EachLemmas.{all_changed, gives_span, held_now, none_changed, piece_changed, same_changed, sum_fits}
use Rattle.canvas.proofs.surface.Canvas.change_spans.Goals as goal

pub loop-span-init : goal.loop-span-init
loop-span-init g c =
    record {
      whole = c.width.ensures.whole;
      changed = none_changed (g.S.SpanSource.to_come c.args.spans.now) (g.C.PartChange.made c.args.change.now) c.args.self.now c.width.ensures.whole;
      end = λ end h. h;
    }

pub change_span-count-requires : goal.change_span-count-requires
change_span-count-requires g c =
    let inv = c.loop-span.invariant in
    let span = c.in-Span.span in
    held_now (g.S.SpanSource.to_come c.args.spans.now) (g.C.PartChange.made c.args.change.now) c.args.self.now inv.whole (g.S.SpanSource.to_come c.loop-span.spans) (g.S.SpanSource.to_come c.step.new.self) _ c.loop-span.count c.loop-span.self inv.changed
    (gives_span _ _ _ _ span c.in-Span.ensures.span)
    c.requires.held

pub overflow_add-count : goal.overflow_add-count
overflow_add-count g c =
    let inv = c.loop-span.invariant in
    let changed = piece_changed (g.S.SpanSource.to_come c.args.spans.now) (g.C.PartChange.made c.args.change.now) c.args.self.now inv.whole (g.S.SpanSource.to_come c.loop-span.spans) (g.S.SpanSource.to_come c.step.new.self) _ c.loop-span.count c.loop-span.self inv.changed
    (gives_span _ _ _ _ c.in-Span.span c.in-Span.ensures.span)
    c.change_span-count.result c.change_span-count.new.self c.change_span-count.ensures.count c.change_span-count.ensures.pixels in
    let fits = sum_fits _ _ _ _ c.args.self.now c.change_span-count.new.self changed c.requires.countable in
    omega (arith, fits)

pub loop-span-preserved-in-Span : goal.loop-span-preserved-in-Span
loop-span-preserved-in-Span g c =
    let inv = c.loop-span.invariant in
    record {
      whole = inv.whole;
      changed = piece_changed (g.S.SpanSource.to_come c.args.spans.now) (g.C.PartChange.made c.args.change.now) c.args.self.now inv.whole (g.S.SpanSource.to_come c.loop-span.spans) (g.S.SpanSource.to_come c.step.new.self) _ c.loop-span.count c.loop-span.self inv.changed
          (gives_span _ _ _ _ c.in-Span.span c.in-Span.ensures.span)
          c.change_span-count.result c.change_span-count.new.self c.change_span-count.ensures.count c.change_span-count.ensures.pixels;
      end = λ end h. inv.end end (c.in-Span.ensures.end end h);
    }

pub overflow_add-self : goal.overflow_add-self
overflow_add-self g c =
    let inv = c.loop-span.invariant in
    let fits = sum_fits (g.S.SpanSource.to_come c.args.spans.now) (g.S.SpanSource.to_come c.loop-span.spans) (g.C.PartChange.made c.args.change.now) c.loop-span.count c.args.self.now c.loop-span.self inv.changed c.requires.countable in
    let same = ap (λ (canvas : CanvasState). canvas.writes) c.self-2.view_is in
    omega (arith, fits, same)

pub loop-span-preserved : goal.loop-span-preserved
loop-span-preserved g c =
    let inv = c.loop-span.invariant in
    record {
      whole = inv.whole;
      changed = same_changed (g.S.SpanSource.to_come c.args.spans.now) (g.C.PartChange.made c.args.change.now) c.args.self.now inv.whole (g.S.SpanSource.to_come c.loop-span.spans) (g.S.SpanSource.to_come c.step.new.self) c.loop-span.count c.loop-span.self inv.changed c.in-Nothing.ensures.span.same;
      end = λ end h. inv.end end (c.in-Nothing.ensures.end end h);
    }

pub returns-clause-pixels : goal.returns-clause-pixels
returns-clause-pixels g c =
    let start = g.S.SpanSource.to_come c.args.spans.now in
    let made = g.C.PartChange.made c.args.change.now in
    let inv = c.loop-span.invariant in
    subst (λ (canvas : CanvasState). Repaints start (λ x y old. made old) c.args.self.now (counted c.loop-span.count canvas)) (sym c.self-2.view_is)
    (all_changed start made c.args.self.now inv.whole (g.S.SpanSource.to_come c.loop-span.spans) c.loop-span.count c.loop-span.self inv.changed c.in-End.ensures.span)
