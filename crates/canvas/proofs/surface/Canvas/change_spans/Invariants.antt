use Rattle.canvas.specs.WritingLaws.{IsWhole}
use Rattle.canvas.proofs.EachLemmas.{HasChanged}
use Rattle.canvas.proofs.surface.Canvas.change_spans.Given as goal

-- the spans that aren't to come any more are written, and what the source ends as is what it ends as from the start
abbrev pub invariant-loop-span : goal.invariant-loop-span
invariant-loop-span g l = record {
  whole : IsWhole l.fn.self;
  changed : HasChanged (g.S.SpanSource.to_come l.fn.spans) (g.S.SpanSource.to_come l.spans) (g.C.PartChange.made l.change) l.count l.fn.self l.self;
  end : (end : _) → g.S.SpanSource.ends_as l.spans end → g.S.SpanSource.ends_as l.fn.spans end;
}

abbrev pub decreases-loop-span : goal.decreases-loop-span
decreases-loop-span g l = g.S.SpanSource.measure l.spans
