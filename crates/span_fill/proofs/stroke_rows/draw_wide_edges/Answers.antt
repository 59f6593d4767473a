-- One strip more is drawn, and goes one row on.
use Rattle.std.proofs.Common.{◌<◌, ◌||◌, length, pos, take, false, refl, ap, subst, sym, ◌+◌, ◌∙◌, arith}
use Rattle.std.proofs.Math.ListN.{set}
use Rattle.std.proofs.lemmas.List.{take_all}
use Rattle.std.proofs.lemmas.List.Elements.{All-same}
use Rattle.span_fill.specs.Spans.{in_spans}
use Rattle.span_fill.specs.StrokeRows.{IsActive, IsPassed}
use Rattle.span_fill.specs.WideStrokes.{on_wide_line}
use Rattle.span_fill.specs.declared.wide_edge.WideEdge.{WideEdge}
use Rattle.span_fill.proofs.StrokeLemmas.{lines_still, parts_more, passed_more, still_first}
use Rattle.span_fill.proofs.stroke_rows.draw_wide_edges.Goals as goal

-- a strip where there is none
abbrev none : WideEdge
none = record {
  line = record { from = record { x = pos 0; y = pos 0 }; to = record { x = pos 0; y = pos 0 } };
  first = record { column = pos 0; rest = pos 0 };
  last = record { column = pos 0; rest = pos 0 };
  step = record { divisor = pos 0; across = pos 0; more = pos 0 };
  columns = record { from = pos 0; to = pos 0 };
  rows = record { from = pos 0; to = pos 0 };
  seen = record { from = pos 0; to = pos 0 };
  y_major = false;
}

pub draw_wide_edge-requires-clause-active : goal.draw_wide_edge-requires-clause-active
draw_wide_edge-requires-clause-active c =
    let at = c.loop-edge.edge-index in
    let within : at < length c.args.active.now = omega arith in
    let same = still_first at none c.args.active.now c.loop-edge.active within (omega arith) c.loop-edge.invariant.others in
    subst (IsActive c.args.nib (pos c.args.row) (pos 8192)) (sym same) (c.requires.active at none within)

pub loop-edge-preserved : goal.loop-edge-preserved
loop-edge-preserved c =
    let at = c.loop-edge.edge-index in
    let within : at < length c.args.active.now = omega arith in
    let there = c.loop-edge.invariant in
    let same = still_first at none c.args.active.now c.loop-edge.active within (omega arith) there.others in
    let next = c.draw_wide_edge.new.edge in
    let after = set c.loop-edge.active at next in
    let more = passed_more c.args.nib (pos (c.args.row + 1)) (pos 8192) at none c.args.active.now c.loop-edge.active after next within c.loop-edge.auto.active there.passed there.others refl c.draw_wide_edge.ensures.passed in
    record {
      parts = λ x h.
          parts_more c.args.nib c.args.active.now at none c.loop-edge.parts.items c.draw_wide_edge.new.parts.items c.args.row x within
          (c.draw_wide_edge.ensures.parts x h ∙ ap (λ (s : WideEdge). in_spans c.loop-edge.parts.items x || on_wide_line c.args.nib s.line (pos x) (pos c.args.row)) same) (there.parts x h);
      passed = more.0;
      others = more.1;
      lines = lines_still at none c.loop-edge.active next (omega arith) c.draw_wide_edge.ensures.line ∙ there.lines;
      parts_length = omega arith;
      parts_capacity = omega arith;
    }

pub returns-clause-passed : goal.returns-clause-passed
returns-clause-passed c =
    All-same (IsPassed c.args.nib (pos (c.args.row + 1)) (pos 8192)) c.loop-edge.active (take c.loop-edge.edge-index c.loop-edge.active)
    (sym (take_all c.loop-edge.edge-index c.loop-edge.active (omega arith))) c.loop-edge.invariant.passed
