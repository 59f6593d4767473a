use Rattle.std.proofs.Common.{refl}
use Rattle.painting.proofs.VisitingLemmas.{all_visited, none_visited, one_visited, still_countable, still_held}
use Rattle.painting.proofs.visiting.visit_lines.Goals as goal

pub loop-line-init : goal.loop-line-init
loop-line-init g c = none_visited c.writing_law.ensures c.args.mix (g.O.Outline.lines c.args.outline) c.args.visited.now.region c.args.canvas.now c.whole_law.ensures.whole c.args.visited.now refl c.requires.none

pub visit_line-requires-clause-held : goal.visit_line-requires-clause-held
visit_line-requires-clause-held g c =
    still_held c.writing_law.ensures c.args.mix (g.O.Outline.lines c.args.outline) c.args.visited.now.region c.args.canvas.now c.whole_law.ensures.whole (g.O.Outline.lines c.loop-line.lines) c.loop-line.visited c.loop-line.canvas c.loop-line.invariant c.requires.held

pub visit_line-requires-clause-countable : goal.visit_line-requires-clause-countable
visit_line-requires-clause-countable g c =
    still_countable c.writing_law.ensures c.args.mix (g.O.Outline.lines c.args.outline) c.args.visited.now.region c.args.canvas.now c.whole_law.ensures.whole (g.O.Outline.lines c.loop-line.lines) c.loop-line.visited c.loop-line.canvas c.loop-line.invariant c.whole_law.ensures.pixels c.requires.countable

pub loop-line-preserved : goal.loop-line-preserved
loop-line-preserved g c =
    one_visited c.writing_law.ensures c.args.mix (g.O.Outline.lines c.args.outline) c.args.visited.now.region c.args.canvas.now c.whole_law.ensures.whole (g.O.Outline.lines c.loop-line.lines) c.loop-line.visited c.loop-line.canvas c.loop-line.invariant
    (g.O.Outline.lines c.next_line.new.self) c.in-Some.line c.visit_line.new.visited c.visit_line.new.canvas c.in-Some.ensures.line c.visit_line.ensures

pub returns : goal.returns
returns g c =
    all_visited c.writing_law.ensures c.args.mix (g.O.Outline.lines c.args.outline) c.args.visited.now.region c.args.canvas.now c.whole_law.ensures.whole (g.O.Outline.lines c.loop-line.lines) c.loop-line.visited c.loop-line.canvas c.loop-line.invariant c.in_default.ensures.line.0
