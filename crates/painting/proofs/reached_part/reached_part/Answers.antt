-- A line more is reached.
use Rattle.std.proofs.Common.{◌≡◌, ◌||◌, true, List, pos, subst}
use Rattle.std.proofs.lemmas.Bool.{or_left, or_right}
use Rattle.mapping.specs.TestLaws.{by_either}
use Rattle.span_fill.specs.Spans.{in_region}
use Rattle.span_fill.specs.WideStrokes.{in_wide_stroke, on_wide_line}
use Rattle.span_fill.specs.declared.line.Line.{Line}
use Rattle.painting.proofs.reached_part.reached_part.Goals as goal

pub loop-line-preserved : goal.loop-line-preserved
loop-line-preserved g c =
    let there = c.loop-line.invariant in
    let rest = g.O.Outline.lines c.next_line.new.self in
    let join = c.joined-reached.ensures in
    record {
      within = join.within c.args.drawn there.within c.reached_by.ensures.within;
      all = λ x y inside covered.
          let so_far = subst (λ (lines : List Line). (in_region c.loop-line.reached x y || in_wide_stroke c.args.nib lines x y) ≡ true) c.in-Some.ensures.line (there.all x y inside covered) in
          by_either (in_region c.loop-line.reached x y) (on_wide_line c.args.nib c.in-Some.line (pos x) (pos y) || in_wide_stroke c.args.nib rest x y) so_far
          (λ (h : in_region c.loop-line.reached x y ≡ true). or_left (in_region c.joined-reached.result x y) (in_wide_stroke c.args.nib rest x y) (join.first x y h))
          (λ (h : (on_wide_line c.args.nib c.in-Some.line (pos x) (pos y) || in_wide_stroke c.args.nib rest x y) ≡ true).
          by_either (on_wide_line c.args.nib c.in-Some.line (pos x) (pos y)) (in_wide_stroke c.args.nib rest x y) h
          (λ (k : on_wide_line c.args.nib c.in-Some.line (pos x) (pos y) ≡ true). or_left (in_region c.joined-reached.result x y) (in_wide_stroke c.args.nib rest x y) (join.second x y (c.reached_by.ensures.all x y inside k)))
          (λ (k : in_wide_stroke c.args.nib rest x y ≡ true). or_right (in_region c.joined-reached.result x y) (in_wide_stroke c.args.nib rest x y) k));
    }
