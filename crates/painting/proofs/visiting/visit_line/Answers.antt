use Rattle.std.proofs.Common.{◌&&◌, ◌||◌, Bool, not, refl, rules, subst, ap, sym, ◌∙◌}
use Rattle.std.proofs.lemmas.Bool.{and_parts}
use Rattle.mapping.specs.Mixes.{mixed_by}
use Rattle.painting.specs.LinePixels.{is_to_step, is_visible}
use Rattle.painting.specs.Visiting.{VisitsLine}
use Rattle.painting.specs.VisitedMask.{VisitedMaskState, is_taken}
use Rattle.painting.proofs.LinePixelLemmas.{none_to_step, to_step_inside}
use Rattle.painting.proofs.LineStepLemmas.{steps_visible}
use Rattle.painting.proofs.VisitingLemmas.{nothing_visited, point_visited}
use Rattle.painting.proofs.VisibleLemmas.{region_pixel}
use Rattle.painting.proofs.visiting.visit_line.Goals as goal

pub returns-then-is_point : goal.returns-then-is_point
returns-then-is_point c =
    point_visited c.writing_law.ensures c.line_law.ensures c.args.line c.args.mix c.args.visited.now c.args.canvas.now c.whole_law.ensures.whole (c.is_point.ensures.x c.if-is_point.true) (c.is_point.ensures.y c.if-is_point.true)

pub returns-then-is_empty : goal.returns-then-is_empty
returns-then-is_empty c =
    let steps = steps_visible c.steps-steps.result c.args.line c.args.visited.now.region c.steps-steps.ensures.line c.steps-steps.ensures.region c.steps-steps.ensures.all in
    let over = c.is_empty.ensures.0 c.if-is_empty.true in
    nothing_visited c.writing_law.ensures c.args.line c.args.mix c.args.visited.now c.args.canvas.now c.whole_law.ensures.whole (λ x y. sym (steps x y) ∙ none_to_step c.steps-steps.result over x y)

pub invariant_of-mix_each : goal.invariant_of-mix_each
invariant_of-mix_each c = record { boxed = λ x y h. rw c.steps-steps.ensures.region at (to_step_inside c.steps-steps.result x y h) }

pub mix_each-requires-clause-held : goal.mix_each-requires-clause-held
mix_each-requires-clause-held c = λ x y h.
    let there = (and_parts (is_to_step c.steps-steps.result x y) (not (is_taken c.args.visited.now x y)) h).0 in
    region_pixel c.args.canvas.now c.args.visited.now.region c.requires.held x y (rw c.steps-steps.ensures.region at (to_step_inside c.steps-steps.result x y there))

pub returns : goal.returns
returns c =
    let visited = c.args.visited.now in
    let visible = is_visible visited.region c.args.line in
    let steps = steps_visible c.steps-steps.result c.args.line visited.region c.steps-steps.ensures.line c.steps-steps.ensures.region c.steps-steps.ensures.all in
    let end = c.mix_each.ensures.end in
    subst (λ (left : VisitedMaskState). VisitsLine c.args.line c.args.mix visited left c.args.canvas.now c.mix_each.new.self)
    (search (end.same, rules))
    (record {
      region = end.region;
      taken = λ x y. end.taken x y ∙ ap (λ (b : Bool). is_taken visited x y || b) (steps x y);
      written =
          c.writing_law.ensures.same (λ x y. is_to_step c.steps-steps.result x y && not (is_taken visited x y)) (λ x y. visible x y && not (is_taken visited x y)) (λ x y old. mixed_by c.args.mix old) (λ x y old. mixed_by c.args.mix old) c.args.canvas.now c.mix_each.new.self c.whole_law.ensures.whole
          (λ x y held. ap (λ (b : Bool). b && not (is_taken visited x y)) (steps x y))
          (λ x y old held t. refl)
          c.mix_each.ensures.pixels;
    })
