use Rattle.std.proofs.Common.{not, sym, ◌∙◌}
use Rattle.span_fill.specs.Spans.{in_region}
use Rattle.painting.specs.LinePixels.{is_to_step}
use Rattle.painting.specs.VisitedMask.{is_taken}
use Rattle.painting.proofs.FilterLemmas.{gives_kept, none_kept, skips_other, still_kept}
use Rattle.painting.proofs.TakenLemmas.{still_all, still_boxed, taken_outside}
use Rattle.painting.proofs.untaken_pixels.UntakenPixelsPixelSource.step.Goals as goal

pub take-requires : goal.take-requires
take-requires c = c.args.self.now.boxed c.in-Pixel.pixel.x c.in-Pixel.pixel.y c.in-Pixel.ensures.pixel.given

pub invariant_of-self : goal.invariant_of-self
invariant_of-self c = record {
  boxed = λ x y h. rw c.take.ensures.region
      (still_boxed _ (is_to_step c.args.self.now.pixels.steps) (is_to_step c.step.new.self.steps) (is_taken c.args.self.now.visited.now) (is_taken c.take.new.self) _ _ c.in-Pixel.pixel c.in-Pixel.ensures.pixel c.take.ensures.taken
      (in_region c.args.self.now.visited.now.region) c.args.self.now.boxed x y h);
}

pub returns-then-take-clause-pixel : goal.returns-then-take-clause-pixel
returns-then-take-clause-pixel c =
    let old = is_to_step c.args.self.now.pixels.steps in
    let now = is_to_step c.step.new.self.steps in
    let taken = is_taken c.args.self.now.visited.now in
    let later = is_taken c.take.new.self in
    let given = c.in-Pixel.ensures.pixel in
    gives_kept _ old now (λ x y. not (taken x y)) (λ x y. not (later x y)) _ _ c.in-Pixel.pixel given
    (taken_outside _ old now taken later _ _ c.in-Pixel.pixel given c.take.ensures.taken)
    (sym c.take.ensures.first ∙ c.if-take.true)

pub returns-then-take-clause-end : goal.returns-then-take-clause-end
returns-then-take-clause-end c = λ end ends. record {
  same = ends.same;
  region = ends.region ∙ c.take.ensures.region;
  taken = λ x y. ends.taken x y ∙ still_all _ (is_to_step c.args.self.now.pixels.steps) (is_to_step c.step.new.self.steps) (is_taken c.args.self.now.visited.now) (is_taken c.take.new.self) _ _ c.in-Pixel.pixel c.in-Pixel.ensures.pixel c.take.ensures.taken x y;
}

pub returns-else-take-clause-end : goal.returns-else-take-clause-end
returns-else-take-clause-end c = λ end ends. record {
  same = ends.same;
  region = ends.region ∙ c.take.ensures.region;
  taken = λ x y. ends.taken x y ∙ still_all _ (is_to_step c.args.self.now.pixels.steps) (is_to_step c.step.new.self.steps) (is_taken c.args.self.now.visited.now) (is_taken c.take.new.self) _ _ c.in-Pixel.pixel c.in-Pixel.ensures.pixel c.take.ensures.taken x y;
}

pub returns-else-take-clause-pixel : goal.returns-else-take-clause-pixel
returns-else-take-clause-pixel c =
    let old = is_to_step c.args.self.now.pixels.steps in
    let now = is_to_step c.step.new.self.steps in
    let taken = is_taken c.args.self.now.visited.now in
    let later = is_taken c.take.new.self in
    let given = c.in-Pixel.ensures.pixel in
    record {
      same = skips_other _ old now (λ a b. not (taken a b)) (λ a b. not (later a b)) _ _ c.in-Pixel.pixel given
          (taken_outside _ old now taken later _ _ c.in-Pixel.pixel given c.take.ensures.taken)
          (sym c.take.ensures.first ∙ c.if-take.false);
      less = given.less;
    }

pub returns-in-Nothing-clause-pixel : goal.returns-in-Nothing-clause-pixel
returns-in-Nothing-clause-pixel c = still_kept (is_to_step c.args.self.now.pixels.steps) (is_to_step c.step.new.self.steps) (λ x y. not (is_taken c.args.self.now.visited.now x y)) _ _ c.in-Nothing.ensures.pixel

pub returns-in-End-clause-pixel : goal.returns-in-End-clause-pixel
returns-in-End-clause-pixel c = none_kept (is_to_step c.args.self.now.pixels.steps) (λ x y. not (is_taken c.args.self.now.visited.now x y)) c.in-End.ensures.pixel
