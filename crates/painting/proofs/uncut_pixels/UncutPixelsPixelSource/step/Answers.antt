use Rattle.std.proofs.Common.{refl, sym, ◌∙◌}
use Rattle.dc_stack.specs.Clip.{in_boxes}
use Rattle.dc_stack.specs.Values.{placed_value}
use Rattle.painting.specs.LinePixels.{is_to_step}
use Rattle.painting.proofs.FilterLemmas.{gives_kept, none_kept, skips_other, still_kept}
use Rattle.painting.proofs.uncut_pixels.UncutPixelsPixelSource.step.Goals as goal

pub returns-then-has-clause-pixel : goal.returns-then-has-clause-pixel
returns-then-has-clause-pixel c =
    let has = in_boxes (placed_value c.args.self.now.clip.now) in
    gives_kept _ (is_to_step c.args.self.now.pixels.steps) (is_to_step c.step.new.self.steps) has has _ _ c.in-Pixel.pixel c.in-Pixel.ensures.pixel (λ a b. refl) (sym c.has.ensures ∙ c.if-has.true)

pub returns-else-has-clause-pixel : goal.returns-else-has-clause-pixel
returns-else-has-clause-pixel c =
    let has = in_boxes (placed_value c.args.self.now.clip.now) in
    record {
      same = skips_other _ (is_to_step c.args.self.now.pixels.steps) (is_to_step c.step.new.self.steps) has has _ _ c.in-Pixel.pixel c.in-Pixel.ensures.pixel (λ a b. refl) (sym c.has.ensures ∙ c.if-has.false);
      less = c.in-Pixel.ensures.pixel.less;
    }

pub returns-in-Nothing-clause-pixel : goal.returns-in-Nothing-clause-pixel
returns-in-Nothing-clause-pixel c = still_kept (is_to_step c.args.self.now.pixels.steps) (is_to_step c.step.new.self.steps) (in_boxes (placed_value c.args.self.now.clip.now)) _ _ c.in-Nothing.ensures.pixel

pub returns-in-End-clause-pixel : goal.returns-in-End-clause-pixel
returns-in-End-clause-pixel c = none_kept (is_to_step c.args.self.now.pixels.steps) (in_boxes (placed_value c.args.self.now.clip.now)) c.in-End.ensures.pixel
