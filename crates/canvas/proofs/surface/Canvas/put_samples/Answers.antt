use Rattle.std.proofs.Common.{◌+◌, ◌-◌, ◌≡◌, ◌++◌, List, ap, arith, drop, length, refl, sym, take, ℕ, ◌∙◌}
use Rattle.std.proofs.lemmas.List.{append_assoc}
use Rattle.canvas.specs.Ppm.{raster}
use Rattle.canvas.proofs.PieceLemmas.{more_samples}
use Rattle.canvas.proofs.surface.Canvas.put_samples.Goals as goal

pub loop-done-preserved : goal.loop-done-preserved
loop-done-preserved c =
    let low = c.loop-done.invariant.low in
    let most = c.part_of_row-part.ensures.most in
    let end = c.put_pixels-end.ensures.end in
    let colours = c.args.self.now.colours in
    let part = c.part_of_row-part.result.now in
    let prefix = take c.args.at c.args.buffer.now in
    let before = raster (take (c.loop-done.done - c.args.from) (drop c.args.from colours)) in
    let here : raster part ≡ raster (take (length part) (drop c.loop-done.done colours)) = ap raster c.part_of_row-part.ensures.part in
    record {
      low = omega arith;
      high = omega arith;
      end = omega (arith, end);
      text = c.put_pixels-end.ensures.text
          ∙ ap (λ (bytes : List ℕ). bytes ++ raster part) c.loop-done.invariant.text
          ∙ append_assoc prefix before (raster part)
          ∙ ap (λ (bytes : List ℕ). prefix ++ (before ++ bytes)) here
          ∙ ap (λ (bytes : List ℕ). prefix ++ bytes) (sym (more_samples c.args.from c.loop-done.done (length part) (c.loop-done.done + length part) colours low refl));
    }
