use Rattle.std.proofs.Common.{◌≡◌, ◌++◌, List, ℕ, ap, arith, sym, take, ◌∙◌}
use Rattle.std.proofs.lemmas.List.{take_all}
use Rattle.canvas.proofs.PieceLemmas.{cut_at}
use Rattle.canvas.proofs.ppm.put_pixels.Goals as goal

pub loop-done-preserved : goal.loop-done-preserved
loop-done-preserved c =
    let done = c.loop-done.done in
    let colours = c.args.colours.now in
    let samples = c.put_few.new.buffer in
    let bytes = take c.loop-done.end c.loop-done.buffer in
    let before = c.loop-done.invariant.end in
    let capacity = c.put_few.auto.buffer in
    let whole : take c.put_few.result samples ≡ samples = take_all c.put_few.result samples (omega (arith, c.put_few.ensures.end, capacity)) in
    let piece = c.put_text-end.ensures.text ∙ ap (λ (made : List ℕ). bytes ++ made) (sym whole ∙ c.put_few.ensures.text) in
    record {
      within = omega arith;
      end = omega (arith, c.put_text-end.ensures.end, before, capacity);
      text = sym (cut_at bytes (take c.put_text-end.result c.put_text-end.new.buffer) done 16 colours piece) ∙ c.loop-done.invariant.text;
    }
