use Rattle.std.proofs.Common.{◌+◌, ◌*◌, ◌++◌, List, [], ◌∷◌, sym, refl, ap, ◌∙◌, arith}
use Rattle.std.proofs.lemmas.List.{take_more_set}
use Rattle.mapping.specs.declared.geometry.Colour.{Colour}
use Rattle.canvas.proofs.ReadingLemmas.{colours_more, sampled}
use Rattle.canvas.proofs.reading.read_colours.Goals as goal

pub loop-k-preserved : goal.loop-k-preserved
loop-k-preserved c =
    let k = c.loop-k.k in
    let s = c.args.samples.now in
    take_more_set c.loop-k.colours k (sampled s (3 * k)) (omega arith)
    ∙ ap (λ (t : List Colour). t ++ (sampled s (3 * k) ∷ [])) c.loop-k.invariant
    ∙ sym (colours_more k (k + 1) s refl)
