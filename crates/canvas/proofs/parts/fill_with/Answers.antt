-- The first colours are filled, and the rest is like them.
use Rattle.std.proofs.Common.{arith, ◌∙◌}
use Rattle.std.proofs.Math.ListN.{drop, get_or-append}
use Rattle.std.proofs.lemmas.List.{length-append, length-drop, length-take-le}
use Rattle.canvas.proofs.parts.fill_with.Goals as goal

pub returns : goal.returns
returns c = λ k any below.
    let first = c.min-first.result in
    let part = c.args.part.now in
    let new = c.fill_by_eights.new.part in
    let least = c.min-first.ensures in
    let taken = length-take-le first part (omega (arith, least)) in
    let filled = c.fill_by_eights.auto.part ∙ taken in
    c.repeat_first.ensures c.args.splat.now.colour
    (λ k any near. get_or-append new (drop first part) any k (omega (arith, near, filled)) ∙ c.fill_by_eights.ensures k any (omega (arith, near, taken)))
    k any (omega (arith, below, length-append new (drop first part), length-drop first part, filled, least))
