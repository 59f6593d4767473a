-- The product is that of the course's numbers.
use Rattle.std.proofs.Common.{rules, FitsSigned, pos, ◌*ℤ◌, ap, ◌∙◌}
use Rattle.std.specs.Int.{w32, w64}
use Rattle.std.proofs.lemmas.Int.{to_z-of_z}
use Rattle.span_fill.specs.MajorLines.{length_of}
use Rattle.span_fill.proofs.clip.amount.Goals as goal

pub returns-clause-value : goal.returns-clause-value
returns-clause-value c =
    let odd_fits : FitsSigned w32 c.odd.result = search rules in
    let fits : FitsSigned w64 c.product.result = search rules in
    let there = simp to_z-of_z at c.product.ensures.value in
    let lengths = ap (λ n. pos n *ℤ c.odd.result) c.length.ensures.value in
    let odds = ap (λ n. pos (length_of c.args.major) *ℤ n) c.odd.ensures.value in
    simp to_z-of_z (there ∙ lengths ∙ odds)
