-- Where the least box isn't empty, its corners tell.
use Rattle.std.proofs.Common.{arith, ◌≤ℤ◌, ◌∙◌}
use Rattle.std.proofs.lemmas.Int.{ints}
use Rattle.preflight_cert.proofs.CoverLemmas.{corners_cover}
use Rattle.preflight_cert.proofs.covering.covers.Goals as goal

pub returns : goal.returns
returns c points is =
    let before = c.if-least.false in
    let order : c.args.least.l ≤ℤ c.args.least.r = grind (arith, ints) in
    c.contains.ensures ∙ corners_cover c.args.bounds c.args.least points order is
