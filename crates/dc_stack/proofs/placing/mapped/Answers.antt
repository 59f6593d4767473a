-- The map's point is about the coordinates that it was passed.
use Rattle.std.proofs.Common.{FitsSigned, rules}
use Rattle.std.specs.Int.{w64}
use Rattle.std.proofs.lemmas.Int.{to_z-of_z}
use Rattle.dc_stack.proofs.placing.mapped.Goals as goal

pub returns-clause-point : goal.returns-clause-point
returns-clause-point c =
    let x_fits : FitsSigned w64 c.args.point.x = search rules in
    let y_fits : FitsSigned w64 c.args.point.y = search rules in
    simp to_z-of_z at c.plane.ensures.point

pub returns-clause-test : goal.returns-clause-test
returns-clause-test c =
    let x_fits : FitsSigned w64 c.args.point.x = search rules in
    let y_fits : FitsSigned w64 c.args.point.y = search rules in
    simp to_z-of_z at c.plane.ensures.test
