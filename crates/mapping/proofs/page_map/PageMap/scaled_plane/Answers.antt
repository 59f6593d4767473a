-- The point is the one of the units, or of the parts.
use Rattle.std.proofs.lemmas.Int.{to_z-of_z}
use Rattle.mapping.proofs.page_map.PageMap.scaled_plane.Goals as goal

pub returns-then-self-eq1-clause-point : goal.returns-then-self-eq1-clause-point
returns-then-self-eq1-clause-point c =
    let x_fits = c.ranges.x in
    let y_fits = c.ranges.y in
    simp to_z-of_z at c.plane_in_units.ensures.point

pub returns-then-self-eq1-clause-test : goal.returns-then-self-eq1-clause-test
returns-then-self-eq1-clause-test c =
    let x_fits = c.ranges.x in
    let y_fits = c.ranges.y in
    simp to_z-of_z at c.plane_in_units.ensures.test

pub returns-clause-point : goal.returns-clause-point
returns-clause-point c =
    let x_fits = c.ranges.x in
    let y_fits = c.ranges.y in
    simp to_z-of_z at c.plane_in_parts.ensures.point

pub returns-clause-test : goal.returns-clause-test
returns-clause-test c =
    let x_fits = c.ranges.x in
    let y_fits = c.ranges.y in
    simp to_z-of_z at c.plane_in_parts.ensures.test
