-- The point is the one that is moved alone, or that of any map.
use Rattle.std.proofs.Common.{◌≡◌, rules, FitsSigned}
use Rattle.std.specs.Int.{w32}
use Rattle.std.proofs.lemmas.Int.{to_z-of_z}
use Rattle.mapping.proofs.page_map.PageMap.plane.Goals as goal

pub returns-in-Ok-try_from-clause-point : goal.returns-in-Ok-try_from-clause-point
returns-in-Ok-try_from-clause-point c =
    let x_fits = c.ranges.x in
    let y_fits = c.ranges.y in
    let near_x_fits : FitsSigned w32 c.in-Ok.x = search rules in
    let near_y_fits : FitsSigned w32 c.in-Ok-try_from.y = search rules in
    let x : c.in-Ok.x ≡ c.args.x = simp to_z-of_z at (c.in-Ok.ensures.1) in
    let y : c.in-Ok-try_from.y ≡ c.args.y = simp to_z-of_z at (c.in-Ok-try_from.ensures.1) in
    rw (x, y) at (simp to_z-of_z at c.moved_plane.ensures.point)

pub returns-in-Ok-try_from-clause-test : goal.returns-in-Ok-try_from-clause-test
returns-in-Ok-try_from-clause-test c =
    let x_fits = c.ranges.x in
    let y_fits = c.ranges.y in
    let near_x_fits : FitsSigned w32 c.in-Ok.x = search rules in
    let near_y_fits : FitsSigned w32 c.in-Ok-try_from.y = search rules in
    let x : c.in-Ok.x ≡ c.args.x = simp to_z-of_z at (c.in-Ok.ensures.1) in
    let y : c.in-Ok-try_from.y ≡ c.args.y = simp to_z-of_z at (c.in-Ok-try_from.ensures.1) in
    rw (x, y) at (simp to_z-of_z at c.moved_plane.ensures.test)

pub returns-clause-point : goal.returns-clause-point
returns-clause-point c =
    let x_fits = c.ranges.x in
    let y_fits = c.ranges.y in
    simp to_z-of_z at c.scaled_plane.ensures.point

pub returns-clause-test : goal.returns-clause-test
returns-clause-test c =
    let x_fits = c.ranges.x in
    let y_fits = c.ranges.y in
    simp to_z-of_z at c.scaled_plane.ensures.test
