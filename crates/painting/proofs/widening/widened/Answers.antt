-- Each edge is moved by the reach of the nib.
use Rattle.std.proofs.Common.{FitsSigned, refl, rules, w32}
use Rattle.std.proofs.lemmas.Int.{to_z-of_z}
use Rattle.painting.proofs.widening.widened.Goals as goal

pub returns : goal.returns
returns c =
    let l : FitsSigned w32 c.args.inside.l = search rules in
    let t : FitsSigned w32 c.args.inside.t = search rules in
    let r : FitsSigned w32 c.args.inside.r = search rules in
    let b : FitsSigned w32 c.args.inside.b = search rules in
    let before_x : FitsSigned w32 c.reach_before.result = search rules in
    let before_y : FitsSigned w32 c.reach_before-2.result = search rules in
    let after_x : FitsSigned w32 c.reach_after.result = search rules in
    let after_y : FitsSigned w32 c.reach_after-2.result = search rules in
    let left_fits : FitsSigned w32 c.less.result = search rules in
    let top_fits : FitsSigned w32 c.less-2.result = search rules in
    let right_fits : FitsSigned w32 c.more.result = search rules in
    let bottom_fits : FitsSigned w32 c.more-2.result = search rules in
    let left = simp to_z-of_z at c.less.ensures in
    let top = simp to_z-of_z at c.less-2.ensures in
    let right = simp to_z-of_z at c.more.ensures in
    let bottom = simp to_z-of_z at c.more-2.ensures in
    simp to_z-of_z (rw (left, top, right, bottom, c.reach_before.ensures.reach, c.reach_before-2.ensures.reach, c.reach_after.ensures.reach, c.reach_after-2.ensures.reach) refl)
