-- What is covered lies between the ends, as far as the nib reaches.
use Rattle.std.proofs.Common.{rules, arith, FitsSigned}
use Rattle.std.specs.Int.{w32, w64}
use Rattle.std.proofs.lemmas.Bool.{and_from, and_parts}
use Rattle.std.proofs.lemmas.Int.{ints, to_z-of_z}
use Rattle.span_fill.specs.Spans.{in_span}
use Rattle.painting.proofs.ReachedPartLemmas.{reached_pixel}
use Rattle.painting.proofs.reached_part.reached_by.Goals as goal

pub returns-clause-all : goal.returns-clause-all
returns-clause-all c = λ x y inside covered.
    let line = c.args.line in
    let nib = c.args.nib in
    let from_x : FitsSigned w32 line.from.x = search rules in
    let from_y : FitsSigned w32 line.from.y = search rules in
    let to_x : FitsSigned w32 line.to.x = search rules in
    let to_y : FitsSigned w32 line.to.y = search rules in
    let one : FitsSigned w32 c.reach_before.result = search rules in
    let two : FitsSigned w32 c.reach_after.result = search rules in
    let three : FitsSigned w32 c.reach_before-2.result = search rules in
    let four : FitsSigned w32 c.reach_after-2.result = search rules in
    let left : FitsSigned w64 c.first_of-left.result = search rules in
    let right : FitsSigned w64 c.last_of-right.result = search rules in
    let top : FitsSigned w64 c.first_of-top.result = search rules in
    let bottom : FitsSigned w64 c.last_of-bottom.result = search rules in
    let x_before = c.reach_before.ensures.reach in
    let x_after = c.reach_after.ensures.reach in
    let y_before = c.reach_before-2.ensures.reach in
    let y_after = c.reach_after-2.ensures.reach in
    let a = simp to_z-of_z at c.first_of-left.ensures.one in
    let b = simp to_z-of_z at c.first_of-left.ensures.other in
    let d = simp to_z-of_z at c.last_of-right.ensures.one in
    let e = simp to_z-of_z at c.last_of-right.ensures.other in
    let f = simp to_z-of_z at c.first_of-top.ensures.one in
    let g = simp to_z-of_z at c.first_of-top.ensures.other in
    let h = simp to_z-of_z at c.last_of-bottom.ensures.one in
    let i = simp to_z-of_z at c.last_of-bottom.ensures.other in
    let there = reached_pixel c.wide_stroke_law.ensures line nib c.first_of-left.result c.last_of-right.result c.first_of-top.result c.last_of-bottom.result x y
    (omega (arith, ints, a, x_before)) (omega (arith, ints, b, x_before)) (omega (arith, ints, d, x_after)) (omega (arith, ints, e, x_after))
    (omega (arith, ints, f, y_before)) (omega (arith, ints, g, y_before)) (omega (arith, ints, h, y_after)) (omega (arith, ints, i, y_after)) covered in
    let parts = and_parts (in_span c.args.drawn.columns x) (in_span c.args.drawn.rows y) inside in
    let columns = simp to_z-of_z at (c.part_of_span-columns.ensures.all x) in
    let rows = simp to_z-of_z at (c.part_of_span-rows.ensures.all y) in
    and_from (in_span c.part_of_span-columns.result x) (in_span c.part_of_span-rows.result y) (columns parts.0 there.0.0 there.0.1) (rows parts.1 there.1.0 there.1.1)
