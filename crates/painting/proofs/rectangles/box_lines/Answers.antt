use Rattle.std.proofs.Common.{◌≡◌, ◌-ℤ◌, pos, w32, to_z, of_z, arith}
use Rattle.std.proofs.lemmas.Int.{ints}
use Rattle.std.proofs.lemmas.List.Elements.{All-same}
use Rattle.mapping.specs.Limits.{place_limit}
use Rattle.span_fill.specs.Lines.{HasNearEnds}
use Rattle.preflight_cert.specs.Rectangles.{rectangle_lines}
use Rattle.painting.proofs.RectangleLemmas.{lines_are, lines_near}
use Rattle.painting.proofs.rectangles.box_lines.Goals as goal

pub returns-clause-lines : goal.returns-clause-lines
unfolding place_limit
returns-clause-lines c =
    let inside = c.args.inside in
    let l : to_z w32 (of_z w32 inside.l) ≡ inside.l = omega (arith, ints) in
    let t : to_z w32 (of_z w32 inside.t) ≡ inside.t = omega (arith, ints) in
    let right = c.requires.near.right.low in
    let bottom = c.requires.near.bottom.low in
    let r : to_z w32 (of_z w32 (to_z w32 (of_z w32 inside.r) -ℤ pos 1)) ≡ inside.r -ℤ pos 1 = omega (arith, ints, right) in
    let b : to_z w32 (of_z w32 (to_z w32 (of_z w32 inside.b) -ℤ pos 1)) ≡ inside.b -ℤ pos 1 = omega (arith, ints, bottom) in
    lines_are inside c.requires.some c.line.result c.line-2.result c.line-3.result c.line-4.result
    (rw (l, t) at c.line.ensures.from) (rw (r, t) at c.line.ensures.to)
    (rw (r, t) at c.line-2.ensures.from) (rw (r, b) at c.line-2.ensures.to)
    (rw (r, b) at c.line-3.ensures.from) (rw (l, b) at c.line-3.ensures.to)
    (rw (l, b) at c.line-4.ensures.from) (rw (l, t) at c.line-4.ensures.to)

pub returns-clause-near : goal.returns-clause-near
returns-clause-near c = All-same HasNearEnds _ (rectangle_lines c.args.inside) (returns-clause-lines c) (lines_near c.args.inside c.requires.some c.requires.near)
