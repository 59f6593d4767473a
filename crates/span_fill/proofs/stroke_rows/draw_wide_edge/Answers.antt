-- The strip's columns are what the nib covers, and the strip goes one row on.
use Rattle.std.proofs.Common.{rules, FitsSigned, pos, ◌||◌, ap, ◌∙◌, arith}
use Rattle.std.specs.Int.{w64}
use Rattle.std.proofs.lemmas.Int.{ints, to_z-of_z}
use Rattle.span_fill.specs.Spans.{in_spans}
use Rattle.span_fill.proofs.WideEdgeSeen.{active_passed, reaches_next}
use Rattle.span_fill.proofs.StrokeLemmas.{in_spans_more, part_test}
use Rattle.span_fill.proofs.stroke_rows.draw_wide_edge.Goals as goal

pub returns-clause-parts : goal.returns-clause-parts
returns-clause-parts c = λ x h.
    ap (λ l. in_spans l x) c.push_reserved.ensures.items
    ∙ in_spans_more c.args.parts.now.items c.part.result x
    ∙ ap (λ t. in_spans c.args.parts.now.items x || t) (part_test c.args.nib (pos c.args.row) (pos 8192) c.args.edge.now c.part.result x c.requires.nib c.requires.active (c.part.ensures.exact x (omega arith, h)))

pub returns-clause-passed : goal.returns-clause-passed
returns-clause-passed c =
    let from : FitsSigned w64 c.from.result = search rules in
    let moved = simp to_z-of_z at c.move_on.ensures.at in
    let at = rw c.from.ensures at moved in
    let small = c.requires.row in
    active_passed c.args.nib (pos c.args.row) (pos 8192) c.args.edge.now c.move_on.new.self c.requires.active c.move_on.ensures.line c.move_on.ensures.rows c.move_on.ensures.seen
    (λ more. at c.requires.active.at (record { low = omega (arith, ints); high = omega (arith, ints, small) }) (reaches_next c.args.nib (pos c.args.row) (pos 8192) c.args.edge.now c.requires.active more))
