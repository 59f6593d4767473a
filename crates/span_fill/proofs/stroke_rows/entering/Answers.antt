-- The next one begins, or none does.
use Rattle.std.proofs.Common.{◌∙◌, ◌<◌, pos, length, sym, arith}
use Rattle.std.proofs.lemmas.Int.{ints}
use Rattle.mapping.specs.TestLaws.{int_le-false, int_le-true}
use Rattle.span_fill.proofs.StrokeLemmas.{all_after, begins_here}
use Rattle.span_fill.proofs.stroke_rows.entering.Goals as goal

pub returns-then-begins_by : goal.returns-then-begins_by
returns-then-begins_by c =
    let within : c.args.next < length c.args.waiting.now = omega arith in
    begins_here c.args.nib c.args.waiting.now c.args.next (pos c.args.row) (pos 8192) _ within (int_le-true _ _ (sym c.begins_by.ensures ∙ c.if-begins_by.true)) c.requires.waiting

pub returns-else-begins_by : goal.returns-else-begins_by
returns-else-begins_by c =
    let within : c.args.next < length c.args.waiting.now = omega arith in
    all_after c.args.nib c.args.waiting.now c.args.next (pos c.args.row) (pos 8192) _ (omega (arith, ints)) within (int_le-false _ _ (sym c.begins_by.ensures ∙ c.if-begins_by.false)) c.requires.sorted c.requires.waiting
