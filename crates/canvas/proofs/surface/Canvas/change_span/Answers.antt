use Rattle.canvas.proofs.EachLemmas.{empty_changed, lies_held}
use Rattle.canvas.proofs.surface.Canvas.change_span.Goals as goal

pub returns-then-span-clause-pixels : goal.returns-then-span-clause-pixels
returns-then-span-clause-pixels g c = empty_changed c.args.self.now c.args.span _ c.width.ensures.whole c.if-span.true

pub change_columns-requires-clause-width : goal.change_columns-requires-clause-width
change_columns-requires-clause-width g c = (lies_held c.args.self.now c.args.span c.if-span.false c.requires).width

pub change_columns-requires-clause-row : goal.change_columns-requires-clause-row
change_columns-requires-clause-row g c = (lies_held c.args.self.now c.args.span c.if-span.false c.requires).row
