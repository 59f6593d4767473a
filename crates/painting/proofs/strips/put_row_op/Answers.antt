use Rattle.std.proofs.Common.{[]}
use Rattle.painting.proofs.TestLemmas.{is_column}
use Rattle.painting.proofs.StripLemmas.{nothing_painted}
use Rattle.painting.proofs.strips.put_row_op.Goals as goal

pub returns-in-Nothing-clause-pixels : goal.returns-in-Nothing-clause-pixels
returns-in-Nothing-clause-pixels c = nothing_painted c.writing_law.ensures c.args.row_op.now [] c.args.y (is_column c.args.columns.from c.args.columns.to) c.args.canvas.now c.requires.whole c.in-Nothing.is
