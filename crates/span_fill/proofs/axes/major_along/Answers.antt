-- The ends of the course are those of the line, and the steep axis is the longer one.
use Rattle.span_fill.proofs.MajorLineLemmas.{major_near}
use Rattle.span_fill.proofs.axes.major_along.Goals as goal

pub returns-then-y_major-clause-major : goal.returns-then-y_major-clause-major
returns-then-y_major-clause-major c = major_near c.args.line c.args.y_major c.requires.near c.requires.axis

pub returns-else-y_major-clause-major : goal.returns-else-y_major-clause-major
returns-else-y_major-clause-major c = major_near c.args.line c.args.y_major c.requires.near c.requires.axis
