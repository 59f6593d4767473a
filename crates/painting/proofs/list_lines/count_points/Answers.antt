use Rattle.painting.proofs.CountLemmas.{few_points}
use Rattle.painting.proofs.list_lines.count_points.Goals as goal

pub returns-clause-few : goal.returns-clause-few
returns-clause-few c = rw c.len.ensures (few_points c.args.points.width c.args.points.bytes.now c.ranges.points.0)
