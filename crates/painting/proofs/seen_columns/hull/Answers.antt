use Rattle.std.proofs.Common.{arith}
use Rattle.painting.proofs.SeenColumnLemmas.{hull_of}
use Rattle.painting.proofs.TestLemmas.{column_from}
use Rattle.painting.proofs.seen_columns.hull.Goals as goal

pub returns-clause-all : goal.returns-clause-all
returns-clause-all c = λ x h.
    let k = c.in-Some-Some in
    let hull = hull_of c.args.spans.now k.first.now k.last.now c.requires.apart k.ensures.value k.ensures'.value in
    let at = hull.all x h in column_from k.first.now.from k.last.now.to x at.0 at.1

pub returns-clause-order : goal.returns-clause-order
returns-clause-order c =
    let k = c.in-Some-Some in
    let hull = hull_of c.args.spans.now k.first.now k.last.now c.requires.apart k.ensures.value k.ensures'.value in
    let order = hull.order in omega (arith, order)

pub returns-clause-end : goal.returns-clause-end
returns-clause-end c =
    let k = c.in-Some-Some in
    let hull = hull_of c.args.spans.now k.first.now k.last.now c.requires.apart k.ensures.value k.ensures'.value in hull.end
