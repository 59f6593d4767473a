use Rattle.std.proofs.Common.{arith}
use Rattle.std.proofs.lemmas.Int.{ints}
use Rattle.raster_ops.proofs.SourceLemmas.{near_place}
use Rattle.raster_ops.proofs.axes.distance.Goals as goal

pub overflow_sub-q : goal.overflow_sub-q
overflow_sub-q c =
    let p = near_place c.args.p c.requires.p in
    let q = near_place c.args.q c.requires.q in
    omega (arith, ints)

pub returns-clause-distance : goal.returns-clause-distance
returns-clause-distance c =
    let p = near_place c.args.p c.requires.p in
    let q = near_place c.args.q c.requires.q in
    omega (arith, ints, c.unsigned_abs.ensures.value)

pub returns-clause-short : goal.returns-clause-short
returns-clause-short c =
    let p = near_place c.args.p c.requires.p in
    let q = near_place c.args.q c.requires.q in
    omega (arith, ints, c.unsigned_abs.ensures.value)
