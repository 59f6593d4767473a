use Rattle.std.proofs.Common.{◌≡◌, ◌∙◌, sym, true, arith, rules, FitsSigned, to_z, of_z}
use Rattle.std.specs.Int.{w32}
use Rattle.std.proofs.lemmas.Int.{ints, to_z-of_z}
use Rattle.raster_ops.proofs.SourceLemmas.{inside_means, same_reading}
use Rattle.raster_ops.proofs.sources.AxisReading.new.Goals as goal

pub invariant_of-result : goal.invariant_of-result
invariant_of-result c =
    let first = c.ranges.first in
    let extent = c.ranges.extent in
    let e = simp to_z-of_z at c.is_axis_inside.ensures in
    let t : c.is_axis_inside.result ≡ true = grind arith in
    let there = inside_means c.args.first c.args.extent c.args.length (sym e ∙ t) in
    let count = c.unsigned_abs.ensures.value in
    record {
      some = omega (arith, ints, there, count);
      few = omega (arith, ints, there, count);
      short = c.distance.ensures.short;
    }

pub returns-clause-reading : goal.returns-clause-reading
returns-clause-reading c =
    let first = c.ranges.first in
    let extent = c.ranges.extent in
    let p = c.ranges.p in
    let q = c.ranges.q in
    let e = simp to_z-of_z at c.is_axis_inside.ensures in
    let t : c.is_axis_inside.result ≡ true = grind arith in
    let there = inside_means c.args.first c.args.extent c.args.length (sym e ∙ t) in
    let count = simp to_z-of_z at c.unsigned_abs.ensures.value in
    let least : FitsSigned w32 c.min.result = search rules in
    let kept : to_z w32 (of_z w32 c.min.result) ≡ c.min.result = simp to_z-of_z in
    let near = simp to_z-of_z at c.min.ensures.value in
    let side = simp to_z-of_z at c.distance.ensures.distance in
    let mirrored = simp to_z-of_z at c.is_mirrored.ensures in
    same_reading _ _ (omega (arith, ints, there)) count (kept ∙ near) side mirrored
