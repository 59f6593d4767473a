-- The ends are those of the line.
use Rattle.std.proofs.Common.{rules, FitsSigned, ◌≡◌, ◌≤ℤ◌, true, false, arith}
use Rattle.std.specs.Prelude.{int_le}
use Rattle.std.specs.Int.{w32}
use Rattle.std.proofs.lemmas.Int.{ints, to_z-of_z}
use Rattle.span_fill.proofs.HullLemmas.{rise_hull, fall_hull}
use Rattle.span_fill.proofs.bounds.hull.Goals as goal

pub returns-then-major-clause-within : goal.returns-then-major-clause-within
returns-then-major-clause-within c = λ u v on.
    let from : FitsSigned w32 c.args.major.from_v = search rules in
    let to : FitsSigned w32 c.args.major.to_v = search rules in
    let test : int_le c.args.major.from_v c.args.major.to_v ≡ true = simp to_z-of_z at c.if-major.true in
    let rises : c.args.major.from_v ≤ℤ c.args.major.to_v = grind (arith, ints, test) in
    let parts = rise_hull c.args.major.from_u c.args.major.from_v c.args.major.to_u c.args.major.to_v u v on rises in
    let low = parts.0 in
    let high = parts.1 in
    let to_low = c.requires.to_v.low in
    let to_high = c.requires.to_v.high in
    let from_low = c.requires.from_v.low in
    let from_high = c.requires.from_v.high in
    (omega (arith, ints, low, from_low, from_high), omega (arith, ints, high, to_low, to_high))

pub returns-else-major-clause-within : goal.returns-else-major-clause-within
returns-else-major-clause-within c = λ u v on.
    let from : FitsSigned w32 c.args.major.from_v = search rules in
    let to : FitsSigned w32 c.args.major.to_v = search rules in
    let test : int_le c.args.major.from_v c.args.major.to_v ≡ false = simp to_z-of_z at c.if-major.false in
    let falls : c.args.major.to_v ≤ℤ c.args.major.from_v = grind (arith, ints, test) in
    let parts = fall_hull c.args.major.from_u c.args.major.from_v c.args.major.to_u c.args.major.to_v u v on falls in
    let low = parts.0 in
    let high = parts.1 in
    let to_low = c.requires.to_v.low in
    let to_high = c.requires.to_v.high in
    let from_low = c.requires.from_v.low in
    let from_high = c.requires.from_v.high in
    (omega (arith, ints, low, to_low, to_high), omega (arith, ints, high, from_low, from_high))
