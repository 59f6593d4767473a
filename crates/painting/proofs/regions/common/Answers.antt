use Rattle.std.proofs.Common.{◌≡◌, arith, to_z, of_z, w32, w64}
use Rattle.std.proofs.lemmas.Int.{ints}
use Rattle.painting.proofs.regions.common.Goals as goal

pub returns-clause-has_columns : goal.returns-clause-has_columns
returns-clause-has_columns c =
    let l : to_z w64 (of_z w64 (to_z w32 (of_z w32 c.args.inside.l))) ≡ c.args.inside.l = omega (arith, ints) in
    let r : to_z w64 (of_z w64 (to_z w32 (of_z w32 c.args.inside.r))) ≡ c.args.inside.r = omega (arith, ints) in
    λ n. rw (c.from.ensures, c.from-2.ensures, l, r) at c.between.ensures.numbers n

pub returns-clause-has_rows : goal.returns-clause-has_rows
returns-clause-has_rows c =
    let t : to_z w64 (of_z w64 (to_z w32 (of_z w32 c.args.inside.t))) ≡ c.args.inside.t = omega (arith, ints) in
    let b : to_z w64 (of_z w64 (to_z w32 (of_z w32 c.args.inside.b))) ≡ c.args.inside.b = omega (arith, ints) in
    λ n. rw (c.from-3.ensures, c.from-4.ensures, t, b) at c.between-2.ensures.numbers n
