-- By the pixel's step.
use Rattle.std.proofs.Common.{rules, FitsSigned, ℕ, ◌<◌, ◌≤◌, ◌≤ℤ◌, arith, pos}
use Rattle.std.specs.Int.{w32}
use Rattle.std.specs.Prelude.{◌↔◌}
use Rattle.std.proofs.lemmas.Int.{to_z-of_z}
use Rattle.span_fill.specs.MajorLines.{length_of}
use Rattle.span_fill.proofs.ClipLemmas.{run_up_exact}
use Rattle.span_fill.proofs.clip.run_up.Goals as goal

exact : (c : goal.After-first_from) (k : ℕ) → k < length_of c.args.major → c.first_from.result ≤ k ↔ (c.distance.result ≤ℤ pos k)
exact c k h =
    let fits : FitsSigned w32 c.distance.result = search rules in
    let there = c.first_from.ensures.exact k (omega (arith, h, c.length.ensures.value)) in
    simp to_z-of_z at there

pub returns-clause-exact : goal.returns-clause-exact
returns-clause-exact c = λ u v on.
    let major = c.args.major in
    let fits : FitsSigned w32 c.args.major.from_u = search rules in
    let is = simp to_z-of_z at c.distance.ensures in
    run_up_exact major.from_u major.from_v major.to_u major.to_v u v (pos c.args.bound) c.distance.result c.first_from.result on c.requires.forwards is (exact c)
