-- By the pixel's step.
use Rattle.std.proofs.Common.{rules, FitsSigned, ℕ, ◌<◌, ◌≤◌, ◌≤ℤ◌, ◌*ℤ◌, arith, pos}
use Rattle.std.specs.Int.{w64}
use Rattle.std.specs.Prelude.{◌↔◌}
use Rattle.std.proofs.lemmas.Int.{to_z-of_z}
use Rattle.span_fill.specs.MajorLines.{length_of}
use Rattle.span_fill.proofs.ClipLemmas.{rise_exact}
use Rattle.span_fill.proofs.clip.rise.Goals as goal

exact : (c : goal.After-first_reach) (k : ℕ) → k < length_of c.args.major → c.first_reach.result ≤ k ↔ (c.amount.result ≤ℤ (pos c.each.result *ℤ pos k))
exact c k h =
    let fits : FitsSigned w64 c.amount.result = search rules in
    let there = c.first_reach.ensures.exact k (omega (arith, h, c.length.ensures.value)) in
    simp to_z-of_z at there

pub returns-clause-exact : goal.returns-clause-exact
returns-clause-exact c = λ u v on.
    let major = c.args.major in
    rise_exact major.from_u major.from_v major.to_u major.to_v u v (pos c.args.bound) c.amount.result (pos c.each.result) c.first_reach.result on c.amount.ensures.value (c.each.ensures.rises c.requires.rises) (exact c)
