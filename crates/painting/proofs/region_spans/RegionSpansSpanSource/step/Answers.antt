use Rattle.std.proofs.Common.{arith}
use Rattle.std.proofs.lemmas.Bool.Decides.{nat_tests}
use Rattle.painting.proofs.region_spans.RegionSpansSpanSource.step.Goals as goal

pub returns-clause-span : goal.returns-clause-span
returns-clause-span c =
    let more = c.if-y-self.false in
    record {
      given = λ x y t. grind (arith, nat_tests, t, more);
      others = λ x y. grind (arith, nat_tests, more);
      less = omega (arith, more);
    }

pub returns-then-y-self-clause-span : goal.returns-then-y-self-clause-span
returns-then-y-self-clause-span c =
    let over = c.if-y-self.true in
    λ x y. grind (arith, nat_tests, over)
