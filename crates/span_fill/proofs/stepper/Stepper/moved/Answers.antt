-- Each number by itself, where the rest is carried and where it isn't.
use Rattle.std.proofs.Common.{arith}
use Rattle.std.proofs.lemmas.Int.{ints}
use Rattle.span_fill.proofs.stepper.Stepper.moved.Goals as goal

pub returns-then-is_carried : goal.returns-then-is_carried
returns-then-is_carried c =
    let carry = c.carry_of.ensures.carried c.if-is_carried.true in record {
      kept = λ h. absurd (omega (arith, ints, h));
      carried = λ h. (omega (arith, ints, carry), omega (arith, ints));
    }

pub returns-else-is_carried : goal.returns-else-is_carried
returns-else-is_carried c =
    let carry = c.carry_of.ensures.kept c.if-is_carried.false in record {
      kept = λ h. (omega (arith, ints, carry), omega (arith, ints));
      carried = λ h. absurd (omega (arith, ints, h));
    }
