-- A product by the reciprocal comes near, and what is left of the number says how near.
use Rattle.std.proofs.Common.{◌<◌, ◌≤◌, ◌+◌, ◌-◌, ◌*◌, ◌^◌, sym, arith}
use Rattle.mapping.proofs.DivisorLemmas.{IsReciprocal, near_high, near_low, quotient_is, reciprocal_of}
use Rattle.mapping.proofs.divisor.Divisor.quotient.Goals as goal

is_reciprocal : (c : goal.After-high_product-near) → IsReciprocal (2 ^ 64) c.args.self.reciprocal c.args.self.number
is_reciprocal c = rw c.args.self.exact (reciprocal_of (2 ^ 64) c.args.self.number (omega arith) c.args.self.above_zero)

low : (c : goal.After-high_product-near) → c.high_product-near.result * c.args.self.number ≤ c.args.dividend
low c = rw c.high_product-near.ensures (near_low (2 ^ 64) c.args.dividend c.args.self.reciprocal c.args.self.number (omega arith) (is_reciprocal c))

high : (c : goal.After-high_product-near) → c.args.dividend < (c.high_product-near.result + 2) * c.args.self.number
high c =
    let fits : c.args.dividend < 2 ^ 64 = c.ranges.dividend.fits in
    rw c.high_product-near.ensures (near_high (2 ^ 64) c.args.dividend c.args.self.reciprocal c.args.self.number fits c.args.self.above_zero (is_reciprocal c))

pub overflow_sub-rest : goal.overflow_sub-rest
overflow_sub-rest c = rw c.from-number.ensures (low c)

pub returns-then-rest-number : goal.returns-then-rest-number
returns-then-rest-number c =
    quotient_is c.args.dividend c.args.self.number c.high_product-near.result (low c.before) (rw (sym c.from-number.ensures) c.if-rest-number.true)

pub returns-else-rest-number : goal.returns-else-rest-number
returns-else-rest-number c =
    let more : c.args.self.number ≤ c.args.dividend - c.high_product-near.result * c.args.self.number = rw (sym c.from-number.ensures) c.if-rest-number.false in
    let under = low c.before in
    let over = high c.before in
    quotient_is c.args.dividend c.args.self.number (c.high_product-near.result + 1) (omega (arith, more, under, c.args.self.above_zero)) (omega (arith, more, under, over))
