use Rattle.std.proofs.Common.{ℕ, ℤ, arith}
use Rattle.std.proofs.lemmas.Int.{ints}
use Rattle.std.specs.Int.{int_max, int_min}
use Rattle.mapping.specs.Limits.{IsWithin}
use Rattle.painting.proofs.rectangles.between.Goals as goal

-- the minimum and maximum of two coordinates within a limit are within it
lesser_within : (limit : ℕ) (v w : ℤ) → IsWithin limit v → IsWithin limit w → IsWithin limit (int_min v w)
lesser_within limit v w a b =
    let v_low = a.low in let v_high = a.high in let w_low = b.low in let w_high = b.high in
    record { low = grind (arith, ints); high = grind (arith, ints) }

greater_within : (limit : ℕ) (v w : ℤ) → IsWithin limit v → IsWithin limit w → IsWithin limit (int_max v w)
greater_within limit v w a b =
    let v_low = a.low in let v_high = a.high in let w_low = b.low in let w_high = b.high in
    record { low = grind (arith, ints); high = grind (arith, ints) }

pub returns-clause-left : goal.returns-clause-left
returns-clause-left c = rw c.between.ensures (lesser_within _ _ _ c.requires.first.x c.requires.second.x)

pub returns-clause-top : goal.returns-clause-top
returns-clause-top c = rw c.between.ensures (lesser_within _ _ _ c.requires.first.y c.requires.second.y)

pub returns-clause-right : goal.returns-clause-right
returns-clause-right c = rw c.between.ensures (greater_within _ _ _ c.requires.first.x c.requires.second.x)

pub returns-clause-bottom : goal.returns-clause-bottom
returns-clause-bottom c = rw c.between.ensures (greater_within _ _ _ c.requires.first.y c.requires.second.y)
