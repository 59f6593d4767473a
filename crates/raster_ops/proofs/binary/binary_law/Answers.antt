use Rattle.std.proofs.Common.{◌≡◌, ℕ, zero, suc, ◌+◌, ◌-◌, ◌*◌, ◌/◌, ◌%◌, ◌^◌, ◌<◌, Bool, true, eqb, ap, refl, arith}
use Rattle.std.specs.Int.{bit_at}
use Rattle.std.proofs.lemmas.Bool.{agree_below, agree_below_at, eqb-true}
use Rattle.std.proofs.lemmas.Nat.Bits.{bit_at-lt}
use Rattle.draw_ops.specs.RasterOp.{raster_op_code}
use Rattle.draw_ops.specs.declared.raster_op.RasterOp.{RasterOp}
use Rattle.raster_ops.proofs.BitLemmas.{four, same_sum}
use Rattle.raster_ops.proofs.ColourLemmas.{same_parts}
use Rattle.raster_ops.specs.RasterOps.{binary_table, mixed_part}
use Rattle.raster_ops.specs.TernaryOps.{table_bit, ternary_bit, ternary_part}
use Rattle.raster_ops.proofs.binary.binary_law.Goals as goal

-- an operation's number, less 1
number_below : (op : RasterOp) → raster_op_code op - 1 < 16
number_below op = grind (arith)

-- the bit of a table of sixteen that two bits name is that of the ternary table
abbrev same_bit : ℕ → ℕ → ℕ → ℕ → Bool
same_bit s p o t = eqb (bit_at t (2 * p + o)) (table_bit (5 * (t % 4) + 80 * (t / 4)) p s o)

by_computing : (s p o t : ℕ) → agree_below (same_bit s p o) (λ n. true) 16 ≡ true → t < 16 → bit_at t (2 * p + o) ≡ table_bit (5 * (t % 4) + 80 * (t / 4)) p s o
by_computing s p o t all below = eqb-true _ _ (agree_below_at (same_bit s p o) (λ n. true) 16 t all below)

each_bit : (t s p o : ℕ) → t < 16 → s < 2 → p < 2 → o < 2 → bit_at t (2 * p + o) ≡ table_bit (5 * (t % 4) + 80 * (t / 4)) p s o
each_bit t zero p o below h k l =
    four (λ p o. bit_at t (2 * p + o) ≡ table_bit (5 * (t % 4) + 80 * (t / 4)) p 0 o) (by_computing 0 0 0 t refl below) (by_computing 0 0 1 t refl below) (by_computing 0 1 0 t refl below) (by_computing 0 1 1 t refl below) p o k l
each_bit t (suc zero) p o below h k l =
    four (λ p o. bit_at t (2 * p + o) ≡ table_bit (5 * (t % 4) + 80 * (t / 4)) p 1 o) (by_computing 1 0 0 t refl below) (by_computing 1 0 1 t refl below) (by_computing 1 1 0 t refl below) (by_computing 1 1 1 t refl below) p o k l
each_bit t (suc (suc s)) p o below h k l = absurd (omega arith)

same_part : (op : RasterOp) (paint source old : ℕ) → mixed_part (raster_op_code op - 1) paint old ≡ ternary_part (binary_table op) paint source old
same_part op paint source old =
    let t = raster_op_code op - 1 in
    same_sum (λ k. bit_at t (2 * bit_at paint k + bit_at old k) * 2 ^ k) (λ k. ternary_bit (binary_table op) paint source old k)
    (λ k h. ap (λ (b : ℕ). b * 2 ^ k) (each_bit t (bit_at source k) (bit_at paint k) (bit_at old k) (number_below op) (bit_at-lt source k) (bit_at-lt paint k) (bit_at-lt old k)))

pub returns-clause-same : goal.returns-clause-same
returns-clause-same c = λ op paint source old.
    same_parts _ _ (same_part op paint.r source.r old.r) (same_part op paint.g source.g old.g) (same_part op paint.b source.b old.b)
