-- With all bits set, each column is a cell.
use Rattle.std.proofs.Common.{◌≡◌, ◌∙◌, ◌%◌, ◌<◌, ℕ, zero, suc, true, eqb, refl, sym, arith}
use Rattle.std.specs.Int.{bit_at}
use Rattle.painting.proofs.row_op.cells_only.Goals as goal

all_set : (m : ℕ) → m < 8 → eqb (bit_at 255 m) 1 ≡ true
all_set zero h = refl
all_set (suc zero) h = refl
all_set (suc (suc zero)) h = refl
all_set (suc (suc (suc zero))) h = refl
all_set (suc (suc (suc (suc zero)))) h = refl
all_set (suc (suc (suc (suc (suc zero))))) h = refl
all_set (suc (suc (suc (suc (suc (suc zero)))))) h = refl
all_set (suc (suc (suc (suc (suc (suc (suc zero))))))) h = refl
all_set (suc (suc (suc (suc (suc (suc (suc (suc n)))))))) h = absurd (omega (arith, h))

pub returns-in-255-clause-test : goal.returns-in-255-clause-test
returns-in-255-clause-test c = λ x. c.full.ensures.test x ∙ rw c.in-255.is (sym (all_set (x % 8) (omega arith)))
