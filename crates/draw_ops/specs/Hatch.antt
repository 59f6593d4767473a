-- The codes of the hatches.
use Rattle.std.specs.Prelude.{ℕ, ◌==◌, [], ◌∷◌, Option, find}
use Rattle.draw_ops.specs.declared.hatch.Hatch.{Hatch}
use Rattle.draw_ops.specs.declared.hatch.Hatch.TheVariants.{Horizontal, Vertical, ForwardDiagonal, BackwardDiagonal, Cross, DiagonalCross}

-- a hatch's code
abbrev pub hatch_code : Hatch → ℕ
hatch_code Horizontal = 0
hatch_code Vertical = 1
hatch_code ForwardDiagonal = 2
hatch_code BackwardDiagonal = 3
hatch_code Cross = 4
hatch_code DiagonalCross = 5

-- the hatch with this code
abbrev pub hatch_of : ℕ → Option Hatch
hatch_of code = find (λ hatch. hatch_code hatch == code) (Horizontal ∷ Vertical ∷ ForwardDiagonal ∷ BackwardDiagonal ∷ Cross ∷ DiagonalCross ∷ [])
