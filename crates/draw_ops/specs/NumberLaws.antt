-- How the steps of records are numbered.
use Rattle.std.specs.Prelude.{◌≡◌, ℕ, suc, List, [], ◌∷◌}
use Rattle.draw_ops.specs.Content.{Content, StepValue}
use Rattle.draw_ops.specs.Meaning.{Meaning}
use Rattle.draw_ops.specs.RecordContent.{IsContent}
use Rattle.draw_ops.specs.Records.{Framing}

-- the steps are numbered in order, from this number on
abbrev pub AreNumberedFrom : ℕ → List StepValue → Type 0
AreNumberedFrom number [] = Unit
AreNumberedFrom number (step ∷ steps) = (step.number ≡ number) × AreNumberedFrom (suc number) steps

-- The step of record i has number i; the first record is record 0.
abbrev pub StepsAreNumbered : Type 0
StepsAreNumbered = (f : Framing) (meaning : Meaning) (bytes : List ℕ) (content : Content) → IsContent f meaning bytes content → AreNumberedFrom 0 content.steps
