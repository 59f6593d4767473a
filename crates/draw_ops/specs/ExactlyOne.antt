-- There is exactly one value of a kind.
use Rattle.std.specs.Prelude.{◌≡◌}

pub record ExactlyOne {A : Type 0} (P : A → Type 0) : Type 0 where
  pub value : A
  pub holds : P value
  pub only : (other : A) → P other → other ≡ value
