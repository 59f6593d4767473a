-- A few points.
use Rattle.std.specs.Prelude.{List, [], ◌∷◌}
use Rattle.mapping.specs.declared.geometry.Point.{Point}
use Rattle.painting.specs.declared.moves.FewPoints.{FewPoints}
use Rattle.painting.specs.declared.moves.FewPoints.TheVariants.{Zero, One, Two, Three, Four}

-- the points, in order
abbrev pub few_points : FewPoints → List Point
few_points Zero = []
few_points (One a) = a ∷ []
few_points (Two a b) = a ∷ b ∷ []
few_points (Three a b c) = a ∷ b ∷ c ∷ []
few_points (Four a b c d) = a ∷ b ∷ c ∷ d ∷ []
