-- The points so far, and one more.
use Rattle.std.proofs.Common.{◌≡◌, ℕ, zero, suc, List, [], ◌∷◌, ◌++◌, take, Some, ap}
use Rattle.std.specs.List.{slice_get}
use Rattle.mapping.specs.declared.geometry.Point.{Point}

pub taken_next : (points : List Point) (i : ℕ) (point : Point) → slice_get points i ≡ Some point → take (suc i) points ≡ take i points ++ point ∷ []
taken_next [] i point h = cc
taken_next (first ∷ points) zero point h = let same : first ≡ point = cc in ap (λ (p : Point). p ∷ []) same
taken_next (first ∷ points) (suc i) point h = ap (λ (rest : List Point). first ∷ rest) (taken_next points i point h)
