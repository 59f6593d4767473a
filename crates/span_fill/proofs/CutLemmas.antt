-- What remains of a mask after a cut.
use Rattle.std.proofs.Common.{◌≡◌, ℕ, ◌+◌, ◌≤◌, Bool, true, false, ◌&&◌, nat_eq, nat_le, nat_lt, not, arith, refl, ap, ◌∙◌}
use Rattle.std.proofs.lemmas.Bool.{and_right}
use Rattle.std.proofs.lemmas.Bool.Decides.{nat_tests}

and_yes : (t : Bool) → (t && true) ≡ t
and_yes true = refl
and_yes false = refl

next_row : (from y i : ℕ) → from ≤ y → (not (nat_le from i && nat_lt i y) && not (nat_eq i y)) ≡ not (nat_le from i && nat_lt i (y + 1))
next_row from y i h = grind (arith, nat_tests)

-- one row more is cut
pub row_more : (there column : Bool) (from y i : ℕ) → from ≤ y
    → ((there && not (column && (nat_le from i && nat_lt i y))) && not (nat_eq i y && column)) ≡ (there && not (column && (nat_le from i && nat_lt i (y + 1))))
row_more false column from y i h = refl
row_more true false from y i h = ap not (and_right (nat_eq i y) false refl)
row_more true true from y i h = ap (λ t. not (nat_le from i && nat_lt i y) && not t) (and_yes (nat_eq i y)) ∙ next_row from y i h
