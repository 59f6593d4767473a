-- Leading zeros and leading empty lists, skipped.
use Rattle.std.specs.Prelude.{ℕ, zero, suc, List, [], ◌∷◌}

-- the numbers from the first non-zero one on
abbrev pub after_zeros : List ℕ → List ℕ
after_zeros [] = []
after_zeros (zero ∷ numbers) = after_zeros numbers
after_zeros (suc n ∷ numbers) = suc n ∷ numbers

-- the lists from the first non-empty one on
abbrev pub after_empty : {A : Type 0} → List (List A) → List (List A)
after_empty [] = []
after_empty ([] ∷ lists) = after_empty lists
after_empty ((item ∷ list) ∷ lists) = (item ∷ list) ∷ lists
