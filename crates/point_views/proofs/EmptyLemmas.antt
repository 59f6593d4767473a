-- The lists behind empty ones are those that the counts behind zeros cut.
use Rattle.std.proofs.Common.{◌≡◌, ℕ, zero, suc, ◌+◌, List, [], ◌∷◌, length, sum, refl, sym, ◌∙◌, arith}
use Rattle.std.proofs.lemmas.List.Sums.{sum_by-cons}
use Rattle.point_views.specs.PassedOver.{after_empty, after_zeros}
use Rattle.point_views.specs.Split.{split_by}

-- zeros add nothing
pub sum-after_zeros : (counts : List ℕ) → sum (after_zeros counts) ≡ sum counts
sum-after_zeros [] = refl
sum-after_zeros (zero ∷ counts) = let first = sum_by-cons (λ x. x) 0 counts in sum-after_zeros counts ∙ omega (arith, first)
sum-after_zeros (suc n ∷ counts) = refl

pub split_by-after_zeros : {A : Type 0} (counts : List ℕ) (items : List A) → sum counts ≡ length items → split_by (after_zeros counts) items ≡ after_empty (split_by counts items)
split_by-after_zeros [] items complete = refl
split_by-after_zeros (zero ∷ counts) items complete =
    let first = sum_by-cons (λ x. x) 0 counts in split_by-after_zeros counts items (omega (arith, first))
split_by-after_zeros (suc n ∷ counts) [] complete =
    let first = sum_by-cons (λ x. x) (suc n) counts in absurd (omega (arith, first))
split_by-after_zeros (suc n ∷ counts) (item ∷ items) complete = refl
