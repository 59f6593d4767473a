-- What holds of two coordinates holds of the lesser and of the greater.
use Rattle.std.proofs.Common.{◌≡◌, ℤ, arith, subst, sym}
use Rattle.std.proofs.lemmas.Int.{by_lt_z, ints}
use Rattle.std.specs.Int.{int_max, int_min}

module _ (P : ℤ → Type 0) (v w : ℤ) (first : P v) (second : P w) where
  pub of_lesser : P (int_min v w)
  of_lesser = by_lt_z w v
      (λ b. let least : int_min v w ≡ w = grind (arith, ints) in subst P (sym least) second)
      (λ b. let least : int_min v w ≡ v = grind (arith, ints) in subst P (sym least) first)

  pub of_greater : P (int_max v w)
  of_greater = by_lt_z w v
      (λ b. let most : int_max v w ≡ v = grind (arith, ints) in subst P (sym most) first)
      (λ b. let most : int_max v w ≡ w = grind (arith, ints) in subst P (sym most) second)
