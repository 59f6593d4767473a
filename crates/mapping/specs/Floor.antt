-- Floor division of integers, and what it means.
use Rattle.std.specs.Prelude.{◌≢◌, suc, ℤ, pos, negsuc, neg_ℤ, ◌*ℤ◌, ◌≤ℤ◌}
use Rattle.std.specs.Int.{int_div_euclid}

-- The greatest integer that isn't above a / b. If b is negative, the fraction is that of -a and -b.
abbrev pub floor_div : ℤ → ℤ → ℤ
floor_div a (pos b) = int_div_euclid a (pos b)
floor_div a (negsuc b) = int_div_euclid (neg_ℤ a) (pos (suc b))

-- q isn't above the fraction a / b
abbrev pub IsNotAbove : ℤ → ℤ → ℤ → Type 0
IsNotAbove q a (pos b) = (q *ℤ pos b) ≤ℤ a
IsNotAbove q a (negsuc b) = a ≤ℤ (q *ℤ negsuc b)

-- q isn't above the fraction a / b, and no greater integer is
pub record IsGreatestNotAbove (q a b : ℤ) : Type 0 where
  pub not_above : IsNotAbove q a b
  pub greatest : (other : ℤ) → IsNotAbove other a b → other ≤ℤ q

-- the floor of a / b is the greatest integer that isn't above the fraction
abbrev pub FloorDivisionIsGreatest : Type 0
FloorDivisionIsGreatest = (a b : ℤ) → b ≢ pos 0 → IsGreatestNotAbove (floor_div a b) a b
