-- Rows of bits joined to others.
use Rattle.std.proofs.Common.{◌≡◌, ℕ, ◌+◌, ◌≤◌, Bool, ◌||◌, ap, sym, ◌∙◌, arith}
use Rattle.std.proofs.Math.Bool.{or-false}
use Rattle.span_fill.specs.BitRows.{BitRowsState, has_bit}
use Rattle.span_fill.specs.WideStrokes.{any_below}
use Rattle.span_fill.proofs.AnyLemmas.{any_joined, any_same}

-- a row has what it has
pub no_further : (bits : BitRowsState) (x i : ℕ) → has_bit bits x i ≡ any_below (λ d. has_bit bits x (i + d)) 1
no_further bits x i = let e : i ≡ i + 0 = omega arith in ap (has_bit bits x) e ∙ sym (or-false (has_bit bits x (i + 0)))

-- a row that has what so many rows had, joined with one that lies near enough and has the same
pub widened_joined : (old now_ new : BitRowsState) (x i reach distance all : ℕ) → all ≡ distance + reach → distance ≤ reach
    → has_bit new x i ≡ (has_bit now_ x i || has_bit now_ x (i + distance)) → has_bit now_ x i ≡ any_below (λ d. has_bit old x (i + d)) reach
    → has_bit now_ x (i + distance) ≡ any_below (λ d. has_bit old x (i + distance + d)) reach → has_bit new x i ≡ any_below (λ d. has_bit old x (i + d)) all
widened_joined old now_ new x i reach distance all is near joined here there =
    joined ∙ ap (λ (b : Bool). b || has_bit now_ x (i + distance)) here ∙ ap (λ (b : Bool). any_below (λ d. has_bit old x (i + d)) reach || b) (there ∙ again)
    ∙ any_joined (λ d. has_bit old x (i + d)) reach distance near ∙ ap (any_below (λ d. has_bit old x (i + d))) (sym is)
  where
    again : any_below (λ d. has_bit old x (i + distance + d)) reach ≡ any_below (λ d. has_bit old x (i + (distance + d))) reach
    again = any_same (λ d. has_bit old x (i + distance + d)) (λ d. has_bit old x (i + (distance + d))) reach (λ d below. let e : i + distance + d ≡ i + (distance + d) = omega arith in ap (has_bit old x) e)
