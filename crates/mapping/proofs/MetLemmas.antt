-- Cells between two places of the frame.
use Rattle.std.proofs.Common.{◌≡◌, ℕ, ◌≤◌, ℤ, pos, ◌≤ℤ◌, ◌<ℤ◌, false, ◌||◌, int_le, int_lt, sym, ◌∙◌}
use Rattle.std.specs.Prelude.{min}
use Rattle.mapping.specs.Cells.{count_of, is_away}
use Rattle.std.proofs.lemmas.Bool.{or_left, or_right, true≢false}
use Rattle.mapping.proofs.CellLemmas.{by_away, counts_ordered}
use Rattle.mapping.specs.TestLaws.{int_le-from, int_lt-from}

-- where the box isn't away, its ends are in order
pub ordered : (l r : ℤ) (side : ℕ) → is_away l r side ≡ false → count_of l ≤ min (count_of r) side
ordered l r side h =
    by_away l r side
    (λ (g : r <ℤ l). absurd (true≢false (sym (or_left (int_lt r l) (int_lt r (pos 0) || int_le (pos side) l) (int_lt-from r l g)) ∙ h)))
    (λ (g : r <ℤ pos 0). absurd (true≢false (sym (or_right (int_lt r l) (int_lt r (pos 0) || int_le (pos side) l) (or_left (int_lt r (pos 0)) (int_le (pos side) l) (int_lt-from r (pos 0) g))) ∙ h)))
    (λ (g : pos side ≤ℤ l). absurd (true≢false (sym (or_right (int_lt r l) (int_lt r (pos 0) || int_le (pos side) l) (or_right (int_lt r (pos 0)) (int_le (pos side) l) (int_le-from (pos side) l g))) ∙ h)))
    (λ (a : l ≤ℤ r) (b : pos 0 ≤ℤ r) (c : l <ℤ pos side). counts_ordered l r side a b c)
