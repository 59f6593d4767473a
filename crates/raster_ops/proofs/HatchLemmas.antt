-- The cells of a hatch's row, bit by bit.
use Rattle.std.proofs.Common.{◌≡◌, ℕ, ◌+◌, ◌*◌, ◌/◌, ◌%◌, ◌^◌, ◌<◌, Bool, true, eqb, ◌||◌, max, refl, ap, ◌∙◌}
use Rattle.std.specs.Int.{bit_at}
use Rattle.std.specs.Int.RustNames.{bit_or}
use Rattle.std.proofs.lemmas.Bool.{agree_below, agree_below_at}
use Rattle.std.proofs.lemmas.Nat.Bits.{bit_at-lt, bit_at_or}
use Rattle.raster_ops.proofs.BitLemmas.{four}

-- two tests of two numbers below 8 agree if they do so on a table
agree : (f g : ℕ → ℕ → Bool) → agree_below (λ r. agree_below (f r) (g r) 8) (λ r. true) 8 ≡ true → (r m : ℕ) → r < 8 → m < 8 → f r m ≡ g r m
agree f g e r m h k = agree_below_at (f r) (g r) 8 m (agree_below_at (λ r. agree_below (f r) (g r) 8) (λ r. true) 8 r e h) k

pub forward_cells : (r m : ℕ) → r < 8 → m < 8 → eqb (bit_at (1 * 2 ^ r % 256) m) 1 ≡ eqb m r
forward_cells r m h k = agree (λ r m. eqb (bit_at (1 * 2 ^ r % 256) m) 1) (λ r m. eqb m r) refl r m h k

pub backward_cells : (r m : ℕ) → r < 8 → m < 8 → eqb (bit_at (128 / 2 ^ r) m) 1 ≡ eqb (m + r) 7
backward_cells r m h k = agree (λ r m. eqb (bit_at (128 / 2 ^ r) m) 1) (λ r m. eqb (m + r) 7) refl r m h k

pub first_cell : (m : ℕ) → m < 8 → eqb (bit_at 1 m) 1 ≡ eqb m 0
first_cell m k = agree_below_at (λ m. eqb (bit_at 1 m) 1) (λ m. eqb m 0) 8 m refl k

pub all_cells : (m : ℕ) → m < 8 → eqb (bit_at 255 m) 1 ≡ true
all_cells m k = agree_below_at (λ m. eqb (bit_at 255 m) 1) (λ m. true) 8 m refl k

-- the cells of either of two
pub either_cells : (a b m : ℕ) → eqb (bit_at (bit_or a b) m) 1 ≡ (eqb (bit_at a m) 1 || eqb (bit_at b m) 1)
either_cells a b m =
    ap (λ (v : ℕ). eqb v 1) (bit_at_or a b m)
    ∙ four (λ x y. eqb (max x y) 1 ≡ (eqb x 1 || eqb y 1)) refl refl refl refl (bit_at a m) (bit_at b m) (bit_at-lt a m) (bit_at-lt b m)
