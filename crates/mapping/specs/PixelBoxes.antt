-- Boxes and pixels.
use Rattle.std.specs.Prelude.{◌≡◌, ℕ, ℤ, pos, ◌≤ℤ◌, ◌<ℤ◌, Bool, true, ◌&&◌, int_le, int_lt}
use Rattle.std.proofs.lemmas.Bool.{and_from, and_parts}
use Rattle.mapping.specs.Boxes.{HasPoint}
use Rattle.mapping.specs.TestLaws.{int_le-from, int_le-true, int_lt-from, int_lt-true}
use Rattle.mapping.specs.declared.geometry.Rect.{Rect}

-- a box of a surface contains the pixel in this column and row; right and bottom are inclusive
abbrev pub BoxHasPixel : Rect → ℕ → ℕ → Type 0
BoxHasPixel box x y = HasPoint box (record { x = pos x; y = pos y })

-- the number is at or after the first and before the second
abbrev pub is_from_to : ℤ → ℤ → ℕ → Bool
is_from_to from to n = int_le from (pos n) && int_lt (pos n) to

-- a box of a surface contains the pixel; right and bottom are exclusive
abbrev pub in_box : Rect → ℕ → ℕ → Bool
in_box box x y = is_from_to box.l box.r x && is_from_to box.t box.b y

-- what follows from the test of a number, and when it is true
pub from_to_true : (from to : ℤ) (n : ℕ) → is_from_to from to n ≡ true → (from ≤ℤ pos n) × (pos n <ℤ to)
from_to_true from to n test =
    let parts = and_parts (int_le from (pos n)) (int_lt (pos n) to) test in
    (int_le-true from (pos n) parts.0, int_lt-true (pos n) to parts.1)

pub from_to_from : (from to : ℤ) (n : ℕ) → from ≤ℤ pos n → pos n <ℤ to → is_from_to from to n ≡ true
from_to_from from to n low high =
    and_from (int_le from (pos n)) (int_lt (pos n) to) (int_le-from from (pos n) low) (int_lt-from (pos n) to high)
