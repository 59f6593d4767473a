-- Tests of numbers, and what follows from them.
use Rattle.std.proofs.Common.{◌≡◌, ℕ, ◌≤◌, ◌<◌, Bool, true, ◌&&◌, nat_le, nat_lt}
use Rattle.std.proofs.lemmas.Bool.{and_from, and_parts, le-leb, leb-true, lt-ltb, ltb-true}

-- a column from one on, up to before another
abbrev pub is_column : ℕ → ℕ → ℕ → Bool
is_column from to x = nat_le from x && nat_lt x to

-- what follows from a test of columns
pub column_true : (from to x : ℕ) → is_column from to x ≡ true → (from ≤ x) × (x < to)
column_true from to x h =
    let parts = and_parts (nat_le from x) (nat_lt x to) h in (leb-true from x parts.0, ltb-true x to parts.1)

pub column_from : (from to x : ℕ) → from ≤ x → x < to → is_column from to x ≡ true
column_from from to x f t = and_from (nat_le from x) (nat_lt x to) (le-leb from x f) (lt-ltb x to t)
