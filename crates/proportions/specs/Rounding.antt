-- Rounding.
use Rattle.std.specs.Prelude.{ℕ, ◌+◌, ◌*◌, ◌/◌}

-- the whole number nearest to a quotient; a half is rounded up
abbrev pub nearest : ℕ → ℕ → ℕ
nearest dividend divisor = (2 * dividend + divisor) / (2 * divisor)
