-- Ternary raster operations.
use Rattle.std.specs.Prelude.{◌≡◌, ℕ, ◌+◌, ◌*◌, ◌^◌, ◌==◌, Bool, false, not, List, [], ◌∷◌, map, slice_index_or, sum}
use Rattle.std.specs.Int.{bit_at}
use Rattle.std.specs.List.{list_any}
use Rattle.mapping.specs.Colours.{black_colour}
use Rattle.mapping.specs.declared.geometry.Colour.{Colour}

-- the bit of an operation's table that a bit of the pattern, of the source and of the old colour select ([MS-WMF]
-- 2.1.1.31)
abbrev pub table_bit : ℕ → ℕ → ℕ → ℕ → ℕ
table_bit table pattern source old = bit_at table (4 * pattern + 2 * source + old)

-- bit k of the result, in its position
abbrev pub ternary_bit : ℕ → ℕ → ℕ → ℕ → ℕ → ℕ
ternary_bit table pattern source old k = table_bit table (bit_at pattern k) (bit_at source k) (bit_at old k) * 2 ^ k

-- a ternary raster operation on eight bits, each separately
abbrev pub ternary_part : ℕ → ℕ → ℕ → ℕ → ℕ
ternary_part table pattern source old = sum (map (ternary_bit table pattern source old) (0 ∷ 1 ∷ 2 ∷ 3 ∷ 4 ∷ 5 ∷ 6 ∷ 7 ∷ []))

-- a ternary raster operation, by its table, on each of a colour's 24 bits
abbrev pub ternary_colour : ℕ → Colour → Colour → Colour → Colour
ternary_colour table pattern source old = record {
  r = ternary_part table pattern.r source.r old.r;
  g = ternary_part table pattern.g source.g old.g;
  b = ternary_part table pattern.b source.b old.b;
}

-- the values of two bits
abbrev pub bit_pairs : List (ℕ × ℕ)
bit_pairs = (0, 0) ∷ (0, 1) ∷ (1, 0) ∷ (1, 1) ∷ []

-- an operation depends on the source: for some bits of pattern and old colour, a 0 and a 1 in the source give different
-- results
abbrev pub uses_source : ℕ → Bool
uses_source table = list_any (λ pair. not (table_bit table pair.0 0 pair.1 == table_bit table pair.0 1 pair.1)) bit_pairs

-- an operation depends on the pattern: for some bits of source and old colour, a 0 and a 1 in the pattern give
-- different results
abbrev pub uses_pattern : ℕ → Bool
uses_pattern table = list_any (λ pair. not (table_bit table 0 pair.0 pair.1 == table_bit table 1 pair.0 pair.1)) bit_pairs

-- the result of an operation on a colour in a column, with a row of patterns and a row of sources
abbrev pub ternary_at : ℕ → List Colour → List Colour → ℕ → Colour → Colour
ternary_at table patterns sources x old =
    ternary_colour table (slice_index_or patterns x black_colour) (slice_index_or sources x black_colour) old

-- an operation that doesn't depend on the source gives the same for every source
abbrev pub UnusedSourceIsUnseen : Type 0
UnusedSourceIsUnseen =
    (table : ℕ) (p s t o : Colour) → uses_source table ≡ false → ternary_colour table p s o ≡ ternary_colour table p t o

-- an operation that doesn't depend on the pattern gives the same for every pattern
abbrev pub UnusedPatternIsUnseen : Type 0
UnusedPatternIsUnseen =
    (table : ℕ) (p q s o : Colour) → uses_pattern table ≡ false → ternary_colour table p s o ≡ ternary_colour table q s o
