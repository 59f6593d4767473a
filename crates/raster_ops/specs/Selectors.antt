-- Bits that are selected by two others.
use Rattle.std.specs.Prelude.{◌≡◌, ℕ, ◌+◌, ◌*◌, ◌<◌, List, bit_and, bit_xor, slice_index_or}
use Rattle.std.specs.Int.{bit_at}
use Rattle.mapping.specs.Colours.{black_colour}
use Rattle.mapping.specs.declared.geometry.Colour.{Colour}
use Rattle.raster_ops.specs.declared.selector.Selector.{Selector}

-- the bits selected by a pattern and a source
abbrev pub selected : Selector → ℕ → ℕ → ℕ
selected selector pattern source =
    bit_xor (bit_xor selector.fixed (bit_and source selector.by_source)) (bit_and pattern (bit_xor selector.by_pattern (bit_and source selector.by_both)))

-- the selected bits are those at the even positions of a table, indexed by a bit of the pattern and a bit of the source
pub record IsSelector (selector : Selector) (table : ℕ) : Type 0 where
  pub each : (pattern source k : ℕ) → k < 8 → bit_at (selected selector pattern source) k ≡ bit_at table (4 * bit_at pattern k + 2 * bit_at source k)

-- the colour selected by a pattern and a source, component by component
abbrev pub selected_colour : Selector → Colour → Colour → Colour
selected_colour selector pattern source = record {
  r = selected selector pattern.r source.r;
  g = selected selector pattern.g source.g;
  b = selected selector pattern.b source.b;
}

-- the colour selected by the pattern and the source at an index
abbrev pub selected_at : Selector → List Colour → List Colour → ℕ → Colour
selected_at selector patterns sources x =
    selected_colour selector (slice_index_or patterns x black_colour) (slice_index_or sources x black_colour)

-- eight colours are those selected by the patterns and sources from an index on
abbrev pub AreSelectedFrom : Selector → List Colour → List Colour → ℕ → List Colour → Type 0
AreSelectedFrom selector patterns sources at colours =
    (k : ℕ) (d : Colour) → k < 8 → slice_index_or colours k d ≡ selected_at selector patterns sources (at + k)
