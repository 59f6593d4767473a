-- Rows of mixes, one for each pixel.
use Rattle.std.specs.Prelude.{ℕ, List, slice_index_or}
use Rattle.mapping.specs.Colours.{black_colour, white_colour}
use Rattle.mapping.specs.declared.geometry.Colour.{Colour}
use Rattle.mapping.specs.declared.mix.Mix.{Mix}

-- the mix at an index of a row, from a row of bits to keep and a row of bits to flip; if there is none, everything is
-- kept and nothing flipped
abbrev pub mix_at : List Colour → List Colour → ℕ → Mix
mix_at keeps flips place = record { keep = slice_index_or keeps place white_colour; flip = slice_index_or flips place black_colour }
