-- Colours gathered at their columns.
use Rattle.std.specs.Prelude.{◌≡◌, ◌⊎◌, ℕ, ◌<◌, ◌≤◌, List, Option, Some, is_some, slice_index_or, true}
use Rattle.mapping.specs.Mixes.{mixed_by}
use Rattle.mapping.specs.declared.geometry.Colour.{Colour}
use Rattle.raster_ops.specs.Bytes.{HasBytes}

-- the colours from one index to before another are those of f
abbrev pub AreAt : (ℕ → Colour) → ℕ → ℕ → List Colour → Type 0
AreAt f from to colours = (x : ℕ) (d : Colour) → from ≤ x → x < to → slice_index_or colours x d ≡ f x

-- from one index to before another, the colour at an index is that of the paint, if the paint has one there
abbrev pub ArePaintsAt : (ℕ → Option Colour) → ℕ → ℕ → List Colour → Type 0
ArePaintsAt paint from to colours =
    (x : ℕ) (d : Colour) → from ≤ x → x < to → is_some (paint x) ≡ true → Some (slice_index_or colours x d) ≡ paint x

-- from one index to before another, the colour at an index has bytes as components, if the paint has a colour there
abbrev pub HavePaintBytes : (ℕ → Option Colour) → ℕ → ℕ → List Colour → Type 0
HavePaintBytes paint from to colours =
    (x : ℕ) (d : Colour) → from ≤ x → x < to → is_some (paint x) ≡ true → HasBytes (slice_index_or colours x d)

-- from one index to before another, the components of the colours are bytes
abbrev pub HaveBytes : ℕ → ℕ → List Colour → Type 0
HaveBytes from to colours = (x : ℕ) (d : Colour) → from ≤ x → x < to → HasBytes (slice_index_or colours x d)

-- from one index to before another, mixes change the old colour as f does; the mixes are a row of bits to keep and a
-- row of bits to flip
abbrev pub AreMixesAt : (ℕ → Colour → Colour) → ℕ → ℕ → List Colour → List Colour → Type 0
AreMixesAt f from to keeps flips =
    (x : ℕ) (c d old : Colour) → from ≤ x → x < to → mixed_by (record { keep = slice_index_or keeps x c; flip = slice_index_or flips x d }) old ≡ f x old

-- before one index, and from another on, the new colours are the old ones
abbrev pub AreKeptOutside : ℕ → ℕ → List Colour → List Colour → Type 0
AreKeptOutside from to old new = (x : ℕ) (d : Colour) → x < from ⊎ to ≤ x → slice_index_or new x d ≡ slice_index_or old x d
