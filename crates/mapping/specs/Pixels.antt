-- Lists of colours, changed and counted pixel by pixel.
use Rattle.std.specs.Prelude.{◌==◌, ℕ, zero, suc, ◌+◌, ◌*◌, ◌/◌, ◌%◌, Bool, if◌then◌else◌, List, [], ◌∷◌}
use Rattle.std.specs.Int.{bit_at}
use Rattle.mapping.specs.declared.geometry.Colour.{Colour}

-- the colours, each changed by f, which gets its index (the first has index k) and the colour
abbrev pub map_indexed : (ℕ → Colour → Colour) → ℕ → List Colour → List Colour
map_indexed f k [] = []
map_indexed f k (c ∷ cs) = f k c ∷ map_indexed f (suc k) cs

-- how many of n indexes, from k on, pass the test
abbrev pub count_indexes : (ℕ → Bool) → ℕ → ℕ → ℕ
count_indexes test k zero = 0
count_indexes test k (suc n) = (if test k then 1 else 0) + count_indexes test (suc k) n

-- The colours of some rows of this width, from row `first` on. Those whose column and row pass the test are changed by
-- f, which gets column, row and old colour; the others are unchanged.
abbrev pub repainted : (ℕ → ℕ → Bool) → (ℕ → ℕ → Colour → Colour) → ℕ → ℕ → List Colour → List Colour
repainted test f width first colours =
    map_indexed (λ k old. if test (k % width) (first + k / width) then f (k % width) (first + k / width) old else old) 0 colours

-- how many pixels of some rows, from row `first` on, pass the test
abbrev pub count_pixels : (ℕ → ℕ → Bool) → ℕ → ℕ → ℕ → ℕ
count_pixels test width first rows = count_indexes (λ k. test (k % width) (first + k / width)) 0 (rows * width)

-- whether column x is a cell: eight columns repeat, and bit x % 8 of the number is 1
abbrev pub is_cell : ℕ → ℕ → Bool
is_cell cells x = bit_at cells (x % 8) == 1
