-- The definition of what a nib covers on worked numbers.
use Rattle.std.proofs.Common.{◌≡◌, ℕ, ℤ, pos, negsuc, Bool, true, false, List, [], ◌∷◌, map, refl}
use Rattle.mapping.specs.declared.nib.Nib.{Nib}
use Rattle.span_fill.specs.WideStrokes.{on_wide_line}
use Rattle.span_fill.specs.declared.line.Line.{Line}

-- the line along row 4 from column 2 up to before column 6, and one above the surface
abbrev horizontal : Line
horizontal = record { from = record { x = pos 2; y = pos 4 }; to = record { x = pos 6; y = pos 4 } }

abbrev above : Line
above = record { from = record { x = pos 2; y = negsuc 0 }; to = record { x = pos 6; y = negsuc 0 } }

abbrev nib : ℕ → ℕ → Nib
nib x y = record { x = x; y = y }

-- which of the first nine columns a nib covers in a row
abbrev covered_in : Nib → Line → ℤ → List Bool
covered_in n line y = map (λ x. on_wide_line n line (pos x) y) (0 ∷ 1 ∷ 2 ∷ 3 ∷ 4 ∷ 5 ∷ 6 ∷ 7 ∷ 8 ∷ [])

-- three by three: columns 1 to 6 of rows 3 to 5
three_before : covered_in (nib 3 3) horizontal (pos 2) ≡ false ∷ false ∷ false ∷ false ∷ false ∷ false ∷ false ∷ false ∷ false ∷ []
three_before = refl

three_first : covered_in (nib 3 3) horizontal (pos 3) ≡ false ∷ true ∷ true ∷ true ∷ true ∷ true ∷ true ∷ false ∷ false ∷ []
three_first = refl

three_last : covered_in (nib 3 3) horizontal (pos 5) ≡ false ∷ true ∷ true ∷ true ∷ true ∷ true ∷ true ∷ false ∷ false ∷ []
three_last = refl

three_after : covered_in (nib 3 3) horizontal (pos 6) ≡ false ∷ false ∷ false ∷ false ∷ false ∷ false ∷ false ∷ false ∷ false ∷ []
three_after = refl

-- two by three: of two columns one more lies after the line than before it
even_columns : covered_in (nib 2 3) horizontal (pos 3) ≡ false ∷ false ∷ true ∷ true ∷ true ∷ true ∷ true ∷ false ∷ false ∷ []
even_columns = refl

-- and of two rows
even_rows_before : covered_in (nib 3 2) horizontal (pos 3) ≡ false ∷ false ∷ false ∷ false ∷ false ∷ false ∷ false ∷ false ∷ false ∷ []
even_rows_before = refl

even_rows_last : covered_in (nib 3 2) horizontal (pos 5) ≡ false ∷ true ∷ true ∷ true ∷ true ∷ true ∷ true ∷ false ∷ false ∷ []
even_rows_last = refl

-- one column by nine rows
narrow_first : covered_in (nib 1 9) horizontal (pos 0) ≡ false ∷ false ∷ true ∷ true ∷ true ∷ true ∷ false ∷ false ∷ false ∷ []
narrow_first = refl

narrow_last : covered_in (nib 1 9) horizontal (pos 8) ≡ false ∷ false ∷ true ∷ true ∷ true ∷ true ∷ false ∷ false ∷ false ∷ []
narrow_last = refl

narrow_after : covered_in (nib 1 9) horizontal (pos 9) ≡ false ∷ false ∷ false ∷ false ∷ false ∷ false ∷ false ∷ false ∷ false ∷ []
narrow_after = refl

-- a nib reaches the surface from a line above it
from_above : covered_in (nib 3 3) above (pos 0) ≡ false ∷ true ∷ true ∷ true ∷ true ∷ true ∷ true ∷ false ∷ false ∷ []
from_above = refl

not_so_far : covered_in (nib 3 3) above (pos 1) ≡ false ∷ false ∷ false ∷ false ∷ false ∷ false ∷ false ∷ false ∷ false ∷ []
not_so_far = refl
