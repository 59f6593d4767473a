-- Which pixels of a column are inside, by changes from row to row.
use Rattle.std.specs.Prelude.{◌≡◌, ℕ, suc, ◌+◌, ◌<◌, ℤ, pos, ◌+ℤ◌, ◌-ℤ◌, if◌then◌else◌, nat_lt, List, [], ◌∷◌, take}
use Rattle.std.specs.List.{All}
use Rattle.mapping.specs.Limits.{IsWithin}
use Rattle.span_fill.specs.Fill.{crossed_downwards, crossed_upwards}
use Rattle.span_fill.specs.Spans.{in_span}
use Rattle.span_fill.specs.declared.line.Line.{Line}
use Rattle.span_fill.specs.declared.span.Span.{Span}

-- how many more lines that run downwards cross to the left of the pixel (x, y) than lines that run upwards
abbrev pub winding : List Line → ℕ → ℕ → ℤ
winding lines x y = pos (crossed_downwards lines x y) -ℤ pos (crossed_upwards lines x y)

-- the sum of changes
abbrev pub total : List ℤ → ℤ
total [] = pos 0
total (change ∷ changes) = change +ℤ total changes

-- from this row on, the sums of the changes grow by this number
abbrev pub ChangesFrom : ℕ → ℤ → List ℤ → List ℤ → Type 0
ChangesFrom row by old new = (n : ℕ) → total (take n new) ≡ total (take n old) +ℤ (if nat_lt row n then by else pos 0)

-- each change grows by at most this number
abbrev pub GrowsBy : ℕ → List ℤ → List ℤ → Type 0
GrowsBy more old new = (most : ℕ) → All (IsWithin most) old → All (IsWithin (most + more)) new

-- in each of these rows, and in no others, the sums of the changes grow by this number
abbrev pub WindsRows : Span → ℤ → List ℤ → List ℤ → Type 0
WindsRows rows by old new = (y : ℕ) → total (take (suc y) new) ≡ total (take (suc y) old) +ℤ (if in_span rows y then by else pos 0)

-- in each row, the sums of the changes grow by the winding of the line
abbrev pub WindsLine : Line → ℕ → List ℤ → List ℤ → Type 0
WindsLine line x old new = (y : ℕ) → y < 8192 → total (take (suc y) new) ≡ total (take (suc y) old) +ℤ winding (line ∷ []) x y

-- in each row of column x, the sum of the changes is its winding
abbrev pub HasWindings : List Line → ℕ → List ℤ → Type 0
HasWindings lines x changes = (y : ℕ) → y < 8192 → total (take (suc y) changes) ≡ winding lines x y
