-- The strips of lines: those that have a row and those that wait.
use Rattle.std.specs.Prelude.{ℕ, ◌+◌, ◌-◌, ◌≤◌, ℤ, pos, unsigned_abs, Bool, ◌||◌, drop, length, vec_capacity}
use Rattle.std.specs.List.{All}
use Rattle.std.specs.List.Sorted.{IsNonDecreasingBy}
use Rattle.mapping.specs.Nibs.{IsNib}
use Rattle.span_fill.specs.StrokeRows.{IsActive, IsWaiting, wide_edges_have}
use Rattle.span_fill.specs.declared.strokes.Strokes.{Strokes}

-- one of the strips has the pixel in this row or in a later one
abbrev pub strokes_have : Strokes → ℤ → ℕ → Bool
strokes_have s x y = wide_edges_have s.nib s.active.items x y || wide_edges_have s.nib (drop s.begun s.waiting.items) x y

-- the number of strips with remaining rows
abbrev pub stroke_count : Strokes → ℕ
stroke_count s = length s.active.items + (length s.waiting.items - s.begun)

-- there is memory for this many strips
pub record HasStrokeCapacity (capacity : ℕ) (s : Strokes) : Type 0 where
  pub waiting : capacity ≤ vec_capacity s.waiting
  pub active : capacity ≤ vec_capacity s.active
  pub parts : capacity ≤ vec_capacity s.parts

-- the memory is enough for the same number of strips
abbrev pub HasSameCapacity : Strokes → Strokes → Type 0
HasSameCapacity old new = (capacity : ℕ) → HasStrokeCapacity capacity old → HasStrokeCapacity capacity new

-- the strips that have the row are at it, and the others wait, sorted by their first rows
pub record AreStrokes (row : ℕ) (s : Strokes) : Type 0 where
  pub nib : IsNib s.nib
  pub active : All (IsActive s.nib (pos row) (pos 8192)) s.active.items
  pub waiting : All (IsWaiting s.nib (pos row) (pos 8192)) (drop s.begun s.waiting.items)
  pub sorted : IsNonDecreasingBy (λ edge. unsigned_abs edge.seen.from) s.waiting.items
  pub begun : s.begun ≤ length s.waiting.items
  pub capacity : HasStrokeCapacity (stroke_count s) s
