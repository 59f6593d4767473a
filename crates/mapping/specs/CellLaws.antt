-- What `cells` bounds, and how pixels are counted by columns and rows.
use Rattle.std.specs.Prelude.{◌≡◌, ◌≤◌, ℕ, ◌*◌, ℤ, ◌≤ℤ◌, Bool, true}
use Rattle.mapping.specs.Cells.{cells, lies_from_to, lies_near, wide_cells}
use Rattle.mapping.specs.Limits.{IsFrameSide}
use Rattle.mapping.specs.Pixels.{count_indexes, count_pixels}

-- If l isn't greater than r, at most `cells` columns lie from where l lands to where r lands. That number doesn't
-- decrease if the surface grows or if the interval is extended. Pixels that lie in some columns and some rows are at
-- most as many as the columns times the rows.
pub record CellLaws : Type 0 where
  pub few : (l r : ℤ) (w side : ℕ) → IsFrameSide side → l ≤ℤ r → count_indexes (lies_from_to l r w side) 0 w ≤ cells l r w side
  pub grows : (l r : ℤ) (w longer side : ℕ) → IsFrameSide side → w ≤ longer → cells l r w side ≤ cells l r longer side
  pub widens : (l k r q : ℤ) (w side : ℕ) → IsFrameSide side → l ≤ℤ k → q ≤ℤ r → cells k q w side ≤ cells l r w side
  pub pixels :
      (row column : ℕ → Bool) (test : ℕ → ℕ → Bool) (w n : ℕ)
      → ((x y : ℕ) → test x y ≡ true → (column x ≡ true) × (row y ≡ true))
      → count_pixels test w 0 n ≤ count_indexes row 0 n * count_indexes column 0 w

-- For a nib of n columns or rows: at most `wide_cells` of the surface's columns lie within its reach as it moves from
-- where l lands to where r lands. A larger surface, a longer interval or a wider nib never decreases that number, and
-- for a nib of one it equals `cells`.
pub record WideCellLaws : Type 0 where
  pub few :
      (l r : ℤ) (w side n : ℕ) → IsFrameSide side → l ≤ℤ r
      → count_indexes (lies_near l r w side n) 0 w ≤ wide_cells l r w side n
  pub grows :
      (l r : ℤ) (w longer side n wider : ℕ) → IsFrameSide side → w ≤ longer → n ≤ wider
      → wide_cells l r w side n ≤ wide_cells l r longer side wider
  pub widens :
      (l k r q : ℤ) (w side n wider : ℕ) → IsFrameSide side → l ≤ℤ k → q ≤ℤ r → n ≤ wider
      → wide_cells k q w side n ≤ wide_cells l r w side wider
  pub one : (l r : ℤ) (w side : ℕ) → wide_cells l r w side 1 ≡ cells l r w side
