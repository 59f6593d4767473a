-- How a visited mask changes while pixels are returned.
use Rattle.std.specs.Prelude.{◌≡◌, ℕ, ◌||◌}
use Rattle.painting.specs.LinePixels.{is_to_step}
use Rattle.painting.specs.VisitedMask.{is_taken}
use Rattle.painting.specs.declared.untaken_pixels.UntakenPixels.{UntakenPixels}

-- the mask and its box are the same, and the pixels of all remaining steps are marked as visited
pub record TakesAll (start end : UntakenPixels) : Type 0 where
  pub same : end.visited.ghost_name ≡ start.visited.ghost_name
  pub region : end.visited.now.region ≡ start.visited.now.region
  pub taken : (x y : ℕ) → is_taken end.visited.now x y ≡ (is_taken start.visited.now x y || is_to_step start.pixels.steps x y)
