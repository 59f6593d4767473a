-- The fields of visited masks.
use Rattle.std.specs.Prelude.{◌≡◌, ◌+◌, ◌*◌, ◌≤◌, length}
use Rattle.painting.specs.VisitedMask.{VisitedMaskState, pixel_count, span_width, visited_mask_limit}
use Rattle.painting.specs.declared.visited_mask.VisitedMask.TheInside.{Inside}

-- what callers see of the fields
abbrev pub visited_mask_state : Inside → VisitedMaskState
visited_mask_state a = record { region = a.region; words = a.words.items }

-- There is a bit for each pixel of the box, which is no larger than a surface. The box has so many columns, and its first
-- pixel has this number in rows of them.
pub record HasVisitedMask (a : Inside) : Type 0 where
  pub words : length a.words.items ≡ 16384
  pub columns : a.region.columns.to ≤ 8192
  pub rows : a.region.rows.to ≤ 8192
  pub count : pixel_count a.region ≤ visited_mask_limit
  pub wide : a.columns ≡ span_width a.region.columns
  pub first : a.start ≡ a.region.rows.from * a.columns + a.region.columns.from
