-- Rows of an image in a buffer.
use Rattle.std.specs.Prelude.{◌≡◌, ◌≤◌, ◌<◌, ◌⊎◌, ℕ, ◌+◌, ◌-◌, ◌*◌, List, length, slice_index_or, take, drop}
use Rattle.mapping.specs.Image.{Image, blank}
use Rattle.draw_ops.specs.Content.{Content}
use Rattle.canvas.specs.CanvasState.{CanvasState}
use Rattle.canvas.specs.Ppm.{raster}
use Rattle.canvas.specs.Samples.{row_in}
use Rattle.meta_headers.specs.File.{IsOpenedFrom}
use Rattle.meta_headers.specs.OpenedOf.{opened_of}
use Rattle.meta_headers.specs.Opening.{HasContentOf}
use Rattle.preflight_cert.specs.Run.{Run, shown}
use Rattle.preflight_cert.specs.declared.cleared.Cleared.{Cleared}
use Rattle.player.specs.Bands.{plan_surface, rows_played}
use Rattle.player.specs.declared.band_plan.BandPlan.{BandPlan}
use Rattle.player.specs.declared.row_layout.RowLayout.{RowLayout}

-- the samples of row y of an image
abbrev pub row_samples : Image → ℕ → List ℕ
row_samples image y = raster (take image.width (drop (y * image.width) image.colours))

-- where row y of a surface begins in a buffer
abbrev pub row_place : RowLayout → ℕ → ℕ
row_place layout y = (y - layout.first) * layout.stride

-- a place in the buffer is outside of row y, which has this many bytes
abbrev pub IsOutsideRow : RowLayout → ℕ → ℕ → ℕ → Type 0
IsOutsideRow layout size y place = place < row_place layout y ⊎ row_place layout y + size ≤ place

-- The rows of a surface from one to before another were copied to a buffer: the bytes of each row are its samples, and
-- every byte outside of these rows is unchanged.
pub record CopiesRows (samples : ℕ → List ℕ) (layout : RowLayout) (size from to : ℕ) (old new : List ℕ) : Type 0 where
  pub same_size : length new ≡ length old
  pub rows : (y k any : ℕ) → from ≤ y → y < to → k < size → slice_index_or new (row_place layout y + k) any ≡ slice_index_or (samples y) k any
  pub others : (place any : ℕ) → ((y : ℕ) → from ≤ y → y < to → IsOutsideRow layout size y place) → slice_index_or new place any ≡ slice_index_or old place any

-- the rows of a layout were copied from an image of this width
abbrev pub CopiesLayout : Image → RowLayout → ℕ → List ℕ → List ℕ → Type 0
CopiesLayout image layout width old new = CopiesRows (row_samples image) layout (3 * width) layout.first (layout.first + layout.count) old new

-- the rows of a layout were copied from the image that the run of the cleared file makes from one colour
pub record CopiesRun (cleared : Cleared) (plan : BandPlan) (layout : RowLayout) (old new : List ℕ) : Type 0 where
  pub image : Image
  pub of_run : (file : List ℕ) → IsOpenedFrom file cleared.opened → Run cleared.opened.rules file plan.width plan.height (blank plan.width plan.height plan.start) (shown image)
  pub rows : CopiesLayout image layout plan.width old new

-- the number of bytes from the first one of a layout's first row to the last one of its last row
abbrev pub layout_size : RowLayout → ℕ → ℕ
layout_size layout width = (layout.count - 1) * layout.stride + 3 * width

-- a buffer has capacity for the rows from one to before another
abbrev pub HasCapacityForRows : RowLayout → ℕ → ℕ → ℕ → List ℕ → Type 0
HasCapacityForRows layout size from to buffer = (y : ℕ) → from ≤ y → y < to → row_place layout y + size ≤ length buffer

-- the rows from one to before another were copied from a canvas
abbrev pub CopiesCanvas : CanvasState → RowLayout → ℕ → ℕ → List ℕ → List ℕ → Type 0
CopiesCanvas canvas layout from to old new = CopiesRows (λ y. raster (row_in canvas y)) layout (3 * canvas.width) from to old new

-- the rows before this one were copied from the image that the records of a cleared file draw over one colour
abbrev pub CopiesPlayed : Cleared → BandPlan → RowLayout → ℕ → List ℕ → List ℕ → Type 0
CopiesPlayed cleared plan layout to old new =
    (content : Content) → HasContentOf (opened_of cleared.opened).format cleared.opened.records.now content
    → CopiesRows (row_samples (rows_played (opened_of cleared.opened) content (plan_surface cleared plan) plan.start 0 plan.height))
    layout (3 * plan.width) layout.first to old new
