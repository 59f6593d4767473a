-- A canvas as callers see it.
use Rattle.std.specs.Prelude.{ℕ, ◌+◌, ◌-◌, ◌*◌, ◌<◌, ◌≤◌, List, replicate}
use Rattle.mapping.specs.declared.geometry.Colour.{Colour}
use Rattle.mapping.specs.Image.{Image}
use Rattle.canvas.specs.Rows.{row_stride}

-- the rows of a surface in a canvas, from `first` on, with their colours, the number of pixels written, and the number
-- of rows that it was made for
pub record CanvasState : Type 0 where
  pub width : ℕ
  pub first : ℕ
  pub rows : ℕ
  pub colours : List Colour
  pub writes : ℕ
  pub most : ℕ

-- the image of the canvas's rows
abbrev pub image_of : CanvasState → Image
image_of canvas = record { width = canvas.width; height = canvas.rows; colours = canvas.colours }

-- the canvas contains the surface's pixel (x, y)
pub record HasPixel (canvas : CanvasState) (x y : ℕ) : Type 0 where
  pub column : x < canvas.width
  pub from_first : canvas.first ≤ y
  pub to_last : y < canvas.first + canvas.rows

-- the canvas contains the surface's row y
pub record HasRow (canvas : CanvasState) (y : ℕ) : Type 0 where
  pub from_first : canvas.first ≤ y
  pub to_last : y < canvas.first + canvas.rows

-- the index of pixel (x, y) in the list of colours
abbrev pub colour_index : CanvasState → ℕ → ℕ → ℕ
colour_index canvas x y = (y - canvas.first) * canvas.width + x

-- the place of pixel (x, y) among the colours as they are stored
abbrev pub place_in : CanvasState → ℕ → ℕ → ℕ
place_in canvas x y = (y - canvas.first) * row_stride canvas.width + x

-- a canvas of rows with these colours, before anything is written
abbrev pub made_of : List Colour → ℕ → ℕ → ℕ → CanvasState
made_of colours width first rows = record { width = width; first = first; rows = rows; colours = colours; writes = 0; most = rows }

-- a canvas that shows one colour, before anything is written
abbrev pub unwritten : ℕ → ℕ → ℕ → Colour → CanvasState
unwritten width first rows colour = made_of (replicate (rows * width) colour) width first rows

-- a canvas after it was reset to other rows in one colour
abbrev pub shown_again : ℕ → ℕ → Colour → CanvasState → CanvasState
shown_again first rows colour canvas = record {
  width = canvas.width;
  first = first;
  rows = rows;
  colours = replicate (rows * canvas.width) colour;
  writes = canvas.writes;
  most = canvas.most;
}

-- a canvas that shows a whole surface's image, before anything is written
abbrev pub showing : Image → CanvasState
showing image = made_of image.colours image.width 0 image.height
