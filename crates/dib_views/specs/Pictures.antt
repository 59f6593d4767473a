-- Pictures.
use Rattle.std.specs.Prelude.{ℕ, List, [], slice_index_or}
use Rattle.mapping.specs.Colours.{black_colour}
use Rattle.mapping.specs.declared.geometry.Colour.{Colour}
use Rattle.dib_views.specs.declared.shape.RowOrder.{RowOrder}

-- a picture: its width and height, and its rows from the top, each with its colours from the left
pub record Picture : Type 0 where
  pub width : ℕ
  pub height : ℕ
  pub rows : List (List Colour)

-- the colour of a picture's pixel by its column and row; black if there is none
abbrev pub picture_colour : Picture → ℕ → ℕ → Colour
picture_colour picture x y = slice_index_or (slice_index_or picture.rows y []) x black_colour

-- a bitmap's value: its picture, and which row is stored first
pub record Dib : Type 0 where
  pub picture : Picture
  pub order : RowOrder
