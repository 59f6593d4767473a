-- Images.
use Rattle.std.specs.Prelude.{ℕ, ◌*◌, List, replicate}
use Rattle.mapping.specs.declared.geometry.Colour.{Colour}

-- an image: its width and height, and its colours row by row from the top, each row from the left
pub record Image : Type 0 where
  pub width : ℕ
  pub height : ℕ
  pub colours : List Colour

-- the image of this size in one colour
abbrev pub blank : ℕ → ℕ → Colour → Image
blank width height colour = record { width = width; height = height; colours = replicate (height * width) colour }
