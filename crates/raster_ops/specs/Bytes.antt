-- Colours whose components are bytes.
use Rattle.std.specs.Prelude.{◌<◌}
use Rattle.mapping.specs.declared.geometry.Colour.{Colour}

-- each component of a colour is a byte
pub record HasBytes (colour : Colour) : Type 0 where
  pub r : colour.r < 256
  pub g : colour.g < 256
  pub b : colour.b < 256
