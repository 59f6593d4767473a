-- Named colours.
use Rattle.mapping.specs.declared.geometry.Colour.{Colour}

-- white: every component is full
abbrev pub white_colour : Colour
white_colour = record { r = 255; g = 255; b = 255 }

-- black: every component is 0
abbrev pub black_colour : Colour
black_colour = record { r = 0; g = 0; b = 0 }
