-- The surface of a place.
use Rattle.std.specs.Prelude.{ℕ}
use Rattle.mapping.specs.Surface.{Surface}
use Rattle.mapping.specs.declared.geometry.Frame.{Frame}
use Rattle.mapping.specs.declared.place.Place.{Place}

-- the surface of this size that shows a frame
abbrev pub surface_with : Frame → ℕ → ℕ → Surface
surface_with frame width height = record { width = width; height = height; frame_width = frame.width; frame_height = frame.height }

-- the surface of a place
abbrev pub surface_of : Place → Surface
surface_of place = surface_with place.frame place.width place.height
