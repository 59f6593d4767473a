-- What a machine stores fits its surface.
use Rattle.std.specs.Prelude.{List}
use Rattle.mapping.specs.Surface.{Surface}
use Rattle.dc_stack.specs.GatheredPath.{IsGathered, LandsInside}
use Rattle.dc_stack.specs.Values.{ArePlacedOn}
use Rattle.dc_stack.specs.declared.dc.Dc.{Dc}
use Rattle.dc_stack.specs.declared.path.GatheredPath.{GatheredPath}

-- clips are placed on the surface, and the path's points land on it
pub record FitsSurface (s : Surface) (dc : Dc) (before : List Dc) (path : GatheredPath) : Type 0 where
  pub clips : ArePlacedOn s dc before
  pub gathered : IsGathered path
  pub points : LandsInside s path
