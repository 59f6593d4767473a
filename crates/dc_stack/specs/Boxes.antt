-- Points of the plane on a surface.
use Rattle.std.specs.Prelude.{List, map}
use Rattle.mapping.specs.Surface.{Surface, placed_point}
use Rattle.mapping.specs.declared.geometry.Point.{Point}

-- points of the plane, on a surface
abbrev pub placed_list : Surface → List Point → List Point
placed_list s points = map (λ point. placed_point point s) points
