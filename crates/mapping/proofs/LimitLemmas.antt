-- Limits as facts and as tests.
use Rattle.mapping.specs.Limits.{frame_side_from, frame_side_true, surface_side_from, surface_side_true, within_from, within_true}
use Rattle.mapping.specs.LimitTests.{TestsAreLimits}
use Rattle.mapping.specs.Nibs.{nib_from, nib_true}
use Rattle.mapping.specs.Plane.{on_plane_from, on_plane_true}
use Rattle.mapping.specs.Surface.{lands_from, lands_true}

pub tests_are_limits : TestsAreLimits
tests_are_limits = record {
  within = λ limit v. (within_true limit v, within_from limit v);
  on_plane = λ point. (on_plane_true point, on_plane_from point);
  lands = λ point s. (lands_true point s, lands_from point s);
  surface_side = λ side. (surface_side_true side, surface_side_from side);
  frame_side = λ side. (frame_side_true side, frame_side_from side);
  nib = λ nib. (nib_true nib, nib_from nib);
}
