-- The sides that fit a file's frame.
use Rattle.std.specs.Prelude.{ℕ, List, Result, Err, if◌then◌else◌}
use Rattle.draw_ops.specs.Results.{result_map}
use Rattle.draw_ops.specs.declared.fault.Fault.{Fault}
use Rattle.draw_ops.specs.declared.fault.Fault.TheVariants.{BadBound}
use Rattle.meta_headers.specs.Headers.{OpenedValue}
use Rattle.meta_headers.specs.Opening.{opened}
use Rattle.preflight_cert.specs.Preparation.{is_bound}
use Rattle.proportions.specs.Fitting.{fitted_height, fitted_width}
use Rattle.proportions.specs.declared.fitting.Sides.{Sides}

-- the largest sides within a width and a height that have the proportion of an opened file's frame
abbrev pub fitted_to : ℕ → ℕ → OpenedValue → Sides
fitted_to width height o = record {
  width = fitted_width o.frame_width o.frame_height width height;
  height = fitted_height o.frame_width o.frame_height width height;
}

-- The largest sides within a width and a height that have the proportion of a file's frame, unless the size isn't valid
-- or the file doesn't open.
abbrev pub fitted_result : List ℕ → ℕ → ℕ → Result Sides Fault
fitted_result file width height = if is_bound width height then result_map (fitted_to width height) (opened file) else Err BadBound
