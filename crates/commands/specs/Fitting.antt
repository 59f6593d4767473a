-- The size of the surface that a command line asks for.
use Rattle.std.specs.Prelude.{ℕ, Bool, Result, Ok, Err, true, false}
use Rattle.draw_ops.specs.declared.fault.Fault.{Fault}
use Rattle.meta_headers.specs.Headers.{OpenedValue}
use Rattle.proportions.specs.Fitting.{fitted_height, fitted_width}

-- The width and the height of the surface, by what opening the file gives: the given ones, or if the frame's proportion
-- is asked for, those of the largest surface within them that has it.
abbrev pub asked_width : Bool → Result OpenedValue Fault → ℕ → ℕ → ℕ
asked_width true (Ok o) width height = fitted_width o.frame_width o.frame_height width height
asked_width true (Err fault) width height = width
asked_width false opening width height = width

abbrev pub asked_height : Bool → Result OpenedValue Fault → ℕ → ℕ → ℕ
asked_height true (Ok o) width height = fitted_height o.frame_width o.frame_height width height
asked_height true (Err fault) width height = height
asked_height false opening width height = height
