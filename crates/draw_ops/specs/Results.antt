-- Results made from others.
use Rattle.std.specs.Prelude.{Option, Some, None, Result, Err}
pub use Rattle.dib_views.specs.Results.{result_map}

-- an error, if there is one, otherwise the result
abbrev pub result_unless : {T E : Type 0} → Option E → Result T E → Result T E
result_unless None result = result
result_unless (Some error) result = Err error
