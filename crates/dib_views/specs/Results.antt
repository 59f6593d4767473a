-- Results made from others.
use Rattle.std.specs.Prelude.{Result, Ok, Err}

-- the value changed by f, or the same error
abbrev pub result_map : {T U E : Type 0} → (T → U) → Result T E → Result U E
result_map f (Ok x) = Ok (f x)
result_map f (Err e) = Err e
