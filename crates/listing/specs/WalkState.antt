-- The progress of a walk over the records of a file.
use Rattle.std.specs.Prelude.{ℕ, ◌+◌, ◌-◌, ◌<◌, ◌≤◌, ◌^◌, Bool, true, false, List, [], length, None}
use Rattle.draw_ops.specs.Framed.{framed_from}
use Rattle.draw_ops.specs.Records.{Framed, Framing, record_limit}

-- the number and the offset of the next record, and the framing of the bytes from there on
pub record Walk : Type 0 where
  pub number : ℕ
  pub place : ℕ
  pub framed : Framed

-- the framing of the bytes from the record with this number on, or of those after the end record
abbrev pub framed_left : Framing → Bool → ℕ → List ℕ → Framed
framed_left f false number bytes = framed_from f (record_limit - number) number bytes
framed_left f true number bytes = record { records = []; fault = None; after = bytes }

-- the number is within the limit, and the offset of the end is a number of the code
pub record IsWalking (number place : ℕ) (bytes : List ℕ) : Type 0 where
  pub within : number ≤ record_limit
  pub addressed : place + length bytes < 2 ^ 64
