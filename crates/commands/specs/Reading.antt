-- What reading an input returns.
use Rattle.std.specs.Prelude.{ℕ, List, Option}
use Rattle.std.specs.Io.KnownBytes.{Consumes}

-- the longest input, in bytes
unfoldable pub input_limit : ℕ
input_limit = 268435456

-- a prefix of the known bytes was consumed
pub record ConsumesPrefix (old new : Option (List ℕ)) : Type 0 where
  pub prefix : List ℕ
  pub consumed : Consumes old new prefix
