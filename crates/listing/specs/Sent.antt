-- What was sent to a writer with these contents.
use Rattle.std.specs.Prelude.{ℕ, List, Option}
use Rattle.std.specs.Io.KnownBytes.{Appends}
use Rattle.canvas.specs.Ppm.{AppendsPrefix}

module _ {W : Type 0} where
  -- a whole text
  abbrev pub Sends : (W → Option (List ℕ)) → W → W → List ℕ → Type 0
  Sends contents old new text = Appends (contents old) (contents new) text

  -- a prefix of a text
  abbrev pub SendsPrefix : (W → Option (List ℕ)) → W → W → List ℕ → Type 0
  SendsPrefix contents old new text = AppendsPrefix (contents old) (contents new) text
