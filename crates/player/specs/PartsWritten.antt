-- Parts of a text, sent to a writer.
use Rattle.std.specs.Prelude.{ℕ, List, Option}
use Rattle.std.specs.Io.KnownBytes.{Appends}
use Rattle.canvas.specs.Ppm.{AppendsPrefix}

module _ {W : Type 0} where
  -- a text was written to a writer with these contents
  abbrev pub SendsText : (W → Option (List ℕ)) → W → W → List ℕ → Type 0
  SendsText contents old new text = Appends (contents old) (contents new) text

  -- a prefix of a text was written to a writer with these contents
  abbrev pub SendsPrefix : (W → Option (List ℕ)) → W → W → List ℕ → Type 0
  SendsPrefix contents old new text = AppendsPrefix (contents old) (contents new) text
