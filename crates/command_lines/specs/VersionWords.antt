-- Command lines that ask for the program's version.
use Rattle.std.specs.Prelude.{◌≡◌, ◌⊎◌, [], ◌∷◌, List, codes}
use Rattle.clap.specs.Words.{Text}

-- the program's name, and `--version` or `-V`
pub record AreVersionWords (words : List Text) : Type 0 where
  pub program : Text
  pub word : Text
  pub are : words ≡ program ∷ word ∷ []
  pub asks : (word ≡ codes "--version") ⊎ (word ≡ codes "-V")
