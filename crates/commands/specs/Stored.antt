-- What is stored in a file.
use Rattle.std.specs.Prelude.{◌≡◌, List, ℕ, Option, true}
use Rattle.std.specs.Io.KnownBytes.{Appends}
use Rattle.commands.specs.declared.output.Finish.{Finish}
use Rattle.commands.specs.declared.output.Written.{Written}
use Rattle.commands.specs.declared.output.Written.TheVariants.{Beside, InPlace, New}

-- a new file was flushed after its last byte, was then written to the disk, and then got its name
pub record IsStored (finish : Finish) : Type 0 where
  pub flushed : finish.flushed ≡ true
  pub synced : finish.synced ≡ true
  pub named : finish.named ≡ true

-- all was done with a file: one that is written in place has its name already
abbrev pub IsFinished : Written → Finish → Type 0
IsFinished Beside finish = IsStored finish
IsFinished New finish = IsStored finish
IsFinished InPlace finish = finish.flushed ≡ true

module _ {F : Type 0} where
  -- a text with some property was appended to an open file, and all was done with that file
  pub record Stores (contents : F → Option (List ℕ)) (holds : List ℕ → Type 0) : Type 0 where
    pub opened : F
    pub closed : F
    pub text : List ℕ
    pub fact : holds text
    pub whole : Appends (contents opened) (contents closed) text
    pub written : Written
    pub finish : Finish
    pub finished : IsFinished written finish
