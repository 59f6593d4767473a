-- The names and the bytes of inputs.
use Rattle.std.specs.Prelude.{◌≡◌, ℕ, List, Option, Some, None, IfSome, codes}
use Rattle.clap.specs.Words.{Text}
use Rattle.command_lines.specs.declared.asked.CommandLine.{CommandLine}
use Rattle.command_lines.specs.declared.asked.CommandLine.TheVariants.{Check, Over, Play}

-- the word that stands for standard input
abbrev pub standard_input : List ℕ
standard_input = codes "stdin"

-- if the name is `stdin` and the bytes of standard input are known, these are the bytes; a named file can have any
-- bytes
abbrev pub IsInput : List ℕ → Option (List ℕ) → List ℕ → Type 0
IsInput name input bytes = name ≡ standard_input → IfSome input (λ all. bytes ≡ all)

-- the name of the certificate on the command line, if there is one
abbrev pub certificate_name : CommandLine → Option Text
certificate_name (Check file certificate) = Some certificate.now
certificate_name (Play file certificate width height bands fit) = Some certificate.now
certificate_name (Over file certificate image) = Some certificate.now
certificate_name line = None

-- the name of the image on the command line, if there is one
abbrev pub image_name : CommandLine → Option Text
image_name (Over file certificate image) = Some image.now
image_name line = None
