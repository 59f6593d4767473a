-- What is written to standard error.
use Rattle.std.specs.Prelude.{ℕ, List, ◌++◌, Option, Result, Ok, Err, codes, ⊤}
use Rattle.std.specs.Io.KnownBytes.{Appends, Keeps}
use Rattle.canvas.specs.Ppm.{AppendsPrefix}
use Rattle.canvas.specs.declared.canvas_error.WriteFault.{WriteFault}

-- the line for a message: the program's name, the message and a line feed
abbrev pub program_line : List ℕ → List ℕ
program_line text = codes "metaplay: " ++ text ++ codes "\n"

-- whether the message was written in full, or the writer failed
abbrev pub Printed : Type 0
Printed = Result ⊤ WriteFault

-- the line for a message was written, or a prefix of it if the writer failed
abbrev pub Reports : Printed → Option (List ℕ) → Option (List ℕ) → List ℕ → Type 0
Reports (Ok _) old new text = Appends old new (program_line text)
Reports (Err _) old new text = AppendsPrefix old new (program_line text)

-- nothing was written, so no writer failed
abbrev pub PrintsNothing : Printed → Option (List ℕ) → Option (List ℕ) → Type 0
PrintsNothing (Ok _) old new = Keeps old new
PrintsNothing (Err _) old new = ⊥
