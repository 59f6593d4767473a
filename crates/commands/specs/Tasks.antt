-- The work of a command.
use Rattle.std.specs.Prelude.{ℕ, List}
use Rattle.draw_ops.specs.declared.rules.Rules.{Rules}
use Rattle.commands.specs.declared.playing.AskedSurface.{AskedSurface}

-- a command with the bytes of its inputs (a file, its certificate, an image), the size of its surface, and the rules
-- unless the certificate has them
pub data Task : Type 0 where
  show : Rules → List ℕ → ℕ → ℕ → Task
  prepare : Rules → List ℕ → ℕ → ℕ → Task
  check : List ℕ → List ℕ → Task
  play : List ℕ → List ℕ → ℕ → ℕ → Task
  over : List ℕ → List ℕ → List ℕ → Task
  list : Rules → List ℕ → Task

-- the task of playing on the given surface
abbrev pub asked_play : List ℕ → List ℕ → AskedSurface → Task
asked_play file certificate asked = play file certificate asked.width asked.height
