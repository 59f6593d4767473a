-- Playing a file whose certificate was accepted.
use Rattle.std.specs.Prelude.{ℕ, List}
use Rattle.canvas.specs.CanvasState.{CanvasState, image_of}
use Rattle.meta_headers.specs.File.{IsOpenedFrom}
use Rattle.preflight_cert.specs.Run.{Run, RunWrites, shown}
use Rattle.preflight_cert.specs.declared.cleared.Cleared.{Cleared}

-- the canvas shows the image that the file's run makes from the old image
abbrev pub LeavesRun : Cleared → CanvasState → CanvasState → Type 0
LeavesRun cleared old new = (file : List ℕ) → IsOpenedFrom file cleared.opened → Run cleared.opened.rules file old.width old.rows (image_of old) (shown (image_of new))

-- the file's run writes this number of pixels at this size
abbrev pub AreClearedWrites : Cleared → ℕ → ℕ → ℕ → Type 0
AreClearedWrites cleared width height writes = (file : List ℕ) → IsOpenedFrom file cleared.opened → RunWrites cleared.opened.rules file width height writes
