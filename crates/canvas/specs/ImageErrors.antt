-- The names of errors on reading an image.
use Rattle.std.specs.Prelude.{ℕ, List, codes}
use Rattle.canvas.specs.declared.canvas_error.ImageError.{ImageError}
use Rattle.canvas.specs.declared.canvas_error.ImageError.TheVariants.{BadImage, OutOfMemory}

-- the name, as it is displayed
abbrev pub name_of : ImageError → List ℕ
name_of BadImage = codes "BadImage"
name_of OutOfMemory = codes "OutOfMemory"
