-- The codes of settings.
use Rattle.std.specs.Prelude.{ℕ, ◌==◌, [], ◌∷◌, Option, find}
use Rattle.draw_ops.specs.declared.settings.BackgroundMode.{BackgroundMode}
use Rattle.draw_ops.specs.declared.settings.BackgroundMode.TheVariants.{Transparent, Opaque}
use Rattle.draw_ops.specs.declared.settings.FillMode.{FillMode}
use Rattle.draw_ops.specs.declared.settings.FillMode.TheVariants.{Alternate, Winding}

-- a background mode's code
abbrev pub background_mode_code : BackgroundMode → ℕ
background_mode_code Transparent = 1
background_mode_code Opaque = 2

-- the background mode with this code
abbrev pub background_mode_of : ℕ → Option BackgroundMode
background_mode_of code = find (λ mode. background_mode_code mode == code) (Transparent ∷ Opaque ∷ [])

-- a fill mode's code
abbrev pub fill_mode_code : FillMode → ℕ
fill_mode_code Alternate = 1
fill_mode_code Winding = 2

-- the fill mode with this code
abbrev pub fill_mode_of : ℕ → Option FillMode
fill_mode_of code = find (λ mode. fill_mode_code mode == code) (Alternate ∷ Winding ∷ [])
