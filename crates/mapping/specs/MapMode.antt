-- The numbers of the map modes ([MS-WMF] 2.1.1.16).
use Rattle.std.specs.Prelude.{ℕ, ◌==◌, [], ◌∷◌, Option, find}
use Rattle.mapping.specs.declared.map_mode.MapMode.{MapMode}
use Rattle.mapping.specs.declared.map_mode.MapMode.TheVariants.{Text, Isotropic, Anisotropic}

-- a map mode's number
abbrev pub map_mode_code : MapMode → ℕ
map_mode_code Text = 1
map_mode_code Isotropic = 7
map_mode_code Anisotropic = 8

-- the supported map mode with this number
abbrev pub map_mode_of : ℕ → Option MapMode
map_mode_of code = find (λ mode. map_mode_code mode == code) (Text ∷ Isotropic ∷ Anisotropic ∷ [])
