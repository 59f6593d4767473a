-- Maps by their axes.
use Rattle.std.proofs.Common.{◌≡◌, Bool, true, false, if◌then◌else◌, ap, refl, ◌∙◌}
use Rattle.mapping.specs.Plane.{AxisNumbers, MapNumbers}
use Rattle.mapping.specs.declared.map_mode.MapMode.{MapMode}

-- a map by its mode and its axes
abbrev pub map_of : MapMode → AxisNumbers → AxisNumbers → MapNumbers
map_of mode x y = record { mode = mode; x = x; y = y }

pub same_map : (mode : MapMode) (x other_x y other_y : AxisNumbers) → x ≡ other_x → y ≡ other_y → map_of mode x y ≡ map_of mode other_x other_y
same_map mode x other_x y other_y e f = ap (λ n. map_of mode n y) e ∙ ap (map_of mode other_x) f

pub chosen : (b : Bool) (p q : MapNumbers) → b ≡ true → p ≡ (if b then p else q)
chosen true p q e = refl
chosen false p q e = absurd (cc e)
