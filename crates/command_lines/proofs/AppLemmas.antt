-- A command without an argument for other commands still has none after one is added for itself.
use Rattle.std.proofs.Common.{◌≡◌, ◌∙◌, ◌||◌, Bool, false, refl}

pub both_local : (a b x : Bool) → x ≡ (a || b) → a ≡ false → b ≡ false → x ≡ false
both_local a b x e f g = e ∙ rw (f, g) refl
