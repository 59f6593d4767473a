-- Colours part by part.
use Rattle.std.proofs.Common.{◌≡◌, ℕ, ap, ◌∙◌}
use Rattle.mapping.specs.declared.geometry.Colour.{Colour}

abbrev colour : ℕ → ℕ → ℕ → Colour
colour r g b = record { r = r; g = g; b = b }

-- colours with the same parts are the same
pub same_parts : (a b : Colour) → a.r ≡ b.r → a.g ≡ b.g → a.b ≡ b.b → a ≡ b
same_parts a b e f g = ap (λ r. colour r a.g a.b) e ∙ ap (λ n. colour b.r n a.b) f ∙ ap (λ n. colour b.r b.g n) g
