-- Texts that are put one behind another.
use Rattle.std.proofs.Common.{◌≡◌, ℕ, List, ◌++◌, ap, ◌∙◌}
use Rattle.std.proofs.lemmas.List.{append_assoc}

-- a text behind another is both
pub joined : (old first second : List ℕ) {mid new : List ℕ} → mid ≡ old ++ first → new ≡ mid ++ second → new ≡ old ++ (first ++ second)
joined old first second p q = q ∙ ap (λ (text : List ℕ). text ++ second) p ∙ append_assoc old first second
