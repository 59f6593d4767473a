-- Texts that fit, and their lengths.
use Rattle.std.proofs.Common.{◌≡◌, ◌≤◌, List, length, refl, ℕ}
use Rattle.std.proofs.lemmas.Bool.{le-leb}
use Rattle.std.specs.Fmt.Cut.{cut_to}

-- a text that fits isn't cut
pub whole : (capacity : ℕ) (text : List ℕ) → length text ≤ capacity → cut_to capacity text ≡ text
unfolding cut_to
whole capacity text fits = rw (le-leb (length text) capacity fits) refl
