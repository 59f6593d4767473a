-- A list divided into consecutive lists.
use Rattle.std.specs.Prelude.{ℕ, List, [], ◌∷◌, take, drop}

-- the lists with these lengths, in order
abbrev pub split_by : {A : Type 0} → List ℕ → List A → List (List A)
split_by [] items = []
split_by (count ∷ counts) items = take count items ∷ split_by counts (drop count items)
