-- Items that a list has one for each index.
use Rattle.std.proofs.Common.{◌≡◌, ℕ, ◌<◌, map, get_or, sym, arith}
use Rattle.std.specs.List.{range_with_len}
use Rattle.std.proofs.lemmas.List.FromFn.{get_or-map-range_with_len}

-- the item at an index is the one that is made for it
pub item_at : {X : Type 0} (f : ℕ → X) (n i : ℕ) (d : X) → i < n → f i ≡ get_or (map f (range_with_len 0 n)) i d
item_at f n i d inside = sym (get_or-map-range_with_len f 0 n i i d inside (omega arith))
