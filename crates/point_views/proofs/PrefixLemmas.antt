-- Numbers in a front of some bytes.
use Rattle.std.proofs.Common.{◌≡◌, ℕ, zero, suc, ◌+◌, ◌<◌, List, take, drop, slice_index, refl, sym, ◌∙◌, arith}
use Rattle.std.proofs.lemmas.List.{get_or-drop, get_or-take}
use Rattle.byteorder.specs.Endian.{little_from}
use Rattle.point_views.specs.NumberLaws.{ReadsWithinPrefix}

-- bytes that are the same spell the same number
little_same : (n i : ℕ) (xs ys : List ℕ) → ((k : ℕ) → k < i + n → slice_index xs k ≡ slice_index ys k) → little_from i n xs ≡ little_from i n ys
little_same zero i xs ys h = refl
little_same (suc n) i xs ys h = rw (h i (omega arith), little_same n (suc i) xs ys (λ k low. h k (omega arith))) refl

pub reads_within_prefix : ReadsWithinPrefix
reads_within_prefix bytes place size n fits =
    little_same size 0 (drop place (take n bytes)) (drop place bytes)
    (λ k low. get_or-drop place (take n bytes) k 0 ∙ get_or-take n bytes (place + k) 0 (omega arith) ∙ sym (get_or-drop place bytes k 0))
