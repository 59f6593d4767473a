-- Consecutive counts, and the counts of a view.
use Rattle.std.specs.Prelude.{ℕ, zero, suc, ◌/◌, List, [], ◌∷◌, length, drop}
use Rattle.point_views.specs.Numbers.{number_size, unsigned_number}
use Rattle.point_views.specs.declared.numbers.NumberWidth.{NumberWidth}
use Rattle.point_views.specs.declared.counts.Counts.{Counts}

-- the first n counts in the bytes
abbrev pub counts_in : NumberWidth → ℕ → List ℕ → List ℕ
counts_in width zero bytes = []
counts_in width (suc n) bytes = unsigned_number width bytes ∷ counts_in width n (drop (number_size width) bytes)

-- all counts that the bytes contain
abbrev pub all_counts_in : NumberWidth → List ℕ → List ℕ
all_counts_in width bytes = counts_in width (length bytes / number_size width) bytes

-- the counts of a view: all that its bytes contain
abbrev pub counts_of : Counts → List ℕ
counts_of counts = all_counts_in counts.width counts.bytes.now
