-- Counts in bytes: how many, the count at an index, and those after the first.
use Rattle.std.proofs.Common.{◌≡◌, ℕ, zero, suc, ◌-◌, ◌*◌, ◌/◌, ◌<◌, ◌≤◌, List, ◌∷◌, length, take, drop, ap, sym, arith, refl, Some}
use Rattle.std.specs.List.{slice_get}
use Rattle.point_views.specs.Numbers.{number_size, unsigned_number}
use Rattle.point_views.specs.Counts.{counts_in}
use Rattle.point_views.specs.declared.numbers.NumberWidth.{NumberWidth}
use Rattle.point_views.specs.declared.numbers.NumberWidth.TheVariants.{Short, Long}
use Rattle.point_views.proofs.ItemLemmas.{items_in, length-items_in, slice_get-items_in, items_in-take, drop-items_in, items_taken}
use Rattle.point_views.proofs.NumberLemmas.{IsLocal-unsigned_number}

-- counts are items
counts_in-items : (width : NumberWidth) (n : ℕ) (bytes : List ℕ) → counts_in width n bytes ≡ items_in (unsigned_number width) (number_size width) n bytes
counts_in-items width zero bytes = refl
counts_in-items width (suc n) bytes = ap (λ rest. unsigned_number width bytes ∷ rest) (counts_in-items width n (drop (number_size width) bytes))

pub length-counts_in : (width : NumberWidth) (n : ℕ) (bytes : List ℕ) → length (counts_in width n bytes) ≡ n
length-counts_in width n bytes = rw (counts_in-items width n bytes) (length-items_in _ _ n bytes)

pub slice_get-counts_in : (width : NumberWidth) (n i : ℕ) (bytes : List ℕ) → i < n → slice_get (counts_in width n bytes) i ≡ Some (unsigned_number width (drop (number_size width * i) bytes))
slice_get-counts_in width n i bytes inside = rw (counts_in-items width n bytes) (slice_get-items_in (unsigned_number width) (number_size width) n i bytes inside)

-- n counts read no byte after theirs
pub counts_in-take : (width : NumberWidth) (n end : ℕ) (bytes : List ℕ) → end ≡ number_size width * n → counts_in width n (take end bytes) ≡ counts_in width n bytes
counts_in-take width n end bytes ends =
    rw (counts_in-items width n (take end bytes), counts_in-items width n bytes) (items_in-take (unsigned_number width) (number_size width) n end bytes (IsLocal-unsigned_number width) (omega (arith, ends)))

-- the counts in the bytes after the first count are the counts after it
pub counts_in-after_first : (width : NumberWidth) (n start : ℕ) (bytes : List ℕ) → 0 < n → start ≡ number_size width * 1 → counts_in width (n - 1) (drop start bytes) ≡ drop 1 (counts_in width n bytes)
counts_in-after_first width n start bytes some starts =
    rw (starts, counts_in-items width (n - 1) (drop (number_size width * 1) bytes), counts_in-items width n bytes) (sym (drop-items_in (unsigned_number width) (number_size width) 1 (n - 1) n bytes (omega arith)))

-- the bytes of n counts hold n counts
some_size : (width : NumberWidth) → 0 < number_size width
some_size Short = omega arith
some_size Long = omega arith

pub counts_in-taken : (width : NumberWidth) (n end : ℕ) (bytes : List ℕ) → end ≡ number_size width * n → end ≤ length bytes → counts_in width (length (take end bytes) / number_size width) (take end bytes) ≡ counts_in width n bytes
counts_in-taken width n end bytes ends within =
    let count = items_taken (number_size width) n end bytes (some_size width) ends within in rw count (counts_in-take width n end bytes ends)

-- what the tactics take to a view's length and its count at an index
pub ruleset counts = (length-counts_in, slice_get-counts_in, counts_in-take, counts_in-after_first)
