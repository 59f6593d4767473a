-- A list cut into lists: how many, and where the list at an index stands.
use Rattle.std.proofs.Common.{◌≡◌, ℕ, zero, suc, ◌+◌, ◌-◌, ◌≤◌, List, [], ◌∷◌, ◌++◌, map, length, take, drop, sum, refl, sym, ap, ◌∙◌, arith, Some}
use Rattle.std.specs.List.{slice_get, slice_range, flat_map}
use Rattle.std.proofs.lemmas.List.{drop-drop, length-take, length-take-le, length-drop, nil_from_length, take-append-drop, take_all}
use Rattle.std.proofs.lemmas.List.Sums.{sum_by-cons, sum_by_more, sum_by_more_le}
use Rattle.std.proofs.lemmas.Option.{same_Some, slice_get_within, get_or_from_slice_get}
use Rattle.point_views.specs.Split.{split_by}

pub length-split_by : {A : Type 0} (counts : List ℕ) (items : List A) → length (split_by counts items) ≡ length counts
length-split_by [] items = refl
length-split_by (count ∷ counts) items = ap suc (length-split_by counts (drop count items))

-- the list at an index begins after those before it
pub slice_get-split_by : {A : Type 0} (counts : List ℕ) (items : List A) (k count : ℕ) → slice_get counts k ≡ Some count → slice_get (split_by counts items) k ≡ Some (take count (drop (sum (take k counts)) items))
slice_get-split_by [] items k count at_k = cc
slice_get-split_by (first ∷ counts) items zero count at_k = ap (λ n. Some (take n items)) (same_Some first count at_k)
slice_get-split_by (first ∷ counts) items (suc k) count at_k =
    let rest = slice_get-split_by counts (drop first items) k count at_k in
    let place : drop (sum (take k counts)) (drop first items) ≡ drop (sum (first ∷ take k counts)) items =
    drop-drop (sum (take k counts)) first items ∙ ap (λ n. drop n items) (sym (sum_by-cons (λ x. x) first (take k counts))) in
    rest ∙ ap (λ part. Some (take count part)) place

-- the sum of the counts before an index, and the count there
pub sum_next : (counts : List ℕ) (k count : ℕ) → slice_get counts k ≡ Some count → sum (take (k + 1) counts) ≡ sum (take k counts) + count
sum_next counts k count at_k =
    sum_by_more (λ x. x) counts k 0 (slice_get_within counts k count at_k) ∙ ap (λ n. sum (take k counts) + n) (get_or_from_slice_get counts k count 0 at_k)

pub sum_next_within : (counts : List ℕ) (k count : ℕ) → slice_get counts k ≡ Some count → sum (take k counts) + count ≤ sum counts
sum_next_within counts k count at_k =
    let next = sum_by_more_le (λ x. x) counts k 0 (slice_get_within counts k count at_k) in
    let here = get_or_from_slice_get counts k count 0 at_k in
    omega (arith, next, here)

-- the first count, and the counts after it
sum_after_first : (counts : List ℕ) (first : ℕ) → slice_get counts 0 ≡ Some first → sum counts ≡ first + sum (drop 1 counts)
sum_after_first [] first at_0 = cc
sum_after_first (count ∷ counts) first at_0 = sum_by-cons (λ x. x) count counts ∙ ap (λ n. n + sum counts) (same_Some count first at_0)

-- the first list, and the lists that the counts after the first cut from the items after it
pub split_by-first : {A : Type 0} (counts : List ℕ) (items : List A) (first end : ℕ) → slice_get counts 0 ≡ Some first → end ≡ length items → split_by counts items ≡ slice_range items 0 first ∷ split_by (drop 1 counts) (slice_range items first end)
split_by-first [] items first end at_0 ends = cc
split_by-first (count ∷ counts) items first end at_0 ends =
    let same = same_Some count first at_0 in
    let whole = take_all (end - first) (drop first items) (simp length-drop (omega (arith, ends))) in
    let start : first ≡ first - 0 = omega arith in
    rw (same, whole) (ap (λ n. take n items ∷ split_by counts (drop first items)) start)

-- the counts after the first add up to the items after the first list
pub sum_of_rest : {A : Type 0} (counts : List ℕ) (items : List A) (first end : ℕ) → slice_get counts 0 ≡ Some first → end ≡ length items → sum counts ≡ length items → sum (drop 1 counts) ≡ length (slice_range items first end)
sum_of_rest counts items first end at_0 ends complete =
    let after = sum_after_first counts first at_0 in
    simp (length-take, length-drop) (omega (arith, after))

-- the counts after the first are those of the items after the first list
fits_rest : {A : Type 0} (count : ℕ) (counts : List ℕ) (items : List A) → sum (count ∷ counts) ≡ length items → (count ≤ length items) × (sum counts ≡ length (drop count items))
fits_rest count counts items complete =
    let whole : count + sum counts ≡ length items = sym (sum_by-cons (λ x. x) count counts) ∙ complete in
    (omega (arith, whole), simp length-drop (omega (arith, whole)))

-- each list is as long as its count
pub map-split_by : {A : Type 0} (counts : List ℕ) (items : List A) → sum counts ≡ length items → map length (split_by counts items) ≡ counts
map-split_by [] items complete = refl
map-split_by (count ∷ counts) items complete =
    let fits = fits_rest count counts items complete in
    let first = length-take-le count items fits.0 in
    let rest = map-split_by counts (drop count items) fits.1 in
    rw (first, rest) refl

-- the lists, one after another, are the items
pub flat_map-split_by : {A : Type 0} (counts : List ℕ) (items : List A) → sum counts ≡ length items → flat_map (λ list. list) (split_by counts items) ≡ items
flat_map-split_by [] items complete = sym (nil_from_length items (sym complete))
flat_map-split_by (count ∷ counts) items complete =
    let fits = fits_rest count counts items complete in
    ap (λ rest. take count items ++ rest) (flat_map-split_by counts (drop count items) fits.1) ∙ take-append-drop count items

-- what the tactics take to the number of lists
pub ruleset splits = (length-split_by, slice_get-split_by)

-- and to a sum of the first counts
pub ruleset sums = (sum_next, sum_next_within)

-- and to what the lists are as a whole
pub ruleset wholes = (map-split_by, flat_map-split_by)
