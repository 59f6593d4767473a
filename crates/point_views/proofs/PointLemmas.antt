-- Points in bytes: how many, the point at an index, and a part of them.
use Rattle.std.proofs.Common.{◌≡◌, ℕ, zero, suc, ◌-◌, ◌*◌, ◌/◌, ◌<◌, ◌≤◌, List, ◌∷◌, length, take, drop, ap, arith, refl, Some}
use Rattle.std.specs.List.{slice_get, slice_range}
use Rattle.std.proofs.lemmas.List.{length-drop}
use Rattle.std.proofs.Math.Nat.{mul-sub}
use Rattle.point_views.specs.Numbers.{point_size, first_point}
use Rattle.point_views.specs.Points.{points_in}
use Rattle.point_views.specs.declared.numbers.NumberWidth.{NumberWidth}
use Rattle.point_views.specs.declared.numbers.NumberWidth.TheVariants.{Short, Long}
use Rattle.point_views.proofs.ItemLemmas.{items_in, length-items_in, slice_get-items_in, items_in-take, items_in-slice_range, items_taken}
use Rattle.point_views.proofs.NumberLemmas.{IsLocal-first_point}

-- points are items
points_in-items : (width : NumberWidth) (n : ℕ) (bytes : List ℕ) → points_in width n bytes ≡ items_in (first_point width) (point_size width) n bytes
points_in-items width zero bytes = refl
points_in-items width (suc n) bytes = ap (λ rest. first_point width bytes ∷ rest) (points_in-items width n (drop (point_size width) bytes))

pub length-points_in : (width : NumberWidth) (n : ℕ) (bytes : List ℕ) → length (points_in width n bytes) ≡ n
length-points_in width n bytes = rw (points_in-items width n bytes) (length-items_in _ _ n bytes)

pub slice_get-points_in : (width : NumberWidth) (n i : ℕ) (bytes : List ℕ) → i < n → slice_get (points_in width n bytes) i ≡ Some (first_point width (drop (point_size width * i) bytes))
slice_get-points_in width n i bytes inside = rw (points_in-items width n bytes) (slice_get-items_in (first_point width) (point_size width) n i bytes inside)

-- n points read no byte after theirs
pub points_in-take : (width : NumberWidth) (n end : ℕ) (bytes : List ℕ) → end ≡ point_size width * n → points_in width n (take end bytes) ≡ points_in width n bytes
points_in-take width n end bytes ends =
    rw (points_in-items width n (take end bytes), points_in-items width n bytes) (items_in-take (first_point width) (point_size width) n end bytes (IsLocal-first_point width) (omega (arith, ends)))

-- the points in a part of the bytes are a part of the points
pub points_in-slice_range : (width : NumberWidth) (n from to start end : ℕ) (bytes : List ℕ) → from ≤ to → to ≤ n → start ≡ point_size width * from → end ≡ point_size width * to → points_in width (to - from) (slice_range bytes start end) ≡ slice_range (points_in width n bytes) from to
points_in-slice_range width n from to start end bytes order within starts ends =
    rw (points_in-items width (to - from) (slice_range bytes start end), points_in-items width n bytes) (items_in-slice_range (first_point width) (point_size width) n from to start end bytes (IsLocal-first_point width) order within starts ends)

-- the bytes of n points hold n points
some_size : (width : NumberWidth) → 0 < point_size width
some_size Short = omega arith
some_size Long = omega arith

pub points_in-taken : (width : NumberWidth) (n end : ℕ) (bytes : List ℕ) → end ≡ point_size width * n → end ≤ length bytes → points_in width (length (take end bytes) / point_size width) (take end bytes) ≡ points_in width n bytes
points_in-taken width n end bytes ends within =
    let count = items_taken (point_size width) n end bytes (some_size width) ends within in rw count (points_in-take width n end bytes ends)

-- and those of a part hold that part
pub points_in-part : (width : NumberWidth) (n from to start end : ℕ) (bytes : List ℕ) → from ≤ to → to ≤ n → start ≡ point_size width * from → end ≡ point_size width * to → end ≤ length bytes → points_in width (length (slice_range bytes start end) / point_size width) (slice_range bytes start end) ≡ slice_range (points_in width n bytes) from to
points_in-part width n from to start end bytes order within starts ends inside =
    let part : end - start ≡ point_size width * (to - from) = rw (starts, ends, mul-sub (point_size width) to from) refl in
    let enough : end - start ≤ length (drop start bytes) = simp length-drop (omega arith) in
    let count = items_taken (point_size width) (to - from) (end - start) (drop start bytes) (some_size width) part enough in
    rw count (points_in-slice_range width n from to start end bytes order within starts ends)

-- what the tactics take to a view's length and its point at an index
pub ruleset points = (length-points_in, slice_get-points_in, points_in-take, points_in-slice_range)
