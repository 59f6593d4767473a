-- A number and a point read no byte after their own.
use Rattle.std.proofs.Common.{◌≡◌, ℕ, ◌-◌, ◌≤◌, List, take, drop, ap, ◌∙◌, arith, refl}
use Rattle.std.specs.Int.{w16, w32, cast_signed}
use Rattle.std.proofs.lemmas.List.{drop-take}
use Rattle.byteorder.specs.Numbers.{little_from-take}
use Rattle.point_views.specs.Numbers.{number_size, point_size, unsigned_number, signed_number, first_point}
use Rattle.point_views.specs.declared.numbers.NumberWidth.{NumberWidth}
use Rattle.point_views.specs.declared.numbers.NumberWidth.TheVariants.{Short, Long}
use Rattle.point_views.proofs.ItemLemmas.{IsLocal}

unsigned_number-take : (width : NumberWidth) (m : ℕ) (bytes : List ℕ) → number_size width ≤ m → unsigned_number width (take m bytes) ≡ unsigned_number width bytes
unsigned_number-take width m bytes inside = little_from-take 0 (number_size width) m bytes (omega arith)

signed_number-take : (width : NumberWidth) (m : ℕ) (bytes : List ℕ) → number_size width ≤ m → signed_number width (take m bytes) ≡ signed_number width bytes
signed_number-take Short m bytes inside = ap (cast_signed w16) (unsigned_number-take Short m bytes inside)
signed_number-take Long m bytes inside = ap (cast_signed w32) (unsigned_number-take Long m bytes inside)

first_point-take : (width : NumberWidth) (m : ℕ) (bytes : List ℕ) → point_size width ≤ m → first_point width (take m bytes) ≡ first_point width bytes
first_point-take width m bytes inside =
    let size = number_size width in
    let x = signed_number-take width m bytes (omega arith) in
    let moved : drop size (take m bytes) ≡ take (m - size) (drop size bytes) =
    ap (λ k. drop size (take k bytes)) (omega arith) ∙ drop-take size (m - size) bytes in
    let y = signed_number-take width (m - size) (drop size bytes) (omega arith) in
    rw (x, moved, y) refl

pub IsLocal-unsigned_number : (width : NumberWidth) → IsLocal (unsigned_number width) (number_size width)
IsLocal-unsigned_number width = record { reads = unsigned_number-take width }

pub IsLocal-first_point : (width : NumberWidth) → IsLocal (first_point width) (point_size width)
IsLocal-first_point width = record { reads = first_point-take width }
