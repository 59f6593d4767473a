-- How many points pieces have, one piece after another.
use Rattle.std.proofs.Common.{◌≡◌, ℕ, zero, suc, ◌+◌, ◌<◌, ◌≤◌, List, [], ◌∷◌, length, take, arith, ap, slice_index_or}
use Rattle.std.proofs.lemmas.List.{length-append, take_all}
use Rattle.std.specs.List.{flat_map}
use Rattle.dc_stack.specs.GatheredPath.{gathered_points}
use Rattle.dc_stack.specs.declared.piece.Piece.{Piece}
use Rattle.dc_stack.proofs.FigureLemmas.{plane_points, points_gathered}

-- how many points the first pieces have
abbrev pub first_count : List Piece → ℕ → ℕ
first_count pieces i = length (flat_map plane_points (take i pieces))

-- one piece more has its points more
pub one_more_counted : (pieces : List Piece) (i : ℕ) (d : Piece) → i < length pieces → first_count pieces (suc i) ≡ first_count pieces i + length (plane_points (slice_index_or pieces i d))
one_more_counted [] i d h = absurd (omega arith)
one_more_counted (piece ∷ pieces) zero d h = let all = length-append (plane_points piece) [] in omega (arith, all)
one_more_counted (piece ∷ pieces) (suc i) d h =
    let rest = one_more_counted pieces i d (omega (arith, h)) in
    let before = length-append (plane_points piece) (flat_map plane_points (take i pieces)) in
    let after = length-append (plane_points piece) (flat_map plane_points (take (suc i) pieces)) in
    omega (arith, rest, before, after)

-- the first are no more than all
pub counted_in_all : (pieces : List Piece) (i : ℕ) → first_count pieces i ≤ length (flat_map plane_points pieces)
counted_in_all pieces zero = omega arith
counted_in_all [] (suc i) = omega arith
counted_in_all (piece ∷ pieces) (suc i) =
    let rest = counted_in_all pieces i in
    let some = length-append (plane_points piece) (flat_map plane_points (take i pieces)) in
    let all = length-append (plane_points piece) (flat_map plane_points pieces) in
    omega (arith, rest, some, all)

-- and with the last of them they are all
pub all_counted : (pieces : List Piece) (i : ℕ) → length pieces ≤ i → first_count pieces i ≡ length (flat_map plane_points pieces)
all_counted pieces i h = ap (λ (ps : List Piece). length (flat_map plane_points ps)) (take_all i pieces h)

pub gathered_count : (pieces : List Piece) → length (gathered_points pieces) ≡ length (flat_map plane_points pieces)
gathered_count pieces = ap length (points_gathered pieces)
