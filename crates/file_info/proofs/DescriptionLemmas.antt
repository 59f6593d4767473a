-- Code units: those that are read one by one, and those that are left without the zeros at the end.
use Rattle.std.proofs.Common.{◌≡◌, ◌∙◌, ℕ, zero, suc, ◌+◌, ◌-◌, ◌*◌, List, [], ◌∷◌, ◌++◌, Option, Some, None, drop, length, option_to_list, slice_get, unwrap_or, refl, sym, ap, arith}
use Rattle.std.proofs.lemmas.List.{append-nil, drop-drop}
use Rattle.point_views.specs.Counts.{counts_in}
use Rattle.point_views.specs.Numbers.{number_at}
use Rattle.point_views.specs.declared.numbers.NumberWidth.TheVariants.{Short}
use Rattle.file_info.specs.Description.{before_last_zeros, without_last_zeros}

-- the code unit at a place, and those after it
pub next_unit : (left place : ℕ) (bytes : List ℕ) → counts_in Short (suc left) (drop (2 * place) bytes) ≡ number_at bytes (2 * place) 2 ∷ counts_in Short left (drop (2 * (place + 1)) bytes)
next_unit left place bytes =
    let rest : drop 2 (drop (2 * place) bytes) ≡ drop (2 * (place + 1)) bytes = drop-drop 2 (2 * place) bytes ∙ ap (λ n. drop n bytes) (omega arith) in
    ap (λ b. number_at bytes (2 * place) 2 ∷ counts_in Short left b) rest

-- a zero more at the end changes nothing
one_zero_more : (units : List ℕ) → without_last_zeros (units ++ 0 ∷ []) ≡ without_last_zeros units
one_zero_more [] = refl
one_zero_more (unit ∷ units) = ap (before_last_zeros unit) (one_zero_more units)

-- the last of two and more is the last of those after the first
last_after : (first next : ℕ) (units : List ℕ) → slice_get (first ∷ next ∷ units) (length (first ∷ next ∷ units) - 1) ≡ slice_get (next ∷ units) (length (next ∷ units) - 1)
last_after first next units =
    let all : length (first ∷ next ∷ units) - 1 ≡ suc (length units) = omega arith in
    let after : length units ≡ length (next ∷ units) - 1 = omega arith in
    ap (slice_get (first ∷ next ∷ units)) all ∙ ap (slice_get (next ∷ units)) after

-- the last of some code units
last_of : (units : List ℕ) (unit : ℕ) → slice_get (units ++ unit ∷ []) (length (units ++ unit ∷ []) - 1) ≡ Some unit
last_of [] unit = refl
last_of (first ∷ []) unit = refl
last_of (first ∷ next ∷ units) unit = last_after first next (units ++ unit ∷ []) ∙ last_of (next ∷ units) unit

-- nothing changes where a last zero goes
pub without_one : (units left : List ℕ) (gone : Option ℕ) → units ≡ left ++ option_to_list gone → slice_get units (length units - 1) ≡ Some 0
    → without_last_zeros left ≡ without_last_zeros units
without_one units left None is last = ap without_last_zeros (sym (is ∙ append-nil left))
without_one units left (Some unit) is last =
    let same : Some unit ≡ Some 0 = sym (last_of left unit) ∙ (ap (λ all. slice_get all (length all - 1)) (sym is) ∙ last) in
    let zero_last : units ≡ left ++ 0 ∷ [] = is ∙ ap (λ u. left ++ u ∷ []) (ap (λ o. unwrap_or o 0) same) in
    sym (ap without_last_zeros zero_last ∙ one_zero_more left)

-- where the last isn't zero, nothing is left out
pub other_last : (units : List ℕ) → (slice_get units (length units - 1) ≡ Some 0 → ⊥) → without_last_zeros units ≡ units
other_last [] other = refl
other_last (zero ∷ []) other = absurd (other refl)
other_last (suc unit ∷ []) other = refl
other_last (zero ∷ next ∷ units) other = ap (before_last_zeros zero) (other_last (next ∷ units) (λ last. other (last_after _ next units ∙ last)))
other_last (suc unit ∷ next ∷ units) other = ap (before_last_zeros (suc unit)) (other_last (next ∷ units) (λ last. other (last_after _ next units ∙ last)))
