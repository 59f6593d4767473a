-- Lists whose elements are changed one after another.
use Rattle.std.proofs.Common.{◌≡◌, ℕ, ◌+◌, ◌<◌, List, [], ◌∷◌, ◌++◌, length, get_or, drop, take, map, refl, sym, ap, ◌∙◌, arith}
use Rattle.std.proofs.Math.ListN.{set}
use Rattle.std.proofs.Math.Seq.{take-append_seam}
use Rattle.std.proofs.lemmas.List.{drop-set-lt, drop_more, take_more, take_more_set}

-- what is still to come has the same first element, and the same others
pub first_same : {A : Type 0} (place : ℕ) (d : A) (before now_ : List A) → place < length before → place < length now_ → drop place now_ ≡ drop place before
    → (get_or now_ place d ≡ get_or before place d) × (drop (place + 1) now_ ≡ drop (place + 1) before)
first_same place d before now_ within inside others =
    let a = drop_more now_ place d inside in
    let b = drop_more before place d within in
    let both : get_or now_ place d ∷ drop (place + 1) now_ ≡ get_or before place d ∷ drop (place + 1) before = sym a ∙ others ∙ b in
    (cc both, cc both)

-- elements changed one part after another
changed-append : {A : Type 0} (f : A → A) (xs ys : List A) → map f (xs ++ ys) ≡ map f xs ++ map f ys
changed-append f [] ys = refl
changed-append f (x ∷ xs) ys = ap (λ es. f x ∷ es) (changed-append f xs ys)

-- one element more is changed
pub changed_more : {A : Type 0} (f : A → A) (place : ℕ) (d : A) (before now_ after : List A) → place < length before → length now_ ≡ length before
    → take place now_ ≡ map f (take place before) → drop place now_ ≡ drop place before → after ≡ set now_ place (f (get_or now_ place d))
    → (take (place + 1) after ≡ map f (take (place + 1) before)) × (drop (place + 1) after ≡ drop (place + 1) before)
changed_more f place d before now_ after within len ahead others is =
    let same = first_same place d before now_ within (omega (arith, len, within)) others in
    let one = f (get_or now_ place d) in
    let taken = take_more_set now_ place one (omega (arith, len, within)) in
    let more = ap (map f) (take_more before place d within) ∙ changed-append f (take place before) (get_or before place d ∷ []) in (
      ap (take (place + 1)) is ∙ taken ∙ ap (λ es. es ++ one ∷ []) ahead ∙ ap (λ e. map f (take place before) ++ f e ∷ []) same.0 ∙ sym more,
      ap (drop (place + 1)) is ∙ drop-set-lt (place + 1) now_ place one (omega arith) ∙ same.1,
    )

-- what is written through a slice of a list is the list
pub written_back : {A : Type 0} (slice before : List A) (n : ℕ) → length slice ≡ n → take n (slice ++ drop (length slice) before) ≡ slice
written_back slice before n long = rw (← long) (take-append_seam slice (drop (length slice) before))
