-- A list in another order, filtered, is the filtered list in another order.
use Rattle.std.proofs.Common.{◌≡◌, ℕ, zero, suc, ◌<◌, Bool, true, false, ◌&&◌, cond, List, [], ◌∷◌, ◌++◌, length, get_or, append_assoc, refl, sym, ap, subst, inl, inr, arith}
use Rattle.std.proofs.Math.ListN.{set}
use Rattle.std.specs.List.{All, filter, swap}
use Rattle.std.specs.List.Sorted.{IsPermutation}
use Rattle.std.proofs.lemmas.Bool.{cases_Bool}
use Rattle.std.proofs.lemmas.List.Edits.{swap_is}
use Rattle.std.proofs.lemmas.List.Elements.{All-head, All-tail}
use Rattle.std.proofs.lemmas.List.Sorted.{IsPermutation-append_comm, IsPermutation-append_left, IsPermutation-append_right, IsPermutation-cons, IsPermutation-keeps, IsPermutation-middle, IsPermutation-refl, IsPermutation-sym, IsPermutation-trans}

-- equal lists
pub IsPermutation-same : {X : Type 0} (xs ys : List X) → xs ≡ ys → IsPermutation xs ys
IsPermutation-same {X} xs ys e = subst (λ (zs : List X). IsPermutation xs zs) e (IsPermutation-refl xs)

-- the first two of three parts exchanged
exchanged : {X : Type 0} (a b c : List X) → IsPermutation (a ++ (b ++ c)) (b ++ (a ++ c))
exchanged a b c =
    IsPermutation-trans _ _ _ (IsPermutation-same _ _ (sym (append_assoc a b c)))
    (IsPermutation-trans _ _ _ (IsPermutation-append_left c _ _ (IsPermutation-append_comm a b)) (IsPermutation-same _ _ (append_assoc b a c)))

-- an element, if it passes
keep : {X : Type 0} → (X → Bool) → X → List X
keep p x = cond (p x) (x ∷ []) []

filter_first : {X : Type 0} (p : X → Bool) (x : X) (xs : List X) → filter p (x ∷ xs) ≡ keep p x ++ filter p xs
unfolding keep
filter_first p x xs = elim (cases_Bool (p x)) [ inl t ↦ rw t refl | inr f ↦ rw f refl ]

-- one element in the place of another
filter_set : {X : Type 0} (p : X → Bool) (xs : List X) (i : ℕ) (v d : X) → i < length xs → IsPermutation (keep p v ++ filter p xs) (keep p (get_or xs i d) ++ filter p (set xs i v))
filter_set p [] i v d h = absurd (omega arith)
filter_set p (x ∷ xs) zero v d h =
    rw (filter_first p x xs, filter_first p v xs) (exchanged (keep p v) (keep p x) (filter p xs))
filter_set p (x ∷ xs) (suc i) v d h =
    let rest = filter_set p xs i v d (omega arith) in
    rw (filter_first p x xs, filter_first p x (set xs i v))
    (IsPermutation-trans _ _ _ (exchanged (keep p v) (keep p x) (filter p xs))
    (IsPermutation-trans _ _ _ (IsPermutation-append_right (keep p x) _ _ rest) (exchanged (keep p x) (keep p (get_or xs i d)) (filter p (set xs i v)))))

-- two elements in each other's place
filter_sets : {X : Type 0} (p : X → Bool) (xs : List X) (i j : ℕ) (d : X) → i < length xs → j < length xs → IsPermutation (filter p xs) (filter p (set (set xs i (get_or xs j d)) j (get_or xs i d)))
filter_sets p [] i j d h k = absurd (omega arith)
filter_sets p (x ∷ xs) zero zero d h k = IsPermutation-refl _
filter_sets p (x ∷ xs) zero (suc j) d h k =
    rw (filter_first p x xs, filter_first p (get_or xs j d) (set xs j x)) (filter_set p xs j x d (omega arith))
filter_sets p (x ∷ xs) (suc i) zero d h k =
    rw (filter_first p x xs, filter_first p (get_or xs i d) (set xs i x)) (filter_set p xs i x d (omega arith))
filter_sets p (x ∷ xs) (suc i) (suc j) d h k =
    rw (filter_first p x xs, filter_first p x (set (set xs i (get_or xs j d)) j (get_or xs i d))) (IsPermutation-append_right (keep p x) _ _ (filter_sets p xs i j d (omega arith) (omega arith)))

filter_swap : {X : Type 0} (p : X → Bool) (xs : List X) (i j : ℕ) → i < length xs → j < length xs → IsPermutation (filter p xs) (filter p (swap xs i j))
filter_swap p [] i j h k = absurd (omega arith)
filter_swap p (x ∷ xs) i j h k =
    let e = swap_is (x ∷ xs) i j x h k in
    rw (← e) (filter_sets p (x ∷ xs) i j x h k)

-- the elements that pass, in another order
pub IsPermutation-filter : {X : Type 0} (p : X → Bool) (xs ys : List X) → IsPermutation xs ys → IsPermutation (filter p xs) (filter p ys)
IsPermutation-filter p xs ys h =
    IsPermutation-keeps xs (λ l. IsPermutation (filter p xs) (filter p l)) (IsPermutation-refl (filter p xs))
    (λ l i j in_i in_j so. IsPermutation-trans _ _ _ so (filter_swap p l i j in_i in_j)) ys h

-- one test is one of two others, of which the other fails
pub data Splits (whole first second : Bool) : Type 0 where
  by_first : whole ≡ first → second ≡ false → Splits whole first second
  by_second : whole ≡ second → first ≡ false → Splits whole first second

-- what passes one of the two tests passes the first or passes the second
pub filter_split : {X : Type 0} (p a b : X → Bool) (xs : List X) → All (λ x. Splits (p x) (a x) (b x)) xs → IsPermutation (filter p xs) (filter a xs ++ filter b xs)
filter_split p a b [] h = IsPermutation-refl []
filter_split p a b (x ∷ xs) h =
    let rest = filter_split p a b xs (All-tail (λ x. Splits (p x) (a x) (b x)) x xs h) in
    elim (All-head (λ x. Splits (p x) (a x) (b x)) x xs h) [
      | by_first e f ↦ elim (cases_Bool (a x)) [
        | inl t ↦ rw (e, f, t) (IsPermutation-cons x _ _ rest)
        | inr g ↦ rw (e, f, g) rest
      ]
      | by_second e f ↦ elim (cases_Bool (b x)) [
        | inl t ↦ rw (e, f, t) (IsPermutation-trans _ _ _ (IsPermutation-cons x _ _ rest) (IsPermutation-sym _ _ (IsPermutation-middle (filter a xs) x (filter b xs))))
        | inr g ↦ rw (e, f, g) rest
      ]
    ]

-- what passes two tests, one after the other
pub filter_twice : {X : Type 0} (p q r : X → Bool) (xs : List X) → All (λ x. r x ≡ (p x && q x)) xs → filter q (filter p xs) ≡ filter r xs
filter_twice p q r [] h = refl
filter_twice p q r (x ∷ xs) h =
    let rest = filter_twice p q r xs (All-tail (λ x. r x ≡ (p x && q x)) x xs h) in
    let e = All-head (λ x. r x ≡ (p x && q x)) x xs h in
    elim (cases_Bool (p x)) [
      | inl t ↦ elim (cases_Bool (q x)) [ inl s ↦ rw (e, t, s) (ap (λ ys. x ∷ ys) rest) | inr g ↦ rw (e, t, g) rest ]
      | inr f ↦ rw (e, f) rest
    ]

pub filter_both : {X : Type 0} (p q : X → Bool) (xs : List X) → filter q (filter p xs) ≡ filter (λ x. p x && q x) xs
filter_both p q [] = refl
filter_both p q (x ∷ xs) =
    elim (cases_Bool (p x)) [
      | inl t ↦ elim (cases_Bool (q x)) [ inl s ↦ rw (t, s) (ap (λ ys. x ∷ ys) (filter_both p q xs)) | inr g ↦ rw (t, g) (filter_both p q xs) ]
      | inr f ↦ rw f (filter_both p q xs)
    ]

-- all pass, or none
pub filter_all : {X : Type 0} (p : X → Bool) (xs : List X) → All (λ x. p x ≡ true) xs → filter p xs ≡ xs
filter_all p [] h = refl
filter_all p (x ∷ xs) h = let e = All-head (λ x. p x ≡ true) x xs h in rw e (ap (λ ys. x ∷ ys) (filter_all p xs (All-tail (λ x. p x ≡ true) x xs h)))

pub filter_none : {X : Type 0} (p : X → Bool) (xs : List X) → All (λ x. p x ≡ false) xs → filter p xs ≡ []
filter_none p [] h = refl
filter_none p (x ∷ xs) h = let e = All-head (λ x. p x ≡ false) x xs h in rw e (filter_none p xs (All-tail (λ x. p x ≡ false) x xs h))
