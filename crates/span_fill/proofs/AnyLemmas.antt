-- One of the numbers below another that passes a test.
use Rattle.std.proofs.Common.{◌≡◌, ℕ, zero, suc, ◌+◌, ◌-◌, ◌<◌, ◌≤◌, Bool, true, false, ◌||◌, List, [], ◌∷◌, refl, ap, sym, subst, ◌∙◌, arith, inl, inr}
use Rattle.std.proofs.lemmas.Bool.{true≢false, cases_lt, or_left, or_right}
use Rattle.std.specs.List.{list_any}
use Rattle.mapping.specs.TestLaws.{by_either, same_test}
use Rattle.span_fill.specs.WideStrokes.{any_below}
use Rattle.span_fill.proofs.CoverLemmas.{any_from, any_passes}

-- two tests that are the same below a number
pub any_same : (f g : ℕ → Bool) (n : ℕ) → ((k : ℕ) → k < n → f k ≡ g k) → any_below f n ≡ any_below g n
any_same f g n same = same_test (any_below f n) (any_below g n)
    (λ t. let there = any_passes f n t in any_from g n there.at there.below (sym (same there.at there.below) ∙ there.passes))
    (λ t. let there = any_passes g n t in any_from f n there.at there.below (same there.at there.below ∙ there.passes))

-- none passes
pub any_none : (f : ℕ → Bool) (n : ℕ) → ((k : ℕ) → k < n → f k ≡ false) → any_below f n ≡ false
any_none f zero none = refl
any_none f (suc n) none =
    ap (λ (b : Bool). b || any_below f n) (none n (omega arith)) ∙ any_none f n (λ k below. none k (omega (arith, below)))

-- more numbers, of which no other passes
pub any_more : (f : ℕ → Bool) (m n : ℕ) → m ≤ n → ((k : ℕ) → m ≤ k → k < n → f k ≡ false) → any_below f m ≡ any_below f n
any_more f m n order none = same_test (any_below f m) (any_below f n)
    (λ t. let there = any_passes f m t in let below = there.below in any_from f n there.at (omega (arith, below, order)) there.passes)
    (λ t.
    let there = any_passes f n t in
    any_from f m there.at (before there.at (λ above. true≢false (sym there.passes ∙ none there.at above there.below))) there.passes)
  where
    before : (k : ℕ) → (m ≤ k → ⊥) → k < m
    before k h = elim (cases_lt k m) [ inl g ↦ g | inr g ↦ absurd (h g) ]

-- what passes below two numbers that overlap, the second counted from another
pub any_joined : (f : ℕ → Bool) (n distance : ℕ) → distance ≤ n → (any_below f n || any_below (λ k. f (distance + k)) n) ≡ any_below f (distance + n)
any_joined f n distance order = same_test _ _
    (λ t. by_either (any_below f n) (any_below (λ k. f (distance + k)) n) t
    (λ (h : any_below f n ≡ true). let there = any_passes f n h in let below = there.below in any_from f (distance + n) there.at (omega (arith, below)) there.passes)
    (λ (h : any_below (λ k. f (distance + k)) n ≡ true).
    let there = any_passes (λ k. f (distance + k)) n h in
    let below = there.below in
    any_from f (distance + n) (distance + there.at) (omega (arith, below)) there.passes))
    (λ t.
    let there = any_passes f (distance + n) t in
    let below = there.below in
    elim (cases_lt there.at n) [
      | inl g ↦ or_left _ _ (any_from f n there.at g there.passes)
      | inr g ↦ or_right _ _ (any_from (λ k. f (distance + k)) n (there.at - distance) (omega (arith, below, g, order))
          (subst (λ (k : ℕ). f k ≡ true) (back there.at distance (omega (arith, g, order))) there.passes))
    ])
  where
    back : (k m : ℕ) → m ≤ k → k ≡ m + (k - m)
    back k m h = omega (arith, h)

-- of two tests, one or the other
pub any_or : (f g : ℕ → Bool) (n : ℕ) → any_below (λ k. f k || g k) n ≡ (any_below f n || any_below g n)
any_or f g n = same_test _ _
    (λ t.
    let there = any_passes (λ k. f k || g k) n t in
    by_either (f there.at) (g there.at) there.passes
    (λ (h : f there.at ≡ true). or_left _ _ (any_from f n there.at there.below h))
    (λ (h : g there.at ≡ true). or_right _ _ (any_from g n there.at there.below h)))
    (λ t. by_either (any_below f n) (any_below g n) t
    (λ (h : any_below f n ≡ true). let there = any_passes f n h in any_from (λ k. f k || g k) n there.at there.below (or_left _ _ there.passes))
    (λ (h : any_below g n ≡ true). let there = any_passes g n h in any_from (λ k. f k || g k) n there.at there.below (or_right _ _ there.passes)))

-- of lines and numbers, the one or the other first
pub any_list : {X : Type 0} (f : X → ℕ → Bool) (xs : List X) (n : ℕ) → any_below (λ k. list_any (λ x. f x k) xs) n ≡ list_any (λ x. any_below (f x) n) xs
any_list f [] n = any_none (λ k. false) n (λ k below. refl)
any_list f (x ∷ xs) n = any_or (f x) (λ k. list_any (λ y. f y k) xs) n ∙ ap (λ (b : Bool). any_below (f x) n || b) (any_list f xs n)

-- the numbers in three parts
pub any_three :
    (f : ℕ → Bool) (a b c n : ℕ) → n ≡ a + (b + c)
    → ((any_below f a || any_below (λ k. f (a + k)) b) || any_below (λ k. f (a + b + k)) c) ≡ any_below f n
any_three f a b c n e = same_test _ _ there back
  where
    again : (k m : ℕ) → m ≤ k → k ≡ m + (k - m)
    again k m h = omega (arith, h)

    there : ((any_below f a || any_below (λ k. f (a + k)) b) || any_below (λ k. f (a + b + k)) c) ≡ true → any_below f n ≡ true
    there t = by_either (any_below f a || any_below (λ k. f (a + k)) b) (any_below (λ k. f (a + b + k)) c) t
        (λ (h : (any_below f a || any_below (λ k. f (a + k)) b) ≡ true). by_either (any_below f a) (any_below (λ k. f (a + k)) b) h
        (λ (g : any_below f a ≡ true). let k = any_passes f a g in let below = k.below in any_from f n k.at (omega (arith, below, e)) k.passes)
        (λ (g : any_below (λ k. f (a + k)) b ≡ true). let k = any_passes (λ k. f (a + k)) b g in let below = k.below in any_from f n (a + k.at) (omega (arith, below, e)) k.passes))
        (λ (h : any_below (λ k. f (a + b + k)) c ≡ true). let k = any_passes (λ k. f (a + b + k)) c h in let below = k.below in any_from f n (a + b + k.at) (omega (arith, below, e)) k.passes)

    back : any_below f n ≡ true → ((any_below f a || any_below (λ k. f (a + k)) b) || any_below (λ k. f (a + b + k)) c) ≡ true
    back t =
        let k = any_passes f n t in
        let below = k.below in
        elim (cases_lt k.at a) [
          | inl g ↦ or_left _ _ (or_left _ _ (any_from f a k.at g k.passes))
          | inr g ↦ elim (cases_lt k.at (a + b)) [
            | inl h ↦ or_left _ _ (or_right _ _ (any_from (λ k. f (a + k)) b (k.at - a) (omega (arith, g, h)) (subst (λ (m : ℕ). f m ≡ true) (again k.at a g) k.passes)))
            | inr h ↦ or_right _ _ (any_from (λ k. f (a + b + k)) c (k.at - (a + b)) (omega (arith, below, e, h)) (subst (λ (m : ℕ). f m ≡ true) (again k.at (a + b) h) k.passes))
          ]
        ]
