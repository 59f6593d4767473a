-- The columns of a part by their eighths: each eighth one from one on, and those that have their bit set.
use Rattle.std.proofs.Common.{◌≡◌, ℕ, zero, suc, ◌+◌, ◌-◌, ◌/◌, ◌%◌, ◌<◌, ◌≤◌, Bool, true, false, cond, eqb, ltb, ◌&&◌, ◌||◌, refl, sym, ap, ◌∙◌, subst, arith, inl, inr}
use Rattle.std.proofs.lemmas.Bool.{and_left, and_right, cases_eq, cases_lt, eq-eqb, le-ltb, lt-ltb, ne_eqb}
use Rattle.std.specs.Int.{bit_at}
use Rattle.std.proofs.Math.Bool.{or-false}
use Rattle.mapping.specs.IndexLaws.{count_indexes-append, count_indexes_most, count_indexes_none}
use Rattle.mapping.specs.Pixels.{count_indexes, is_cell}
use Rattle.canvas.proofs.IndexLemmas.{count_either, count_same}

-- the columns with an eighth below n that have their bit set
abbrev pub stage : ℕ → ℕ → ℕ → ℕ → Bool
stage cells column n k = ltb (k % 8) n && is_cell cells (column + k)

-- an eighth's bit is that of each of its columns
same_cell : (cells column offset k : ℕ) → k % 8 ≡ offset → is_cell cells (column + k) ≡ is_cell cells (column + offset)
same_cell cells column offset k e =
    let m : (column + k) % 8 ≡ (column + offset) % 8 = omega arith in ap (λ (i : ℕ). eqb (bit_at cells i) 1) m

pub stage_set : (cells column offset k : ℕ) → is_cell cells (column + offset) ≡ true → stage cells column (offset + 1) k ≡ (stage cells column offset k || eqb (k % 8) offset)
stage_set cells column offset k e = elim (cases_eq (k % 8) offset) [
  | inl h ↦ rw (lt-ltb (k % 8) (offset + 1) (omega arith), le-ltb (k % 8) offset (omega arith), eq-eqb (k % 8) offset h, same_cell cells column offset k h, e) refl
  | inr ne ↦ elim (cases_lt (k % 8) offset) [
    | inl a ↦ rw (lt-ltb (k % 8) (offset + 1) (omega arith), lt-ltb (k % 8) offset a, ne_eqb (k % 8) offset ne) (sym (or-false _))
    | inr b ↦ rw (le-ltb (k % 8) (offset + 1) (omega arith), le-ltb (k % 8) offset b, ne_eqb (k % 8) offset ne) refl
  ]
]

pub stage_unset : (cells column offset k : ℕ) → is_cell cells (column + offset) ≡ false → stage cells column (offset + 1) k ≡ stage cells column offset k
stage_unset cells column offset k e = elim (cases_eq (k % 8) offset) [
  | inl h ↦ rw (lt-ltb (k % 8) (offset + 1) (omega arith), le-ltb (k % 8) offset (omega arith), same_cell cells column offset k h, e) refl
  | inr ne ↦ elim (cases_lt (k % 8) offset) [
    | inl a ↦ rw (lt-ltb (k % 8) (offset + 1) (omega arith), lt-ltb (k % 8) offset a) refl
    | inr b ↦ rw (le-ltb (k % 8) (offset + 1) (omega arith), le-ltb (k % 8) offset b) refl
  ]
]

pub stage_apart : (cells column offset k : ℕ) → (stage cells column offset k && eqb (k % 8) offset) ≡ false
stage_apart cells column offset k = elim (cases_eq (k % 8) offset) [
  | inl h ↦ rw (le-ltb (k % 8) offset (omega arith)) refl
  | inr ne ↦ and_right _ _ (ne_eqb (k % 8) offset ne)
]

pub stage_none : (cells column k : ℕ) → stage cells column 0 k ≡ false
stage_none cells column k = and_left _ _ (le-ltb (k % 8) 0 (omega arith))

pub count_stage_none : (cells column n : ℕ) → count_indexes (stage cells column 0) 0 n ≡ 0
count_stage_none cells column n = count_indexes_none (stage cells column 0) 0 n (λ k a b. stage_none cells column k)

-- the counts before an eighth, and with it
count_with : (cells column offset n : ℕ) → count_indexes (stage cells column offset) 0 n + count_indexes (λ k. eqb (k % 8) offset) 0 n ≡ count_indexes (λ k. stage cells column offset k || eqb (k % 8) offset) 0 n
count_with cells column offset n = sym (count_either (stage cells column offset) (λ k. eqb (k % 8) offset) 0 n (λ k a b. stage_apart cells column offset k))

pub stage_capacity : (cells column offset n : ℕ) → count_indexes (stage cells column offset) 0 n + count_indexes (λ k. eqb (k % 8) offset) 0 n ≤ n
stage_capacity cells column offset n = rw (count_with cells column offset n) (count_indexes_most (λ k. stage cells column offset k || eqb (k % 8) offset) 0 n)

pub count_stage_set : (cells column offset n : ℕ) → is_cell cells (column + offset) ≡ true → count_indexes (stage cells column offset) 0 n + count_indexes (λ k. eqb (k % 8) offset) 0 n ≡ count_indexes (stage cells column (offset + 1)) 0 n
count_stage_set cells column offset n h =
    count_with cells column offset n ∙ count_same (λ k. stage cells column offset k || eqb (k % 8) offset) (stage cells column (offset + 1)) 0 n (λ k a b. sym (stage_set cells column offset k h))

pub count_stage_unset : (cells column offset n : ℕ) → is_cell cells (column + offset) ≡ false → count_indexes (stage cells column offset) 0 n ≡ count_indexes (stage cells column (offset + 1)) 0 n
count_stage_unset cells column offset n h = count_same (stage cells column offset) (stage cells column (offset + 1)) 0 n (λ k a b. sym (stage_unset cells column offset k h))

-- one more index
count-snoc : (p : ℕ → Bool) (n : ℕ) → count_indexes p 0 (n + 1) ≡ count_indexes p 0 n + cond (p n) 1 0
count-snoc p n =
    let z : 0 + n ≡ n = omega arith in
    let last : count_indexes p (0 + n) 1 ≡ cond (p n) 1 0 = ap (λ (i : ℕ). count_indexes p i 1) z ∙ omega arith in
    count_indexes-append p 0 n 1 ∙ ap (λ (m : ℕ). count_indexes p 0 n + m) last

-- how many columns an eighth has
one_more : (n offset : ℕ) → offset < 8 → (n + 1 + 7 - offset) / 8 ≡ (n + 7 - offset) / 8 + cond (eqb (n % 8) offset) 1 0
one_more n offset h = elim (cases_eq (n % 8) offset) [
  | inl e ↦ rw (eq-eqb (n % 8) offset e) (omega arith)
  | inr ne ↦ rw (ne_eqb (n % 8) offset ne) (omega arith)
]

count_eighth_more : (offset n : ℕ) → offset < 8 → (n + 7 - offset) / 8 ≡ count_indexes (λ k. eqb (k % 8) offset) 0 n → (n + 1 + 7 - offset) / 8 ≡ count_indexes (λ k. eqb (k % 8) offset) 0 (n + 1)
count_eighth_more offset n h before = one_more n offset h ∙ sym (count-snoc (λ k. eqb (k % 8) offset) n ∙ ap (λ (m : ℕ). m + cond (eqb (n % 8) offset) 1 0) (sym before))

pub count_eighth : (offset n : ℕ) → offset < 8 → (n + 7 - offset) / 8 ≡ count_indexes (λ k. eqb (k % 8) offset) 0 n
count_eighth offset zero h = omega arith
count_eighth offset (suc n) h =
    let e : n + 1 ≡ suc n = omega arith in
    subst (λ (m : ℕ). (m + 7 - offset) / 8 ≡ count_indexes (λ k. eqb (k % 8) offset) 0 m) e (count_eighth_more offset n h (count_eighth offset n h))
