-- Intervals of several rows, each of which touches the next one.
use Rattle.std.proofs.Common.{◌≡◌, ℕ, zero, suc, ◌≤◌, ℤ, pos, ◌≤ℤ◌, ◌<ℤ◌, subst, arith}
use Rattle.std.specs.Prelude.{◌↔◌}
use Rattle.std.proofs.lemmas.Int.{ints, by_lt_z}

-- one of the intervals up to the n-th has u
pub record HasOne (p q : ℕ → ℤ) (u : ℤ) (n : ℕ) : Type 0 where
  pub at : ℕ
  pub within : at ≤ n
  pub low : p at ≤ℤ u
  pub high : u <ℤ q at

-- numbers that don't fall, and numbers that don't rise
pub rises : (f : ℕ → ℤ) → ((k : ℕ) → f k ≤ℤ f (suc k)) → (k n : ℕ) → k ≤ n → f k ≤ℤ f n
rises f step k zero h = let e : zero ≡ k = omega (arith, h) in subst (λ (i : ℕ). f i ≤ℤ f zero) e (omega (arith, ints))
rises f step k (suc n) h =
    by_lt_z (pos n) (pos k)
    (λ (g : pos n <ℤ pos k). let e : suc n ≡ k = omega (arith, ints, g, h) in subst (λ (i : ℕ). f i ≤ℤ f (suc n)) e (omega (arith, ints)))
    (λ (g : pos k ≤ℤ pos n). let a = rises f step k n (omega (arith, ints, g)) in let b = step n in omega (arith, ints, a, b))

pub falls : (f : ℕ → ℤ) → ((k : ℕ) → f (suc k) ≤ℤ f k) → (k n : ℕ) → k ≤ n → f n ≤ℤ f k
falls f step k zero h = let e : zero ≡ k = omega (arith, h) in subst (λ (i : ℕ). f zero ≤ℤ f i) e (omega (arith, ints))
falls f step k (suc n) h =
    by_lt_z (pos n) (pos k)
    (λ (g : pos n <ℤ pos k). let e : suc n ≡ k = omega (arith, ints, g, h) in subst (λ (i : ℕ). f (suc n) ≤ℤ f i) e (omega (arith, ints)))
    (λ (g : pos k ≤ℤ pos n). let a = falls f step k n (omega (arith, ints, g)) in let b = step n in omega (arith, ints, a, b))

-- where both ends don't fall, what lies from the first low end to the last high one is in one of them
chain_up : (p q : ℕ → ℤ) (u : ℤ) (n : ℕ) → ((k : ℕ) → p (suc k) ≤ℤ q k) → p zero ≤ℤ u → u <ℤ q n → HasOne p q u n
chain_up p q u zero touch low high = record { at = zero; within = omega arith; low = low; high = high }
chain_up p q u (suc n) touch low high =
    by_lt_z u (p (suc n))
    (λ (g : u <ℤ p (suc n)).
    let t = touch n in
    let there = chain_up p q u n touch low (omega (arith, ints, g, t)) in
    let k = there.within in record { at = there.at; within = omega (arith, k); low = there.low; high = there.high })
    (λ (g : p (suc n) ≤ℤ u). record { at = suc n; within = omega arith; low = g; high = high })

chain_down : (p q : ℕ → ℤ) (u : ℤ) (n : ℕ) → ((k : ℕ) → p k ≤ℤ q (suc k)) → p n ≤ℤ u → u <ℤ q zero → HasOne p q u n
chain_down p q u zero touch low high = record { at = zero; within = omega arith; low = low; high = high }
chain_down p q u (suc n) touch low high =
    by_lt_z u (q (suc n))
    (λ (g : u <ℤ q (suc n)). record { at = suc n; within = omega arith; low = low; high = g })
    (λ (g : q (suc n) ≤ℤ u).
    let t = touch n in
    let there = chain_down p q u n touch (omega (arith, ints, g, t)) high in
    let k = there.within in record { at = there.at; within = omega (arith, k); low = there.low; high = there.high })

pub union_up : (p q : ℕ → ℤ) (u : ℤ) (n : ℕ) → ((k : ℕ) → p k ≤ℤ p (suc k)) → ((k : ℕ) → q k ≤ℤ q (suc k)) → ((k : ℕ) → p (suc k) ≤ℤ q k)
    → HasOne p q u n ↔ ((p zero ≤ℤ u) × (u <ℤ q n))
union_up p q u n low high touch = (
  λ h. let a = rises p low zero h.at (omega arith) in let b = rises q high h.at n h.within in let c = h.low in let d = h.high in (omega (arith, ints, a, c), omega (arith, ints, b, d)),
  λ h. chain_up p q u n touch h.0 h.1,
)

pub union_down : (p q : ℕ → ℤ) (u : ℤ) (n : ℕ) → ((k : ℕ) → p (suc k) ≤ℤ p k) → ((k : ℕ) → q (suc k) ≤ℤ q k) → ((k : ℕ) → p k ≤ℤ q (suc k))
    → HasOne p q u n ↔ ((p n ≤ℤ u) × (u <ℤ q zero))
union_down p q u n low high touch = (
  λ h. let a = falls p low h.at n h.within in let b = falls q high zero h.at (omega arith) in let c = h.low in let d = h.high in (omega (arith, ints, a, c), omega (arith, ints, b, d)),
  λ h. chain_down p q u n touch h.0 h.1,
)
