-- Products of whole numbers, which the tactics on sums take as one number each: how they distribute, and how they keep the order.
use Rattle.std.proofs.Common.{◌≡◌, ℕ, zero, suc, ℤ, pos, negsuc, neg_ℤ, ◌+ℤ◌, ◌-ℤ◌, ◌*ℤ◌, ◌≤ℤ◌, ◌<ℤ◌, arith, ap, sym, ◌∙◌}
use Rattle.std.proofs.Math.IntN.{*ℤ_comm, suc_ℤ-*ℤ, pred_ℤ-*ℤ, zero-*ℤ}
use Rattle.std.proofs.lemmas.Int.{ints, by_lt_z}

pub mul_comm_ℤ : (a b : ℤ) → a *ℤ b ≡ b *ℤ a
mul_comm_ℤ a b = *ℤ_comm a b

-- a number of times more, and one less
more_times : (n : ℕ) (k : ℤ) → pos (suc n) *ℤ k ≡ pos n *ℤ k +ℤ k
more_times n k = suc_ℤ-*ℤ (pos n) k

less_times : (n : ℕ) (k : ℤ) → negsuc (suc n) *ℤ k ≡ negsuc n *ℤ k -ℤ k
less_times n k = pred_ℤ-*ℤ (negsuc n) k

-- a product distributes over a sum
pub mul_add : (c a b : ℤ) → c *ℤ (a +ℤ b) ≡ c *ℤ a +ℤ c *ℤ b
mul_add (pos zero) a b = omega (arith, ints, zero-*ℤ (a +ℤ b), zero-*ℤ a, zero-*ℤ b)
mul_add (pos (suc n)) a b = omega (arith, ints, more_times n (a +ℤ b), more_times n a, more_times n b, mul_add (pos n) a b)
mul_add (negsuc zero) a b = omega (arith, ints)
mul_add (negsuc (suc n)) a b = omega (arith, ints, less_times n (a +ℤ b), less_times n a, less_times n b, mul_add (negsuc n) a b)

pub add_mul : (a b c : ℤ) → (a +ℤ b) *ℤ c ≡ a *ℤ c +ℤ b *ℤ c
add_mul a b c = omega (arith, ints, mul_add c a b, *ℤ_comm (a +ℤ b) c, *ℤ_comm a c, *ℤ_comm b c)

-- and over a difference
pub mul_sub : (c a b : ℤ) → c *ℤ (a -ℤ b) ≡ c *ℤ a -ℤ c *ℤ b
mul_sub c a b =
    let whole : a ≡ (a -ℤ b) +ℤ b = omega (arith, ints) in
    let e : c *ℤ a ≡ c *ℤ (a -ℤ b) +ℤ c *ℤ b = ap (λ n. c *ℤ n) whole ∙ mul_add c (a -ℤ b) b in
    omega (arith, ints, e)

pub sub_mul : (a b c : ℤ) → (a -ℤ b) *ℤ c ≡ a *ℤ c -ℤ b *ℤ c
sub_mul a b c = omega (arith, ints, mul_sub c a b, *ℤ_comm (a -ℤ b) c, *ℤ_comm a c, *ℤ_comm b c)

-- a sign goes out of a product
pub mul_neg : (c a : ℤ) → c *ℤ neg_ℤ a ≡ neg_ℤ (c *ℤ a)
mul_neg c a =
    let none : neg_ℤ a +ℤ a ≡ pos 0 = omega (arith, ints) in
    let zero_times : c *ℤ pos 0 ≡ pos 0 = *ℤ_comm c (pos 0) ∙ zero-*ℤ c in
    let e : c *ℤ neg_ℤ a +ℤ c *ℤ a ≡ pos 0 = sym (mul_add c (neg_ℤ a) a) ∙ ap (λ n. c *ℤ n) none ∙ zero_times in
    omega (arith, ints, e)

pub neg_mul : (a c : ℤ) → neg_ℤ a *ℤ c ≡ neg_ℤ (a *ℤ c)
neg_mul a c = omega (arith, ints, mul_neg c a, *ℤ_comm (neg_ℤ a) c, *ℤ_comm a c)

-- three factors
pub mul_assoc_ℤ : (a b c : ℤ) → (a *ℤ b) *ℤ c ≡ a *ℤ (b *ℤ c)
mul_assoc_ℤ (pos zero) b c = ap (λ n. n *ℤ c) (zero-*ℤ b) ∙ zero-*ℤ c ∙ sym (zero-*ℤ (b *ℤ c))
mul_assoc_ℤ (pos (suc n)) b c =
    omega (arith, ints, ap (λ m. m *ℤ c) (more_times n b), add_mul (pos n *ℤ b) b c, mul_assoc_ℤ (pos n) b c, more_times n (b *ℤ c))
mul_assoc_ℤ (negsuc zero) b c =
    let opposite : negsuc zero *ℤ b ≡ neg_ℤ b = omega (arith, ints) in
    omega (arith, ints, ap (λ m. m *ℤ c) opposite, neg_mul b c)
mul_assoc_ℤ (negsuc (suc n)) b c =
    omega (arith, ints, ap (λ m. m *ℤ c) (less_times n b), sub_mul (negsuc n *ℤ b) b c, mul_assoc_ℤ (negsuc n) b c, less_times n (b *ℤ c))

-- twice a product is the product with twice a number
pub twice_sum : (a : ℤ) → pos 2 *ℤ a ≡ a +ℤ a
twice_sum a = omega (arith, ints)

pub mul_twice : (a b : ℤ) → a *ℤ (pos 2 *ℤ b) ≡ pos 2 *ℤ (a *ℤ b)
mul_twice a b =
    let e : a *ℤ (pos 2 *ℤ b) ≡ a *ℤ b +ℤ a *ℤ b = ap (λ n. a *ℤ n) (twice_sum b) ∙ mul_add a b b in
    omega (arith, ints, e)

pub twice_mul : (a b : ℤ) → (pos 2 *ℤ a) *ℤ b ≡ pos 2 *ℤ (a *ℤ b)
twice_mul a b = omega (arith, ints, mul_twice b a, *ℤ_comm (pos 2 *ℤ a) b, *ℤ_comm a b)

pub mul_one : (a : ℤ) → a *ℤ pos 1 ≡ a
mul_one a = omega (arith, ints)

-- products of numbers not below 0
pub mul_not_negative : (a b : ℤ) → pos 0 ≤ℤ a → pos 0 ≤ℤ b → pos 0 ≤ℤ (a *ℤ b)
mul_not_negative (pos a) (pos b) h k = omega (arith, ints)
mul_not_negative (pos a) (negsuc b) h k = absurd (omega (arith, ints, k))
mul_not_negative (negsuc a) b h k = absurd (omega (arith, ints, h))

-- a product with a number not below 0 keeps the order
pub mul_order : (c a b : ℤ) → pos 0 ≤ℤ c → a ≤ℤ b → (c *ℤ a) ≤ℤ (c *ℤ b)
mul_order c a b h k =
    let apart : pos 0 ≤ℤ (b -ℤ a) = omega (arith, ints, k) in
    let e = mul_not_negative c (b -ℤ a) h apart in
    omega (arith, ints, e, mul_sub c b a)

pub order_mul : (a b c : ℤ) → pos 0 ≤ℤ c → a ≤ℤ b → (a *ℤ c) ≤ℤ (b *ℤ c)
order_mul a b c h k = let e = mul_order c a b h k in omega (arith, ints, e, *ℤ_comm c a, *ℤ_comm c b)

-- where it is above 0, a product below the next multiple tells the order
pub mul_order_back : (c a b : ℤ) → pos 1 ≤ℤ c → (c *ℤ a) <ℤ (c *ℤ b +ℤ c) → a ≤ℤ b
mul_order_back c a b h k =
    by_lt_z b a
    (λ (g : b <ℤ a).
    let next : (b +ℤ pos 1) ≤ℤ a = omega (arith, ints, g) in
    let e = mul_order c (b +ℤ pos 1) a (omega (arith, ints, h)) next in
    absurd (omega (arith, ints, e, mul_add c b (pos 1), mul_one c, k)))
    (λ (g : a ≤ℤ b). g)

-- the distance was multiplied by the extent first
pub exchanged : (d v p : ℤ) → (d *ℤ v) *ℤ p ≡ (d *ℤ p) *ℤ v
exchanged d v p = mul_assoc_ℤ d v p ∙ ap (λ n. d *ℤ n) (mul_comm_ℤ v p) ∙ sym (mul_assoc_ℤ d p v)
