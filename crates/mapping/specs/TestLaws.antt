-- What follows from tests of integers and from combined tests. `Rattle.std.proofs.lemmas.Bool` has the same for counts.
use Rattle.std.specs.Prelude.{◌≡◌, ℤ, pos, negsuc, ◌≤ℤ◌, ◌<ℤ◌, Bool, true, false, ◌||◌, T, int_le, int_lt}
use Rattle.std.proofs.Common.{refl, sym, subst}
use Rattle.std.proofs.lemmas.Bool.{false_from_ne_true, le-leb, le-ltb, leb-false, leb-true, lt-ltb, ltb-false, true≢false}

-- a test that has a proof is true, and one that is true has a proof
passes : (test : Bool) → T test → test ≡ true
passes true proof = refl
passes false proof = absurd proof

proved : (test : Bool) → test ≡ true → T test
proved test e = subst T (sym e) tt

-- at most: if the test is true, from the fact, if the test is false, and if the fact is false
pub int_le-true : (a b : ℤ) → int_le a b ≡ true → a ≤ℤ b
int_le-true a b e = record { le = proved (int_le a b) e }

pub int_le-from : (a b : ℤ) → a ≤ℤ b → int_le a b ≡ true
int_le-from a b h = passes (int_le a b) h.le

pub int_le-false : (a b : ℤ) → int_le a b ≡ false → b <ℤ a
int_le-false (pos m) (pos n) e = record { lt = proved _ (lt-ltb n m (leb-false m n e)) }
int_le-false (pos m) (negsuc n) e = record { lt = tt }
int_le-false (negsuc m) (pos n) e = absurd (true≢false e)
int_le-false (negsuc m) (negsuc n) e = record { lt = proved _ (lt-ltb m n (leb-false n m e)) }

pub int_le-not : (a b : ℤ) → (a ≤ℤ b → ⊥) → int_le a b ≡ false
int_le-not a b h = false_from_ne_true (int_le a b) (λ e. h (int_le-true a b e))

-- less than, in the same order
pub int_lt-true : (a b : ℤ) → int_lt a b ≡ true → a <ℤ b
int_lt-true a b e = record { lt = proved (int_lt a b) e }

pub int_lt-from : (a b : ℤ) → a <ℤ b → int_lt a b ≡ true
int_lt-from a b h = passes (int_lt a b) h.lt

pub int_lt-false : (a b : ℤ) → int_lt a b ≡ false → b ≤ℤ a
int_lt-false (pos m) (pos n) e = record { le = proved _ (le-leb n m (ltb-false m n e)) }
int_lt-false (pos m) (negsuc n) e = record { le = tt }
int_lt-false (negsuc m) (pos n) e = absurd (true≢false e)
int_lt-false (negsuc m) (negsuc n) e = record { le = proved _ (le-leb m n (ltb-false n m e)) }

pub int_lt-not : (a b : ℤ) → b ≤ℤ a → int_lt a b ≡ false
int_lt-not (pos m) (pos n) h = le-ltb m n (leb-true n m (passes _ h.le))
int_lt-not (pos m) (negsuc n) h = refl
int_lt-not (negsuc m) (pos n) h = absurd h.le
int_lt-not (negsuc m) (negsuc n) h = le-ltb n m (leb-true m n (passes _ h.le))

-- two tests that imply each other are equal
pub same_test : (a b : Bool) → (a ≡ true → b ≡ true) → (b ≡ true → a ≡ true) → a ≡ b
same_test true b there back = sym (there refl)
same_test false true there back = back refl
same_test false false there back = refl

-- by the value of a test
pub by_test : {P : Type 0} (test : Bool) → (test ≡ true → P) → (test ≡ false → P) → P
by_test true holds fails = holds refl
by_test false holds fails = fails refl

-- by which of two tests is true
pub by_either : {P : Type 0} (a b : Bool) → (a || b) ≡ true → (a ≡ true → P) → (b ≡ true → P) → P
by_either true b e first second = first refl
by_either false b e first second = second e
