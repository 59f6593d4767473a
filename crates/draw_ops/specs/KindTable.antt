-- Tables of kinds: each row has a function or type, and what records of that kind are.
use Rattle.std.specs.Prelude.{◌≡◌, ◌≢◌, ℕ, zero, suc, Bool, true, false, ◌||◌, ◌&&◌, not, ◌==◌, List, [], ◌∷◌, Option, None, find}
use Rattle.std.specs.Option.{option_map}
use Rattle.std.proofs.Common.{refl}
use Rattle.std.proofs.lemmas.Bool.{ne_eqb}

-- what the first row with a kind says
abbrev pub row_with : {A : Type 0} → List (ℕ × A) → ℕ → Option A
row_with rows kind = option_map (λ row. row.1) (find (λ row. row.0 == kind) rows)

-- the kind isn't that of the row, and this holds for the rows after it
pub record IsAbsentFirst (kind row_kind : ℕ) (holds : Type 0) : Type 0 where
  pub other : row_kind ≢ kind
  pub onward : holds

-- no row has the kind
abbrev pub IsAbsent : {A : Type 0} → ℕ → List (ℕ × A) → Type 0
IsAbsent kind [] = Unit {0}
IsAbsent kind (row ∷ rows) = IsAbsentFirst kind row.0 (IsAbsent kind rows)

-- if no row has the kind, nothing is found
pub row_of_absent : {A : Type 0} (kind : ℕ) (rows : List (ℕ × A)) → IsAbsent kind rows → row_with rows kind ≡ None
row_of_absent kind [] absent = refl
row_of_absent kind (row ∷ rows) absent = rw (ne_eqb _ _ absent.other) (row_of_absent kind rows absent.onward)

-- the kind is one of these
abbrev pub is_listed : ℕ → List ℕ → Bool
is_listed kind [] = false
is_listed kind (other ∷ others) = other == kind || is_listed kind others

-- no kind occurs twice
abbrev pub is_each_once : List ℕ → Bool
is_each_once [] = true
is_each_once (kind ∷ kinds) = not (is_listed kind kinds) && is_each_once kinds

-- a kind before others, unless it is listed
abbrev with_unlisted : Bool → ℕ → List ℕ → List ℕ
with_unlisted true kind rest = rest
with_unlisted false kind rest = kind ∷ rest

-- the kinds below a number that aren't listed, in descending order
abbrev pub unlisted_below : ℕ → List ℕ → List ℕ
unlisted_below zero kinds = []
unlisted_below (suc n) kinds = with_unlisted (is_listed n kinds) n (unlisted_below n kinds)
