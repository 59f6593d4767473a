-- Names of which none is the word for standard input.
use Rattle.std.proofs.Common.{◌≡◌, ◌≤◌, ◌+◌, ap, arith, codes, cond, count_by, refl, ℕ, Bool, List, [], ◌∷◌, false, true}
use Rattle.std.specs.Str.{bytes_eq}
use Rattle.std.proofs.lemmas.List.Elements.{All-head, All-tail}
use Rattle.std.proofs.lemmas.List.Sums.{sum_by-cons}
use Rattle.std.proofs.lemmas.Slice.Eq.{bytes_eq-Decides}
use Rattle.clap.specs.Words.{Text}
use Rattle.command_lines.specs.BatchWords.{HasInputs, HasNoInput}

-- the name is the word for standard input
abbrev is_input : Text → Bool
is_input name = bytes_eq name (codes "stdin")

-- it isn't
abbrev IsNoInput : Text → Type 0
IsNoInput name = name ≡ codes "stdin" → ⊥

-- how many inputs one name is
abbrev inputs_of : Text → ℕ
inputs_of name = cond (is_input name) 1 0

no_input : (name : Text) → IsNoInput name → is_input name ≡ false
no_input name other = go (is_input name) refl
  where
    go : (same : Bool) → is_input name ≡ same → is_input name ≡ false
    go false is = is
    go true is = absurd (other ((bytes_eq-Decides name (codes "stdin")).0 is))

pub none_counted : (names : List Text) → HasNoInput names → HasInputs 0 names
none_counted [] none = omega arith
none_counted (name ∷ names) none =
    let first : inputs_of name ≡ 0 = ap (λ (b : Bool). cond b 1 0) (no_input name (All-head IsNoInput name names none)) in
    let others : count_by is_input names ≤ 0 = none_counted names (All-tail IsNoInput name names none) in
    let both : count_by is_input (name ∷ names) ≡ inputs_of name + count_by is_input names = sum_by-cons _ name names in
    omega (arith, first, others, both)
