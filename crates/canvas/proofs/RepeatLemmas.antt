-- The first colours again, in front of what is not yet filled.
use Rattle.std.proofs.Common.{◌≡◌, ℕ, ◌+◌, ◌-◌, ◌<◌, ◌≤◌, length, List, ◌++◌, ap, arith, get_or, inl, inr, min, refl, ◌∙◌}
use Rattle.std.proofs.Math.ListN.{get_or-append, take}
use Rattle.std.proofs.lemmas.Bool.{cases_lt}
use Rattle.std.proofs.lemmas.List.{get_or-append_right, get_or-take, length-take-le}
use Rattle.mapping.specs.declared.geometry.Colour.{Colour}

-- a count of colours that both parts have
pub enough : (count first : ℕ) (done rest : List Colour) → count ≡ min first (length rest) → first ≤ length done → (count ≤ length done) × (count ≤ length rest)
enough count first done rest least reach = (omega (arith, least, reach), omega (arith, least))

-- what is filled, a copy of the first colours and the rest of the old ones
pub repeated :
    (done copied left : List Colour) (count : ℕ) (colour : Colour) → count ≤ length done → copied ≡ take count done
    → ((k : ℕ) (any : Colour) → k < length done → get_or done k any ≡ colour) → (k : ℕ) (any : Colour) → k < length done + count → get_or (done ++ (copied ++ left)) k any ≡ colour
repeated done copied left count colour few copy same k any below = elim (cases_lt k (length done)) [
  | inl before ↦ get_or-append done (copied ++ left) any k before ∙ same k any before
  | inr after ↦
      let long : length copied ≡ count = ap length copy ∙ length-take-le count done few in
      let near : k - length done < count = omega (arith, after, below) in
      get_or-append_right done (copied ++ left) (length done) k any refl after
      ∙ get_or-append copied left any (k - length done) (omega (arith, near, long))
      ∙ ap (λ all. get_or all (k - length done) any) copy
      ∙ get_or-take count done (k - length done) any near
      ∙ same (k - length done) any (omega (arith, near, few))
]
