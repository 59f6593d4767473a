use Rattle.std.proofs.Common.{◌≡◌, ◌∙◌, ◌-◌, Some, ap, false, length, slice_get, sym, true}
use Rattle.file_info.proofs.DescriptionLemmas.{other_last, without_one}
use Rattle.file_info.proofs.description.drop_last_zeros.Goals as goal

pub loop-units-preserved : goal.loop-units-preserved
loop-units-preserved c =
    let last = ap (λ all. slice_get all (length all - 1)) (sym c.deref.ensures.value) ∙ c.ends_with_zero.ensures.0 c.loop-units-test.true in
    without_one _ _ _ c.pop.ensures.items last ∙ c.loop-units.invariant

pub returns : goal.returns
returns c = sym (other_last c.loop-units.units.items other) ∙ c.loop-units.invariant
  where
    other : slice_get c.loop-units.units.items (length c.loop-units.units.items - 1) ≡ Some 0 → ⊥
    other last =
        let zero = c.ends_with_zero.ensures.1 (ap (λ all. slice_get all (length all - 1)) c.deref.ensures.value ∙ last) in
        let bad : false ≡ true = sym c.loop-units-test.false ∙ zero in
        cc
