-- In text mode both axes have unit extents, and otherwise they stay as they are.
use Rattle.std.proofs.Common.{◌∙◌, inl, inr, refl}
use Rattle.mapping.specs.declared.map_mode.MapMode.TheVariants.{Text}
use Rattle.mapping.proofs.MapLemmas.{same_map}
use Rattle.mapping.proofs.page_map.PageMap.set_mode.Goals as goal
use Rattle.mapping.proofs.page_map.PageMap.set_mode.Goals.{in-Text, in-Isotropic}

pub returns : goal.returns
returns c = elim c.match-mode.branch [
  | in-Text w ↦
      let parts = c.args.self.now.parts in
      c.new.ensures ∙ rw (w.t-6-is, w.in-Text.is) (same_map Text _ _ _ _ (w.with_unit_extents.ensures parts) (w.with_unit_extents-in-Text.ensures parts))
  | in-Isotropic w ↦ elim w.in-Isotropic.is [
    | inl e ↦ c.new.ensures ∙ rw (w.t-6-is, e) refl
    | inr e ↦ c.new.ensures ∙ rw (w.t-6-is, e) refl
  ]
]
