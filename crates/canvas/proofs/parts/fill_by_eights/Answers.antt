-- What the last copy doesn't reach was filled before.
use Rattle.std.proofs.Common.{◌≡◌, ℕ, ◌+◌, ◌-◌, ◌%◌, length, ap, arith, get_or, inl, inr, sym, ◌∙◌}
use Rattle.std.proofs.lemmas.Bool.{cases_lt}
use Rattle.canvas.proofs.parts.fill_by_eights.Goals as goal

pub returns : goal.returns
returns c =
    let splat = c.args.splat.now in
    let last = length c.repeat_whole-last.new.part - 8 in
    let same = c.repeat_whole-last.auto.part in
    let long = c.requires in
    let near = c.repeat_whole-last.ensures.all_but_few in
    λ k d h. elim (cases_lt k last) [
      | inl before ↦
          c.copy_at.ensures.before k d (omega (arith, before)) ∙ c.repeat_whole-last.ensures.colours k d (omega (arith, before, near, long, same)) ∙ splat.same (k % 8) d (omega arith)
      | inr after ↦
          let at : last + (k - last) ≡ k = omega (arith, after) in
          ap (λ (i : ℕ). get_or c.copy_at.new.part i d) (sym at) ∙ c.copy_at.ensures.here (k - last) d (omega (arith, after, h, long, same)) ∙ splat.same (k - last) d (omega (arith, after, h, long, same))
    ]
