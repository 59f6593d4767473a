-- What the last copy doesn't reach was filled before.
use Rattle.std.proofs.Common.{◌≡◌, ℕ, ◌+◌, ◌-◌, ◌%◌, length, ap, arith, get_or, inl, inr, sym, ◌∙◌}
use Rattle.std.proofs.lemmas.Bool.{cases_lt}
use Rattle.canvas.proofs.StripeLemmas.{stripe_at}
use Rattle.canvas.proofs.parts.fill_with_stripes.Goals as goal

pub returns : goal.returns
returns c =
    let stripes = c.args.stripes.now in
    let twice = stripes.twice in
    let column = c.args.column in
    let last = length c.repeat_whole-last.new.part - 8 in
    let same = c.repeat_whole-last.auto.part in
    let long = c.if-part-lt-PERIOD.false in
    let near = c.repeat_whole-last.ensures.all_but_few in
    let first = c.rotated.ensures.place in
    let turned = c.rotated-2.ensures.place in
    λ k d h. elim (cases_lt k last) [
      | inl before ↦
          let e : (column + k % 8) % 8 ≡ (column + k) % 8 = omega arith in
          c.copy_at.ensures.before k d (omega (arith, before))
          ∙ c.repeat_whole-last.ensures.colours k d (omega (arith, before, near, long, same))
          ∙ c.eight_from.ensures (k % 8) d (omega arith)
          ∙ stripe_at twice stripes.same column (k % 8) c.rotated.result d (omega (arith, first)) (omega arith)
          ∙ ap (λ (i : ℕ). get_or twice i d) e
      | inr after ↦
          let at : last + (k - last) ≡ k = omega (arith, after) in
          let e : (column + last + (k - last)) % 8 ≡ (column + k) % 8 = omega (arith, after) in
          ap (λ (i : ℕ). get_or c.copy_at.new.part i d) (sym at)
          ∙ c.copy_at.ensures.here (k - last) d (omega (arith, after, h, long, same))
          ∙ c.eight_from-2.ensures (k - last) d (omega (arith, after, h, long, same))
          ∙ stripe_at twice stripes.same (column + last) (k - last) c.rotated-2.result d (omega (arith, turned)) (omega (arith, after, h, long, same))
          ∙ ap (λ (i : ℕ). get_or twice i d) e
    ]
