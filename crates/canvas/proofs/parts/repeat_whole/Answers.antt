use Rattle.std.proofs.Common.{◌≡◌, ℕ, ◌+◌, ◌-◌, ◌%◌, ap, arith, get_or, inl, inr, sym, ◌∙◌}
use Rattle.std.proofs.lemmas.Bool.{cases_lt}
use Rattle.canvas.proofs.parts.repeat_whole.Goals as goal

pub loop-filled-preserved : goal.loop-filled-preserved
loop-filled-preserved c =
    let filled = c.loop-filled.filled in
    let turn = c.loop-filled.invariant.turn in
    let long = c.copy_at.auto.part in
    record {
      within = omega arith;
      turn = omega arith;
      each = λ k d h. elim (cases_lt k filled) [
        | inl a ↦ c.copy_at.ensures.before k d a ∙ c.loop-filled.invariant.each k d a
        | inr b ↦
            let e : filled + (k - filled) ≡ k = omega arith in
            let m : k - filled ≡ k % 8 = omega arith in
            let here = c.copy_at.ensures.here (k - filled) d (omega arith) in
            ap (λ (i : ℕ). get_or c.copy_at.new.part i d) (sym e) ∙ here ∙ ap (λ (i : ℕ). get_or c.args.colours.now i d) m
      ];
    }
