use Rattle.std.proofs.Common.{◌≡◌, ◌+◌, ◌-◌, ◌<◌, inl, inr, rules, subst, sym, ◌∙◌, arith}
use Rattle.std.proofs.lemmas.Bool.{cases_lt}
use Rattle.raster_ops.specs.Bytes.{HasBytes}
use Rattle.raster_ops.proofs.selector.Selector.select_eights.Goals as goal

pub loop-done-preserved : goal.loop-done-preserved
loop-done-preserved c =
    let done = c.loop-done.done in
    let kept = c.loop-done.invariant in
    let eight = c.selected_eight-eight.ensures in
    let put = c.put_eight.ensures in
    let capacity = c.loop-done-test.true in
    let from = kept.from in
    record {
      from = omega (arith, from);
      within = omega (arith, capacity, kept.within);
      long = search rules;
      each = λ x d low high. elim (cases_lt x done) [
        | inl before ↦ put.others x d (inl before) ∙ kept.each x d low before
        | inr after ↦
            let place : done + (x - done) ≡ x = omega (arith, after) in
            let within : x - done < 8 = omega (arith, after, high) in
            rw place at (put.here (x - done) d within ∙ eight.colours (x - done) d within)
      ];
      parts = λ x d low high. elim (cases_lt x done) [
        | inl before ↦ subst HasBytes (sym (put.others x d (inl before))) (kept.parts x d low before)
        | inr after ↦
            let place : done + (x - done) ≡ x = omega (arith, after) in
            let within : x - done < 8 = omega (arith, after, high) in
            subst HasBytes (sym (rw place at (put.here (x - done) d within))) (eight.parts (x - done) d within)
      ];
      others = λ x d beside. elim beside [
        | inl before ↦ put.others x d (inl (omega (arith, before, from))) ∙ kept.others x d (inl before)
        | inr after ↦ put.others x d (inr after) ∙ kept.others x d (inr (omega (arith, after)))
      ];
    }
