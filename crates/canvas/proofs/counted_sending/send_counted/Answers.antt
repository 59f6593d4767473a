use Rattle.std.proofs.Common.{◌≡◌, ◌+◌, ◌∙◌, ◌&&◌, ℕ, Bool, true, false, cond, eqb, ap, refl, sym, rules, arith}
use Rattle.std.proofs.lemmas.Bool.{eqb-true}
use Rattle.std.proofs.lemmas.List.{take-append-drop, take_rest}
use Rattle.canvas.specs.Sending.{sending_more}
use Rattle.canvas.proofs.counted_sending.send_counted.Goals as goal

-- a write that took a byte is no fault
no_fault : (old new count : ℕ) (some : Bool) → (count ≡ 0 → ⊥) → new ≡ old + cond (eqb count 0 && some) 1 0 → new ≡ old
no_fault old new count some h e = go (eqb count 0) refl
  where
    go : (t : Bool) → eqb count 0 ≡ t → new ≡ old
    go true f = absurd (h (eqb-true count 0 f))
    go false f = let r : new ≡ old + 0 = e ∙ ap (λ t. old + cond (t && some) 1 0) f in omega (arith, r)

-- the writer took the first bytes of the rest
pub loop-rest-preserved-in-Ok : goal.loop-rest-preserved-in-Ok
loop-rest-preserved-in-Ok g c =
    let rest = c.loop-rest.rest.now in
    let count = c.in-Ok.count in
    record {
      sending = rw (take_rest rest count) (sending_more _ _ c.loop-rest.invariant.sending (sym (take-append-drop count rest)) c.in-Ok.ensures.bytes);
      capacity =
          let same = no_fault _ _ count _ c.in-Ok.count-test.1 c.in-Ok.ensures.count in
          let capacity = c.loop-rest.invariant.capacity in
          omega (arith, same, capacity);
      count = search rules;
    }
